use Rattle.dtx_calm_feed.proofs.Lines.{all_said}
use Rattle.dtx_calm_feed.proofs.laws.each_line_is_so.Goals as goal

pub returns : goal.returns
returns c = all_said
