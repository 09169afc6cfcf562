use Rattle.dtx_calm_feed.proofs.Marks.{locked}
use Rattle.dtx_calm_feed.proofs.laws.locked_at_any_mark.Goals as goal

pub returns : goal.returns
returns c = λ feed m n calm mark some inside. locked feed m n calm.anchor_is mark some inside
