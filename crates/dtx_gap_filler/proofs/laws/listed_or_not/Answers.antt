use Rattle.dtx_gap_filler.proofs.Listed.{listed_or_not}
use Rattle.dtx_gap_filler.proofs.laws.listed_or_not.Goals as goal

pub returns : goal.returns
returns c = listed_or_not
