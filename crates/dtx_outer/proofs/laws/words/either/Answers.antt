use Rattle.dtx_outer.proofs.Runs.{none_or_packet}
use Rattle.dtx_outer.proofs.laws.words.either.Goals as goal

pub returns : goal.returns
returns c = none_or_packet
