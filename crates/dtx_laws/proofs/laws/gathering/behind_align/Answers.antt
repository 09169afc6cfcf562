use Rattle.dtx_laws.proofs.GatheringLemmas.{behind_calls}
use Rattle.dtx_laws.proofs.laws.gathering.behind_align.Goals as goal

pub returns : goal.returns
returns c = behind_calls
