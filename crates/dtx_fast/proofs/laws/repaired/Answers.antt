use Rattle.dtx_fast.proofs.RepairLemmas.{repaired_right}
use Rattle.dtx_fast.proofs.laws.repaired.Goals as goal

pub returns : goal.returns
returns c = repaired_right
