use Rattle.dtx_symbol_laws.proofs.SoftMoved.{file_moved}
use Rattle.dtx_symbol_laws.proofs.soft_laws.cost_of_all.Goals as goal

pub returns : goal.returns
returns c = file_moved
