use Rattle.dtx_symbol_laws.proofs.SoftBack.{soft_read_back}
use Rattle.dtx_symbol_laws.proofs.soft_laws.written_segments.Goals as goal

pub returns : goal.returns
returns c = soft_read_back
