use Rattle.dtx_file_laws.proofs.Stretches.{all_received_back}
use Rattle.dtx_file_laws.proofs.laws.air.a_stretch_is_received.Goals as goal

pub returns : goal.returns
returns c = all_received_back
