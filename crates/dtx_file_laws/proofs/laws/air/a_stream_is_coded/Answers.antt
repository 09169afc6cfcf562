use Rattle.dtx_file_laws.proofs.Coded.{coded_with}
use Rattle.dtx_file_laws.proofs.laws.air.a_stream_is_coded.Goals as goal

pub returns : goal.returns
returns c = coded_with
