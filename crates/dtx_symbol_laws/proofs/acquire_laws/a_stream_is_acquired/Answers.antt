use Rattle.dtx_symbol_laws.proofs.AcquiredStream.{stream_acquired}
use Rattle.dtx_symbol_laws.proofs.acquire_laws.a_stream_is_acquired.Goals as goal

pub returns : goal.returns
returns c = stream_acquired c.coder_takes_a_path.ensures c.a_small_error_moves_nothing.ensures
