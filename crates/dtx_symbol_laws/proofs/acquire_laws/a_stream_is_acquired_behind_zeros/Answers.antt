use Rattle.dtx_symbol_laws.proofs.AcquiredStream.{behind_zeros_acquired}
use Rattle.dtx_symbol_laws.proofs.acquire_laws.a_stream_is_acquired_behind_zeros.Goals as goal

pub returns : goal.returns
returns c = behind_zeros_acquired c.coder_takes_a_path.ensures c.silence_moves_nothing.ensures.segments
