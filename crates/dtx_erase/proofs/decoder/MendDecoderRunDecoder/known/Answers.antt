use Rattle.dtx_erase.proofs.Decoding.{mending}
use Rattle.dtx_erase.proofs.decoder.MendDecoderRunDecoder.known.Goals as goal

pub returns : goal.returns
returns c = mending
