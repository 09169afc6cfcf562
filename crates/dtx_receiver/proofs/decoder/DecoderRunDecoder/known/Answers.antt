use Rattle.dtx_receiver.proofs.Stands.{receiving}
use Rattle.dtx_receiver.proofs.decoder.DecoderRunDecoder.known.Goals as goal

pub returns : goal.returns
returns c = receiving
