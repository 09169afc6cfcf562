use Rattle.std.proofs.Common.{refl}
use Rattle.dtx_receiver.proofs.Stands.{decoding, decodes_first}
use Rattle.dtx_receiver.proofs.decoder.DecoderRunDecoder.begin.Goals as goal

pub returns : goal.returns
returns c =
    decodes_first c.args.sync.now
    (decoding c.begin.new.self.levels c.begin.new.self.precoder_bits c.start.new.self 0)
    c.begin.ensures.grouped.levels c.start.ensures.stands refl
