use Rattle.std.proofs.Common.{rules}
use Rattle.dtx_erase.proofs.Decoding.{decodes_first}
use Rattle.dtx_erase.proofs.decoder.MendDecoderRunDecoder.begin.Goals as goal

pub returns : goal.returns
returns c = search (rules, decodes_first)
