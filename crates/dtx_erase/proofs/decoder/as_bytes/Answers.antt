use Rattle.std.proofs.Common.{◌∙◌, sym, arith, pos}
use Rattle.std.proofs.lemmas.List.{ext_get_or, get_or-map, length-map}
use Rattle.std.specs.Int.{w8, cast_signed}
use Rattle.dtx_erase.proofs.decoder.as_bytes.Goals as goal

pub returns : goal.returns
returns c = ext_get_or (pos 0) _ c.args.segment.now
    (length-map c.loop-i.bytes (λ byte. cast_signed w8 byte) ∙ c.loop-i.invariant.long ∙ sym c.told-segment)
    (λ j l. grind (arith, get_or-map, length-map))
