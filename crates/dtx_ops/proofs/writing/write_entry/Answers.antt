use Rattle.std.proofs.Common.{ℕ, List, ◌++◌, ◌∙◌, drop, ap, refl, rules}
use Rattle.std.proofs.lemmas.Int.{to_z-of_z}
use Rattle.std.proofs.lemmas.List.{drop-drop}
use Rattle.std.specs.Prelude.{FitsSigned, ℤ}
use Rattle.std.specs.Int.{w16, cast_signed, cast_unsigned}
use Rattle.byteorder.specs.Endian.{big_bytes}
use Rattle.dtx_ops.specs.Spelling.{entry_bytes}
use Rattle.dtx_ops.proofs.Writes.{wrote_at}
use Rattle.dtx_ops.proofs.writing.write_entry.Goals as goal

pub returns-clause-bytes : goal.returns-clause-bytes
unfolding entry_bytes
returns-clause-bytes c =
    let e = c.args.entry.now in
    let fits : FitsSigned w16 e.offset = search rules in
    let address = big_bytes 2 e.address in
    let offset = big_bytes 2 (cast_unsigned w16 (cast_signed w16 (cast_unsigned w16 e.offset))) in
    wrote_at 2 _ address (drop 2 c.args.out.now) offset c.write_u16.new.buf
    c.write_i16.new.buf 2 c.write_u16.ensures refl refl c.write_i16.ensures
    ∙ ap (λ (t : List ℕ). address ++ (offset ++ t)) (drop-drop 2 2 c.args.out.now)
    ∙ ap (λ (z : ℤ). (address ++ big_bytes 2 (cast_unsigned w16 z)) ++ drop 4 c.args.out.now)
    (to_z-of_z w16 e.offset fits)
