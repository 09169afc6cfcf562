use Rattle.std.proofs.Common.{◌≡◌, ◌∙◌, ℕ, ℤ, List, drop, refl, ap, rules}
use Rattle.std.proofs.lemmas.Int.{to_z-of_z}
use Rattle.std.specs.Int.{w16, cast_signed}
use Rattle.byteorder.specs.Endian.{big_number}
use Rattle.dtx_ops.specs.declared.fields.Entry.{Entry}
use Rattle.dtx_ops.specs.Fields.{entry_in}
use Rattle.dtx_ops.proofs.Writes.{to_end}
use Rattle.dtx_ops.proofs.reading.entry.Goals as goal

entry_by : (bytes : List ℕ) (address : ℕ) (offset : ℤ) → address ≡ big_number 2 bytes
    → offset ≡ cast_signed w16 (big_number 2 (drop 2 bytes))
    → ◌≡◌ {A = Entry} (record { address = address; offset = offset }) (entry_in bytes)
unfolding entry_in
entry_by bytes address offset e f = rw (e, f) refl

pub returns : goal.returns
returns c =
    entry_by c.args.bytes.now _ _ c.read_u16.ensures
    (to_z-of_z w16 c.read_i16.result (search rules) ∙ c.read_i16.ensures
    ∙ ap (λ bytes. cast_signed w16 (big_number 2 bytes)) (to_end 2 c.args.bytes.now))
