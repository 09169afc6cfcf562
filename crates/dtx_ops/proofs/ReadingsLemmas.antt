-- What packets read as.
use Rattle.std.proofs.Common.{◌≡◌, ℕ, ◌≤◌, ◌==◌, List, [], Option, Some, None, Result, Ok, Err, length, take, drop}
use Rattle.std.proofs.Common.{option_map, unwrap_or, IfOk, refl, ap, sym, subst, ◌∙◌, inl, inr, arith}
use Rattle.std.proofs.lemmas.Bool.{cases_Bool, eqb-true, eqb-false}
use Rattle.std.proofs.lemmas.List.{length-drop, length-take-le}
use Rattle.std.proofs.lemmas.Option.{none-some, same_Some}
use Rattle.dtx_galois.specs.Field.{AreBytes}
use Rattle.dtx_laws.specs.Codeword.{IsCorrection, distance}
use Rattle.dtx_laws.specs.Words.{codeword, correction}
use Rattle.dtx_laws.proofs.ChoiceLemmas.{codeword_is, codeword_begins, correction_is}
use Rattle.dtx_packets.specs.Packets.{pid_of}
use Rattle.dtx_ops.specs.declared.fields.Ops.{Ops}
use Rattle.dtx_ops.specs.declared.refusal.OpsNo.{OpsNo}
use Rattle.dtx_ops.specs.Fields.{fields}
use Rattle.dtx_ops.specs.Reading.{first, data_rules, corrected, rules, unless, data_reading, reading, ReadsAs}
use Rattle.dtx_ops.specs.Spelling.{IsValid, data_of, spelling}
use Rattle.dtx_ops.proofs.DataLemmas.{length-data_of, AreBytes-data_of, data_reading-data_of, data_of-fields}
use Rattle.dtx_ops.proofs.DataLemmas.{valid_fields}
use Rattle.dtx_ops.proofs.NumbersLemmas.{AreBytes-take}
use Rattle.dtx_ops.proofs.PassingLemmas.{passes_unrefused}
use Rattle.dtx_ops.proofs.RefusingLemmas.{reading_other, reading_none, reading_some, corrected_by}

abbrev fields_if : Result Ops OpsNo → Option Ops
fields_if (Ok f) = Some f
fields_if (Err refusal) = None

abbrev refusal_if : Result Ops OpsNo → Option OpsNo
refusal_if (Ok f) = None
refusal_if (Err refusal) = Some refusal

err-ok : (refusal : OpsNo) (f : Ops) → Err refusal ≡ Ok f → ⊥
err-ok refusal f e = none-some f (ap fields_if e)

-- the fields are those of data that no rule refuses
unless_ok : (o : Option OpsNo) (g f : Ops) → unless o g ≡ Ok f → (o ≡ None) × (g ≡ f)
unless_ok None g f e = (refl, same_Some g f (ap fields_if e))
unless_ok (Some refusal) g f e = absurd (err-ok refusal f e)

unless_err : (o : Option OpsNo) (g : Ops) (refusal : OpsNo) → unless o g ≡ Err refusal → o ≡ Some refusal
unless_err None g refusal e = absurd (none-some refusal (ap refusal_if e))
unless_err (Some other) g refusal e = ap refusal_if e

pub refused : (packet : List ℕ) (refusal : OpsNo) → reading packet ≡ Err refusal → first (rules packet) ≡ Some refusal
unfolding reading
refused packet refusal e = unless_err (first (rules packet)) (fields (unwrap_or (corrected packet) [])) refusal e

pub refusal_read : (packet : List ℕ) (refusal : OpsNo) → first (rules packet) ≡ Some refusal
    → reading packet ≡ Err refusal
unfolding reading
refusal_read packet refusal e = ap (λ (o : Option OpsNo). unless o (fields (unwrap_or (corrected packet) []))) e

-- the bytes of a correction
code_of : (o : Option (List ℕ)) (bytes : List ℕ) → option_map (λ code. take 164 code) o ≡ Some bytes
    → (code : List ℕ) × (o ≡ Some code) × (take 164 code ≡ bytes)
code_of None bytes e = absurd (none-some bytes e)
code_of (Some code) bytes e = (code, refl, same_Some (take 164 code) bytes e)

-- data that were corrected are as long as they are to be
record AreCorrected (packet bytes : List ℕ) : Type 0 where
  code : List ℕ
  correction : IsCorrection 184 164 (drop 4 packet) code
  begins : take 164 code ≡ bytes

are_corrected : (packet bytes : List ℕ) → corrected packet ≡ Some bytes → AreCorrected packet bytes
unfolding corrected
are_corrected packet bytes e =
    let found = code_of (correction 184 164 (drop 4 packet)) bytes e in
    record { code = found.0; correction = correction_is 184 164 (drop 4 packet) found.0 found.1; begins = found.2 }

payload_long : (packet : List ℕ) → length packet ≡ 188 → length (drop 4 packet) ≡ 184
payload_long packet l = omega (arith, l, length-drop 4 packet)

-- ---- corrected data

pub corrected_some : (packet code : List ℕ) → length packet ≡ 188 → IsCorrection 184 164 (drop 4 packet) code
    → corrected packet ≡ Some (take 164 code)
corrected_some packet code l h = corrected_by packet (drop 4 packet) code refl (payload_long packet l) h

pub corrected_none : (packet : List ℕ) → length packet ≡ 188 → corrected packet ≡ None → (code : List ℕ)
    → IsCorrection 184 164 (drop 4 packet) code → ⊥
corrected_none packet l e code h = none-some (take 164 code) (sym e ∙ corrected_some packet code l h)

-- ---- reading by the relation

from_corrected : (packet bytes : List ℕ) (f : Ops) → pid_of packet ≡ 0x1FFA → corrected packet ≡ Some bytes
    → data_reading bytes ≡ Ok f → ReadsAs packet f
unfolding data_reading
from_corrected packet bytes f p e r =
    let c = are_corrected packet bytes e in
    let parts = unless_ok (first (data_rules bytes)) (fields bytes) f r in
    let passes = passes_unrefused bytes parts.0 in
    let word = c.correction.codeword in
    let long : length bytes ≡ 164 = ap (λ (t : List ℕ). length t) (sym c.begins)
    ∙ length-take-le 164 c.code (omega (arith, word.long)) in
    let are : AreBytes bytes = subst (λ (t : List ℕ). AreBytes t) c.begins (AreBytes-take 164 c.code word.bytes) in
    record {
      valid = subst (λ (g : Ops). IsValid g) parts.1 (valid_fields bytes long are passes);
      pid = p;
      code = c.code;
      correction = c.correction;
      spelled = c.begins ∙ sym (data_of-fields bytes long are passes) ∙ ap data_of parts.1;
    }

by_corrected : (packet : List ℕ) (f : Ops) (o : Option (List ℕ)) → corrected packet ≡ o → pid_of packet ≡ 0x1FFA
    → reading packet ≡ Ok f → ReadsAs packet f
by_corrected packet f None e p r = absurd (err-ok _ f (sym (reading_none packet p e) ∙ r))
by_corrected packet f (Some bytes) e p r = from_corrected packet bytes f p e (sym (reading_some packet bytes p e) ∙ r)

pub read_as : (packet : List ℕ) (f : Ops) → reading packet ≡ Ok f → ReadsAs packet f
read_as packet f r = elim (cases_Bool (pid_of packet == 0x1FFA)) [
  | inl yes_pid ↦ by_corrected packet f (corrected packet) refl (eqb-true (pid_of packet) 0x1FFA yes_pid) r
  | inr no_pid ↦ absurd (err-ok _ f (sym (reading_other packet (eqb-false (pid_of packet) 0x1FFA no_pid)) ∙ r))
]

pub valid_read : (packet : List ℕ) (r : Result Ops OpsNo) → r ≡ reading packet → IfOk r IsValid
valid_read packet (Ok f) e = (read_as packet f (sym e)).valid
valid_read packet (Err refusal) e = tt

pub reads : (packet : List ℕ) (f : Ops) → length packet ≡ 188 → ReadsAs packet f → reading packet ≡ Ok f
reads packet f l r =
    let found = corrected_some packet r.code l r.correction ∙ ap (λ (t : List ℕ). Some t) r.spelled in
    reading_some packet (data_of f) r.pid found ∙ data_reading-data_of f r.valid

-- ---- what was written

pub payload_of_spelling : (f : Ops) (counter sync : ℕ) → drop 4 (spelling f counter sync) ≡ codeword 184 164 (data_of f)
unfolding spelling
payload_of_spelling f counter sync = refl

pub changed_reads : (f : Ops) (counter sync : ℕ) (packet : List ℕ) → IsValid f → length packet ≡ 188
    → pid_of packet ≡ 0x1FFA → distance (drop 4 packet) (drop 4 (spelling f counter sync)) ≤ 10 → reading packet ≡ Ok f
changed_reads f counter sync packet h l p d =
    let near : distance (drop 4 packet) (codeword 184 164 (data_of f)) ≤ 10 = grind (arith, payload_of_spelling) in
    let is = codeword_is 184 164 (data_of f) (omega arith) (length-data_of f h) (AreBytes-data_of f h) in
    reads packet f l (record {
      valid = h;
      pid = p;
      code = (codeword 184 164 (data_of f));
      correction = record { codeword = is; near = omega (arith, near) };
      spelled = codeword_begins 184 164 (data_of f) (length-data_of f h);
    })

pub pid_of-spelling : (f : Ops) (counter sync : ℕ) → pid_of (spelling f counter sync) ≡ 0x1FFA
unfolding spelling
pid_of-spelling f counter sync = refl
