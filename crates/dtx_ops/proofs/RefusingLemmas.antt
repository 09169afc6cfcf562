-- The first rule that holds, of two lists of rules, and what follows for a packet.
use Rattle.std.proofs.Common.{◌≡◌, ◌≢◌, ℕ, Bool, true, false, List, [], ◌∷◌, ◌++◌, Option, Some, None, Err, take, drop}
use Rattle.std.proofs.Common.{length, refl, sym, arith}
use Rattle.std.proofs.lemmas.Bool.{eq-eqb, ne_eqb}
use Rattle.std.proofs.lemmas.Option.{none-some}
use Rattle.dtx_packets.specs.Packets.{pid_of}
use Rattle.dtx_laws.specs.Codeword.{IsCorrection}
use Rattle.dtx_laws.specs.Words.{correction}
use Rattle.dtx_laws.proofs.ChoiceLemmas.{correction_is, correction_only}
use Rattle.dtx_ops.specs.declared.refusal.OpsNo.{OpsNo}
use Rattle.dtx_ops.specs.declared.refusal.OpsNo.TheVariants.{NotOps, Uncorrectable}
use Rattle.dtx_ops.specs.Reading.{first, corrected, rules, data_reading, reading}

pub first_some : (xs ys : List (Bool × OpsNo)) (refusal : OpsNo) → first xs ≡ Some refusal
    → first (xs ++ ys) ≡ Some refusal
first_some [] ys refusal e = absurd (none-some refusal e)
first_some ((true, r) ∷ xs) ys refusal e = e
first_some ((false, r) ∷ xs) ys refusal e = first_some xs ys refusal e

pub first_none : (xs ys : List (Bool × OpsNo)) → first xs ≡ None → first (xs ++ ys) ≡ first ys
first_none [] ys e = refl
first_none ((true, r) ∷ xs) ys e = absurd (none-some r (sym e))
first_none ((false, r) ∷ xs) ys e = first_none xs ys e

-- a packet of another identifier
pub reading_other : (packet : List ℕ) → pid_of packet ≢ 0x1FFA → reading packet ≡ Err NotOps
unfolding reading rules
reading_other packet h = rw (ne_eqb (pid_of packet) 0x1FFA h) refl

-- an operations packet whose payload has no correction
pub reading_none : (packet : List ℕ) → pid_of packet ≡ 0x1FFA → corrected packet ≡ None
    → reading packet ≡ Err Uncorrectable
unfolding reading rules
reading_none packet h e = rw (eq-eqb (pid_of packet) 0x1FFA h, e) refl

-- an operations packet whose payload has one
pub reading_some : (packet bytes : List ℕ) → pid_of packet ≡ 0x1FFA → corrected packet ≡ Some bytes
    → reading packet ≡ data_reading bytes
unfolding reading rules data_reading
reading_some packet bytes h e = rw (eq-eqb (pid_of packet) 0x1FFA h, e) refl

-- the corrected data, by a correction that was found
pub corrected_by : (packet word code : List ℕ) → word ≡ drop 4 packet → length word ≡ 184
    → IsCorrection 184 164 word code → corrected packet ≡ Some (take 164 code)
unfolding corrected
corrected_by packet word code e l h = rw (sym e, correction_only 184 164 word code (omega arith) l h) refl

none_by : (word : List ℕ) (found : Option (List ℕ)) → correction 184 164 word ≡ found
    → ((code : List ℕ) → IsCorrection 184 164 word code → ⊥) → found ≡ None
none_by word None e h = refl
none_by word (Some code) e h = absurd (h code (correction_is 184 164 word code e))

pub none_corrected : (packet word : List ℕ) → word ≡ drop 4 packet
    → ((code : List ℕ) → IsCorrection 184 164 word code → ⊥) → corrected packet ≡ None
unfolding corrected
none_corrected packet word e h = rw (sym e, none_by word (correction 184 164 word) refl h) refl
