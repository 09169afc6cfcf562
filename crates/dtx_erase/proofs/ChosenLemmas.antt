-- The mending as a function: what it gives is the mending.
use Rattle.std.proofs.Common.{◌≡◌, ℕ, ◌+◌, ◌-◌, ◌*◌, ◌≤◌, nat_le, Bool, true, ◌&&◌, Option, Some, None, List, length}
use Rattle.std.proofs.Common.{refl, ap, arith}
use Rattle.std.proofs.lemmas.Bool.{and_parts, and_from, le-leb, leb-true, true≢false}
use Rattle.dtx_galois.specs.Field.{AreBytes}
use Rattle.dtx_laws.specs.Codeword.{IsCorrection}
use Rattle.dtx_laws.specs.Words.{vanishes, correction}
use Rattle.dtx_laws.proofs.ChoiceLemmas.{chosen, none_fits, vanishes_at, vanishes_from, correction_is, correction_none}
use Rattle.dtx_erase.specs.Mending.{lost, unmarked_distance, IsMending}
use Rattle.dtx_erase.proofs.MendingLemmas.{one_mending, correction_mends, mending_corrects}
use Rattle.dtx_erase.specs.Mended.{mending}

abbrev fits : ℕ → ℕ → List Bool → List ℕ → List ℕ → Bool
fits n k marks word c = vanishes n k c && nat_le (2 * unmarked_distance marks word c + lost marks) (n - k)

mending_from : (n k : ℕ) (marks : List Bool) (word c : List ℕ) → fits n k marks word c ≡ true → length c ≡ n
    → AreBytes c → IsMending n k marks word c
mending_from n k marks word c t l b = grind (arith, and_parts, vanishes_at, leb-true)

mending_fits : (n k : ℕ) (marks : List Bool) (word c : List ℕ) → IsMending n k marks word c
    → fits n k marks word c ≡ true
mending_fits n k marks word c h = grind (arith, and_from, vanishes_from, le-leb)

pub mending_is : (n k : ℕ) (marks : List Bool) (word code : List ℕ) → mending n k marks word ≡ Some code
    → IsMending n k marks word code
unfolding mending
mending_is n k marks word code e = mending_from n k marks word code (chosen (fits n k marks word) n code e).0
    (chosen (fits n k marks word) n code e).1.0 (chosen (fits n k marks word) n code e).1.1

pub mending_none : (n k : ℕ) (marks : List Bool) (word : List ℕ) → mending n k marks word ≡ None → (code : List ℕ)
    → IsMending n k marks word code → ⊥
unfolding mending
mending_none n k marks word e code h = grind (arith, true≢false, mending_fits, none_fits)

-- what is a mending is the function's
pub mending_only : (n k : ℕ) (marks : List Bool) (word code : List ℕ) → n ≤ 255 → length word ≡ n → length marks ≡ n
    → IsMending n k marks word code → mending n k marks word ≡ Some code
mending_only n k marks word code m l f h =
    by_answer (mending n k marks word) (mending_is n k marks word) (mending_none n k marks word)
  where
    by_answer : (o : Option (List ℕ)) → ((c : List ℕ) → o ≡ Some c → IsMending n k marks word c)
        → (o ≡ None → (c : List ℕ) → IsMending n k marks word c → ⊥) → o ≡ Some code
    by_answer (Some c) f' g = ap Some (one_mending n k marks word c code m l f (f' c refl) h)
    by_answer None f' g = absurd (g refl code h)

pub mending_never : (n k : ℕ) (marks : List Bool) (word : List ℕ)
    → ((code : List ℕ) → IsMending n k marks word code → ⊥) → mending n k marks word ≡ None
mending_never n k marks word h = by_answer (mending n k marks word) (mending_is n k marks word)
  where
    by_answer : (o : Option (List ℕ)) → ((c : List ℕ) → o ≡ Some c → IsMending n k marks word c) → o ≡ None
    by_answer (Some c) f = absurd (h c (f c refl))
    by_answer None f = refl

-- without marks it is the correction
pub unmarked_mending : (n k : ℕ) (marks : List Bool) (word : List ℕ) → n ≤ 255 → length word ≡ n → length marks ≡ n
    → lost marks ≡ 0 → mending n k marks word ≡ correction n k word
unmarked_mending n k marks word m l f z =
    by_answer (correction n k word) (correction_is n k word) (correction_none n k word)
  where
    by_answer : (o : Option (List ℕ)) → ((c : List ℕ) → o ≡ Some c → IsCorrection n k word c)
        → (o ≡ None → (c : List ℕ) → IsCorrection n k word c → ⊥) → mending n k marks word ≡ o
    by_answer (Some c) g h = mending_only n k marks word c m l f (correction_mends n k marks word c l f z (g c refl))
    by_answer None g h = mending_never n k marks word (λ c p. h refl c (mending_corrects n k marks word c l f z p))
