-- What a test leaves of a range.
use Rattle.std.proofs.Common.{◌≡◌, ℕ, zero, suc, ◌+◌, ◌<◌, ◌≤◌, Bool, true, false, cond, List, [], ◌∷◌, refl, ap}
use Rattle.std.proofs.Common.{◌∙◌, arith}
use Rattle.std.specs.List.{filter, range_with_len}

pub filter-kept : (p : ℕ → Bool) (a : ℕ) (xs : List ℕ) → p a ≡ true → filter p (a ∷ xs) ≡ a ∷ filter p xs
filter-kept p a xs e = ap (λ b. cond b (a ∷ filter p xs) (filter p xs)) e

pub filter-lost : (p : ℕ → Bool) (a : ℕ) (xs : List ℕ) → p a ≡ false → filter p (a ∷ xs) ≡ filter p xs
filter-lost p a xs e = ap (λ b. cond b (a ∷ filter p xs) (filter p xs)) e

pub filter-range_all : (p : ℕ → Bool) (a n : ℕ) → ((i : ℕ) → a ≤ i → i < a + n → p i ≡ true)
    → filter p (range_with_len a n) ≡ range_with_len a n
filter-range_all p a zero h = refl
filter-range_all p a (suc n) h = filter-kept p a (range_with_len (a + 1) n) (h a (omega arith) (omega arith))
    ∙ ap (λ xs. a ∷ xs) (filter-range_all p (a + 1) n (λ i l m. h i (omega arith) (omega arith)))

pub filter-range_none : (p : ℕ → Bool) (a n : ℕ) → ((i : ℕ) → a ≤ i → i < a + n → p i ≡ false)
    → filter p (range_with_len a n) ≡ []
filter-range_none p a zero h = refl
filter-range_none p a (suc n) h = filter-lost p a (range_with_len (a + 1) n) (h a (omega arith) (omega arith))
    ∙ filter-range_none p (a + 1) n (λ i l m. h i (omega arith) (omega arith))
