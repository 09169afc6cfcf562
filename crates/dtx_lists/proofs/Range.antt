-- Lists over a range: parts, maps, and a test at each number.
use Rattle.std.proofs.Common.{◌≡◌, ℕ, zero, suc, ◌+◌, ◌<◌, ◌≤◌, ◌⊎◌, Bool, true, ◌∷◌, ◌++◌, map, refl, sym}
use Rattle.std.proofs.Common.{ap, ap₂, ◌∙◌, arith, inl, inr, add-zero}
use Rattle.std.specs.List.{range_with_len, list_all}
use Rattle.std.proofs.lemmas.Bool.{and_parts, and_from}

-- a number that isn't below a is a, or is above it
pub range_cases : (a i : ℕ) → a ≤ i → (a ≡ i) ⊎ (a + 1 ≤ i)
range_cases a i l = grind arith

next : (a n : ℕ) → a + 1 + n ≡ a + suc n
next a n = omega arith

pub range_with_len-parts : (a m n : ℕ) → range_with_len a (m + n) ≡ range_with_len a m ++ range_with_len (a + m) n
range_with_len-parts a zero n = grind (arith, add-zero)
range_with_len-parts a (suc m) n =
    let p : suc m + n ≡ suc (m + n) = omega arith in
    ap (range_with_len a) p ∙ ap (λ xs. a ∷ xs) (rw (range_with_len-parts (a + 1) m n, next a m))

-- where two functions agree
pub map-range_same : {X : Type 0} (f g : ℕ → X) (a n : ℕ) → ((i : ℕ) → a ≤ i → i < a + n → f i ≡ g i)
    → map f (range_with_len a n) ≡ map g (range_with_len a n)
map-range_same f g a zero h = refl
map-range_same f g a (suc n) h =
    ap₂ ◌∷◌ (h a (omega arith) (omega arith)) (map-range_same f g (a + 1) n (λ i l m. h i (omega arith) (omega arith)))

-- what a test that passes over a range says at a number of it
pub list_all-range_at : (f : ℕ → Bool) (a n : ℕ) → list_all f (range_with_len a n) ≡ true → (i : ℕ) → a ≤ i → i < a + n
    → f i ≡ true
list_all-range_at f a zero t i l m = absurd (omega arith)
list_all-range_at f a (suc n) t i l m =
    let h : (f a ≡ true) × (list_all f (range_with_len (a + 1) n) ≡ true) = grind (arith, and_parts) in
    by_place (range_cases a i l) h.0 (λ p. list_all-range_at f (a + 1) n h.1 i p (omega arith))
  where
    by_place : (a ≡ i) ⊎ (a + 1 ≤ i) → f a ≡ true → (a + 1 ≤ i → f i ≡ true) → f i ≡ true
    by_place (inl e) h g = ap f (sym e) ∙ h
    by_place (inr p) h g = g p

-- it passes where it does at each number
pub list_all-range_from : (f : ℕ → Bool) (a n : ℕ) → ((i : ℕ) → a ≤ i → i < a + n → f i ≡ true)
    → list_all f (range_with_len a n) ≡ true
list_all-range_from f a zero h = refl
list_all-range_from f a (suc n) h =
    and_from (f a) (list_all f (range_with_len (a + 1) n)) (h a (omega arith) (omega arith))
    (list_all-range_from f (a + 1) n (λ i l m. h i (omega arith) (omega arith)))
