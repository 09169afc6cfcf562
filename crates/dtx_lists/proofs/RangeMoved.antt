-- Lists over ranges: where two functions agree, also at ranges that begin at different numbers.
use Rattle.std.proofs.Common.{◌≡◌, ℕ, zero, suc, ◌+◌, ◌<◌, ◌≤◌, List, ◌∷◌, ◌++◌, map, refl, sym, ap, ap₂, ◌∙◌, arith}
use Rattle.std.proofs.Common.{add-zero}
use Rattle.std.specs.List.{range_with_len, flat_map}

further : (a i : ℕ) → a + 1 + i ≡ a + suc i
further a i = omega arith

pub map-range_moved : {X : Type 0} (f g : ℕ → X) (a b n : ℕ) → ((i : ℕ) → i < n → f (a + i) ≡ g (b + i))
    → map f (range_with_len a n) ≡ map g (range_with_len b n)
map-range_moved f g a b zero h = refl
map-range_moved f g a b (suc n) h = ap₂ ◌∷◌ (ap f (sym (add-zero a)) ∙ h 0 (omega arith) ∙ ap g (add-zero b))
    (map-range_moved f g (a + 1) (b + 1) n (λ i l. rw (further a i, h (suc i) (omega arith), ← further b i)))

pub flat_map-range_same : {X : Type 0} (f g : ℕ → List X) (a n : ℕ) → ((i : ℕ) → a ≤ i → i < a + n → f i ≡ g i)
    → flat_map f (range_with_len a n) ≡ flat_map g (range_with_len a n)
flat_map-range_same f g a zero h = refl
flat_map-range_same f g a (suc n) h = ap₂ ◌++◌ (h a (omega arith) (omega arith)) (flat_map-range_same f g (a + 1) n
    (λ i l m. h i (omega arith) (omega arith)))
