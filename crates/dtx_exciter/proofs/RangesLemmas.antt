-- Lists over ranges that begin at different numbers.
use Rattle.std.proofs.Common.{◌≡◌, ℕ, zero, suc, ◌+◌, ◌<◌, Option, Some, None, option_map, List, [], ◌∷◌, ◌++◌, map}
use Rattle.std.proofs.Common.{refl, sym, ap, ap₂, ◌∙◌, arith, add-zero}
use Rattle.std.specs.List.{range_with_len, flat_map, filter_map, cons_option}

further : (a i : ℕ) → a + 1 + i ≡ a + suc i
further a i = omega arith

pub flat_map-range_moved : {X : Type 0} (f g : ℕ → List X) (a b n : ℕ) → ((i : ℕ) → i < n → f (a + i) ≡ g (b + i))
    → flat_map f (range_with_len a n) ≡ flat_map g (range_with_len b n)
flat_map-range_moved f g a b zero h = refl
flat_map-range_moved f g a b (suc n) h = ap₂ ◌++◌ (ap f (sym (add-zero a)) ∙ h 0 (omega arith) ∙ ap g (add-zero b))
    (flat_map-range_moved f g (a + 1) (b + 1) n (λ i l. rw (further a i, h (suc i) (omega arith), ← further b i)))

-- a value, or none, as a list
abbrev pub listed : {X : Type 0} → Option X → List X
listed None = []
listed (Some x) = x ∷ []

map_cons : {X Y : Type 0} (f : X → Y) (o : Option X) (xs : List X)
    → listed (option_map f o) ++ map f xs ≡ map f (cons_option o xs)
map_cons f None xs = refl
map_cons f (Some x) xs = refl

-- where each number of one range gives what the same number of the other picks
pub flat_map-range_picked : {X Y : Type 0} (f : ℕ → List Y) (h : ℕ → Option X) (g : X → Y) (a b n : ℕ)
    → ((i : ℕ) → i < n → f (a + i) ≡ listed (option_map g (h (b + i))))
    → flat_map f (range_with_len a n) ≡ map g (filter_map h (range_with_len b n))
flat_map-range_picked f h g a b zero e = refl
flat_map-range_picked f h g a b (suc n) e = ap₂ ◌++◌ (rw (← add-zero a, e 0 (omega arith), add-zero b))
    (flat_map-range_picked f h g (a + 1) (b + 1) n (λ i l. rw (further a i, e (suc i) (omega arith), ← further b i)))
    ∙ map_cons g (h b) (filter_map h (range_with_len (b + 1) n))
