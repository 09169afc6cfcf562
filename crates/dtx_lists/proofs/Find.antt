-- The first element of a list that passes a test.
use Rattle.std.proofs.Common.{◌≡◌, ℕ, suc, ◌<◌, Bool, true, false, cond, Some, None, List, [], ◌∷◌, length, get_or}
use Rattle.std.proofs.Common.{refl, ap, sym, ◌∙◌, arith, IfSome, zero}
use Rattle.std.specs.List.{find, AllByRecursion, Contains}

-- what is found passes, and has what each element has
pub find-gives : {X : Type 0} (p : X → Bool) (P : X → Type 0) (xs : List X) → AllByRecursion P xs
    → IfSome (find p xs) (λ x. (p x ≡ true) × P x)
find-gives p P [] h = tt
find-gives p P (x ∷ xs) h = by_test p P x xs (p x) refl h.0 (find-gives p P xs h.1)
  where
    by_test : {X : Type 0} (p : X → Bool) (P : X → Type 0) (x : X) (xs : List X) (t : Bool) → p x ≡ t → P x
        → IfSome (find p xs) (λ y. (p y ≡ true) × P y) → IfSome (cond t (Some x) (find p xs)) (λ y. (p y ≡ true) × P y)
    by_test p P x xs true e h r = (e, h)
    by_test p P x xs false e h r = r

none_by_test : {X : Type 0} (p : X → Bool) (x : X) (xs : List X) (t : Bool) → p x ≡ t
    → cond t (Some x) (find p xs) ≡ None → (p x ≡ false) × (find p xs ≡ None)
none_by_test p x xs true e h = cc
none_by_test p x xs false e h = (e, h)

none_at : {X : Type 0} (p : X → Bool) (xs : List X) (k : ℕ) (d : X) → find p xs ≡ None → k < length xs
    → p (get_or xs k d) ≡ false
none_at p [] k d h l = absurd (omega arith)
none_at p (x ∷ xs) zero d h l = (none_by_test p x xs (p x) refl h).0
none_at p (x ∷ xs) (suc k) d h l = none_at p xs k d (none_by_test p x xs (p x) refl h).1 (omega arith)

-- where nothing is found, no element passes
pub find-none : {X : Type 0} (p : X → Bool) (xs : List X) (x : X) → find p xs ≡ None → Contains xs x → p x ≡ false
find-none p xs x h c = ap p (sym c.2) ∙ none_at p xs c.0 x h c.1
