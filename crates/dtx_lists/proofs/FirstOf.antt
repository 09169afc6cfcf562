-- The first item of a list that passes a test, for a loop that looks for it.
use Rattle.std.proofs.Common.{◌≡◌, ℕ, ◌+◌, ◌<◌, inl, inr, Bool, true, false, cond, Some, None, List, length, sym, ap}
use Rattle.std.proofs.Common.{subst, ◌∙◌, arith, get_or}
use Rattle.std.specs.Prelude.{nat_lt, slice_get, position}
use Rattle.std.specs.List.{position_or_len}
use Rattle.std.proofs.lemmas.Bool.{cases_lt, cond-true, cond-false, lt-ltb}
use Rattle.std.proofs.lemmas.Bool.Decides.{nat_tests}
use Rattle.std.proofs.lemmas.List.Sums.{fails_before_first, position_or_len_is}
use Rattle.std.proofs.lemmas.Option.{slice_get-get_or, slice_get_within, get_or_from_slice_get}

-- the first items, so many, fail a test
abbrev pub FailBefore : {X : Type 0} → (X → Bool) → List X → ℕ → Type 0
FailBefore {X} test xs i = (k : ℕ) (y : X) → k < i → slice_get xs k ≡ Some y → test y ≡ false

ltb_self : (n : ℕ) → nat_lt n n ≡ false
ltb_self n = grind (arith, nat_tests)

some_is : {X : Type 0} {a b : X} → Some a ≡ Some b → a ≡ b
some_is e = cc

-- the item is found
pub position_is : {X : Type 0} (test : X → Bool) (xs : List X) (i : ℕ) (x : X) → slice_get xs i ≡ Some x
    → FailBefore test xs i → test x ≡ true → position test xs ≡ Some i
position_is test xs i x here before passes =
    let within : i < length xs = slice_get_within xs i x here in
    let e : position_or_len test xs ≡ i = position_or_len_is test xs i x (omega (arith, within))
    (λ k l. grind (arith, slice_get-get_or)) (λ _. ap test (get_or_from_slice_get xs i x x here) ∙ passes) in
    subst (λ (n : ℕ). cond (nat_lt n (length xs)) (Some n) None ≡ Some i) (sym e) (grind (arith, cond-true, lt-ltb))

-- none is
pub position_none : {X : Type 0} (test : X → Bool) (xs : List X) (d : X) → FailBefore test xs (length xs)
    → position test xs ≡ None
position_none test xs d before =
    let e : position_or_len test xs ≡ length xs = position_or_len_is test xs (length xs) d (omega arith)
    (λ k l. before k (get_or xs k d) l (slice_get-get_or xs k d l)) (λ l. absurd (omega (arith, l))) in
    subst (λ (n : ℕ). cond (nat_lt n (length xs)) (Some n) None ≡ None) (sym e) (grind (arith, cond-false, ltb_self))

-- one item more that fails it
pub before_next : {X : Type 0} (test : X → Bool) (xs : List X) (i : ℕ) (x : X) → FailBefore test xs i
    → slice_get xs i ≡ Some x → test x ≡ false → FailBefore test xs (i + 1)
before_next {X} test xs i x before here fails k y l at = elim (cases_lt k i) [
  | inl less ↦ before k y less at
  | inr past ↦ grind (arith, some_is)
]

-- where none is found, each fails it
pub position_passes : {X : Type 0} (test : X → Bool) (xs : List X) (i : ℕ) (x : X) → position test xs ≡ None
    → slice_get xs i ≡ Some x → test x ≡ false
position_passes {X} test xs i x none here = elim (cases_lt (position_or_len test xs) (length xs)) [
  | inl within ↦ grind (arith, cond-true, lt-ltb)
  | inr past ↦
      let within : i < length xs = slice_get_within xs i x here in
      sym (ap test (get_or_from_slice_get xs i x x here)) ∙ fails_before_first test xs i x (omega (arith, within, past))
]
