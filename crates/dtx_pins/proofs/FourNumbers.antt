-- The first of four numbers at which a function is least, told by the least of four sums.
use Rattle.std.proofs.Common.{◌≡◌, ℕ, ◌+◌, ◌-◌, ◌%◌, ◌<◌, ◌≤◌, ◌⊎◌, inl, inr, min, arith}
use Rattle.std.proofs.lemmas.Bool.{cases_lt}
use Rattle.dtx_soft.proofs.WritesLemmas.{four}

-- the first of four numbers at which a function is least
pub record IsFirstLeast (f : ℕ → ℕ) (k : ℕ) : Type 0 where
  pub small : k < 4
  pub least : (j : ℕ) → j < 4 → f k ≤ f j
  pub first : (j : ℕ) → j < 4 → f j ≡ f k → k ≤ j

-- the number, and what the function is there
abbrev pub IsFound : (ℕ → ℕ) → ℕ → Type 0
IsFound f k = IsFirstLeast f k × (min (min (f 0) (f 1)) (min (f 2) (f 3)) ≡ f k)

at_zero : (f : ℕ → ℕ) → f 0 ≤ f 1 → min (f 0) (f 1) ≤ min (f 2) (f 3) → IsFound f 0
at_zero f a b = grind (arith, four)

at_one : (f : ℕ → ℕ) → f 1 < f 0 → min (f 0) (f 1) ≤ min (f 2) (f 3) → IsFound f 1
at_one f a b = grind (arith, four)

at_two : (f : ℕ → ℕ) → f 2 ≤ f 3 → min (f 2) (f 3) < min (f 0) (f 1) → IsFound f 2
at_two f a b = grind (arith, four)

at_three : (f : ℕ → ℕ) → f 3 < f 2 → min (f 2) (f 3) < min (f 0) (f 1) → IsFound f 3
at_three f a b = grind (arith, four)

-- a multiple of four with a number below four added tells both
told_at : (f : ℕ → ℕ) (t k : ℕ) → k < 4 → f k % 4 ≡ 0 → t ≡ f k + k → IsFound f k
    → IsFirstLeast f (t % 4) × (t - t % 4 ≡ f (t % 4))
told_at f t k l m e h = grind arith

-- so the least of four such sums does, and of equal ones it tells the first
pub told_by_least : (f : ℕ → ℕ) (t : ℕ) → ((j : ℕ) → j < 4 → f j % 4 ≡ 0)
    → t ≡ min (min (f 0) (f 1 + 1)) (min (f 2 + 2) (f 3 + 3)) → IsFirstLeast f (t % 4) × (t - t % 4 ≡ f (t % 4))
told_by_least f t m e = by_order (cases_lt (f 1) (f 0)) (cases_lt (f 3) (f 2))
    (cases_lt (min (f 2) (f 3)) (min (f 0) (f 1)))
  where
    zeroth : f 0 % 4 ≡ 0
    zeroth = m 0 (omega arith)

    first : f 1 % 4 ≡ 0
    first = m 1 (omega arith)

    second : f 2 % 4 ≡ 0
    second = m 2 (omega arith)

    third : f 3 % 4 ≡ 0
    third = m 3 (omega arith)

    by_order : (f 1 < f 0) ⊎ (f 0 ≤ f 1) → (f 3 < f 2) ⊎ (f 2 ≤ f 3)
        → (min (f 2) (f 3) < min (f 0) (f 1)) ⊎ (min (f 0) (f 1) ≤ min (f 2) (f 3))
        → IsFirstLeast f (t % 4) × (t - t % 4 ≡ f (t % 4))
    by_order (inr a) q (inr c) = told_at f t 0 (omega arith) zeroth (omega (arith, e, a, c)) (at_zero f a c)
    by_order (inl a) q (inr c) = grind (arith, told_at, at_one)
    by_order p (inr b) (inl c) =
        told_at f t 2 (omega arith) second (omega (arith, e, b, c, zeroth, first, second)) (at_two f b c)
    by_order p (inl b) (inl c) =
        told_at f t 3 (omega arith) third (omega (arith, e, b, c, zeroth, first, second, third)) (at_three f b c)
