-- Costs in units: sums, and the lesser of two.
use Rattle.std.proofs.Common.{◌≡◌, ℕ, ◌+◌, ◌*◌, ◌<◌, min, arith}
use Rattle.std.proofs.lemmas.Bool.{cases_lt}
use Rattle.std.proofs.Math.Nat.{mul-add, mul-le-mul_left}

pub sum_in_units : (k l j b a m p n q : ℕ) → m + k * l ≡ b + k * n → p + k * j ≡ a + k * q
    → m + p + k * (l + j) ≡ b + a + k * (n + q)
sum_in_units k l j b a m p n q e f = omega (arith, mul-add k l j, mul-add k n q, e, f)

pub least_in_units : (k z c x y a b : ℕ) → x + z ≡ c + k * a → y + z ≡ c + k * b → min x y + z ≡ c + k * min a b
least_in_units k z c x y a b e f = grind (arith, cases_lt, mul-le-mul_left)

-- orders are kept
pub less_in_units : (k z c x y a b : ℕ) → 0 < k → x + z ≡ c + k * a → y + z ≡ c + k * b → a < b → x < y
less_in_units k z c x y a b h e f l = grind (arith, mul-le-mul_left, mul-add)

pub same_in_units : (k z c x y a b : ℕ) → x + z ≡ c + k * a → y + z ≡ c + k * b → a ≡ b → x ≡ y
same_in_units k z c x y a b e f l = grind arith
