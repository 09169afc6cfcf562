-- Locators: coefficients with the lowest first, the equations that they solve, the places at which they vanish, and the
-- values of the errors there.
use Rattle.std.specs.Prelude.{ℕ, ◌≡◌, ◌-◌, ◌<◌, ◌==◌, ◌+◌, ◌≤◌, ◌≢◌, Bool, false, List, [], ◌∷◌, length, slice_index}
use Rattle.std.specs.Prelude.{slice_index_or, ◌&&◌, not, if◌then◌else◌}
use Rattle.std.proofs.Common.{suc, zero}
use Rattle.std.specs.Int.RustNames.{bit_xor}
use Rattle.dtx_galois.specs.Field.{mul, pow, AreBytes}

-- the value at x of the polynomial with these coefficients, the lowest first
abbrev pub low_value : List ℕ → ℕ → ℕ
low_value [] x = 0
low_value (c ∷ cs) x = bit_xor c (mul x (low_value cs x))

-- c[0] * s i + c[1] * s (i + 1) + ..
abbrev pub combination : List ℕ → (ℕ → ℕ) → ℕ → ℕ
combination [] s i = 0
combination (c ∷ cs) s i = bit_xor (mul c (s i)) (combination cs s (suc i))

-- the combination with these coefficients is 0 at each of the first t places of the sequence
abbrev pub Annuls : List ℕ → (ℕ → ℕ) → ℕ → Type 0
Annuls cs s t = (i : ℕ) → i < t → combination cs s i ≡ 0

-- at most t + 1 coefficients, not all of them 0, that annul the first t places
pub record IsLocator (t : ℕ) (s : ℕ → ℕ) (locator : List ℕ) : Type 0 where
  pub long : length locator ≤ t + 1
  pub bytes : AreBytes locator
  pub some : (j : ℕ) × (slice_index locator j ≢ 0)
  pub annuls : Annuls locator s t

-- the power of α, which is 2, whose coefficient stands at place p of n
unfoldable pub power_at : ℕ → ℕ → ℕ
power_at n p = pow 2 (n - 1 - p)

-- whether the locator vanishes at place p of n
abbrev pub vanishes_at : ℕ → List ℕ → ℕ → Bool
vanishes_at n locator p = low_value locator (power_at n p) == 0

-- whether place p is marked
abbrev pub is_marked : List Bool → ℕ → Bool
is_marked marks p = slice_index_or marks p false

-- the powers of α at the marked places before q of n, without place p
unfoldable pub others : ℕ → (ℕ → Bool) → ℕ → ℕ → List ℕ
others n mark p zero = []
others n mark p (suc q) = if mark q && not (q == p) then power_at n q ∷ others n mark p q else others n mark p q

-- the product of x - y over the y's
unfoldable pub weight : ℕ → List ℕ → ℕ
weight x [] = 1
weight x (y ∷ ys) = mul (bit_xor x y) (weight x ys)

-- the sequence from which each of the y's is cancelled: of a sum of d * x ^ i it leaves the sum of weight x ys * d * x
-- ^ i
unfoldable pub without : List ℕ → (ℕ → ℕ) → ℕ → ℕ
without [] s i = s i
without (y ∷ ys) s i = bit_xor (without ys s (suc i)) (mul y (without ys s i))

-- The value of the error at place p of n. It is what is left of the syndromes without the other marked places, divided
-- by the place's weight. The power 254 of an element is its inverse.
unfoldable pub error_at : ℕ → (ℕ → Bool) → (ℕ → ℕ) → ℕ → ℕ
error_at n mark s p = mul (without (others n mark p n) s 0) (pow (weight (power_at n p) (others n mark p n)) 254)

-- the byte at place p of n with its error taken away, where the place is marked
abbrev pub patched_at : ℕ → (ℕ → Bool) → (ℕ → ℕ) → List ℕ → ℕ → ℕ
patched_at n mark s word p = if mark p then bit_xor (slice_index word p) (error_at n mark s p) else slice_index word p
