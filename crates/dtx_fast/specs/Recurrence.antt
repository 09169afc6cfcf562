-- Recurrences of a sequence, which the method of Berlekamp and Massey finds. The coefficient of the newest term stands
-- first.
use Rattle.std.specs.Prelude.{ℕ, ◌≡◌, ◌-◌, ◌<◌, ◌≤◌, ◌==◌, if◌then◌else◌, List, [], ◌∷◌, slice_index, ◌+◌}
use Rattle.std.proofs.Common.{zero, suc}
use Rattle.std.specs.Int.RustNames.{bit_xor}
use Rattle.dtx_galois.specs.Field.{mul, pow}
use Rattle.dtx_laws.specs.Locator.{low_value, power_at}
use Rattle.dtx_fast.specs.declared.recurrence.TheConstants.{WIDTH}

-- c 0 * s n + c 1 * s (n - 1) + .. , of w terms
unfoldable pub discrepancy : ℕ → (ℕ → ℕ) → (ℕ → ℕ) → ℕ → ℕ
discrepancy zero c s n = 0
discrepancy (suc w) c s n = bit_xor (discrepancy w c s n) (mul (c w) (s (n - w)))

-- A recurrence of order l. Each of the terms of s from l to n - 1 follows from the l terms before it, by coefficients
-- whose first one is 1.
pub record IsRecurrence (n l : ℕ) (s c : ℕ → ℕ) : Type 0 where
  pub newest : c 0 ≡ 1
  pub next : (i : ℕ) → l ≤ i → i < n → discrepancy (suc l) c s i ≡ 0

-- no recurrence of the first n terms has an order below l
abbrev pub IsLeast : ℕ → ℕ → (ℕ → ℕ) → Type 0
IsLeast n l s = (k : ℕ) (b : ℕ → ℕ) → IsRecurrence n k s b → l ≤ k

-- the coefficients y places on, behind zeros
unfoldable pub moved : ℕ → (ℕ → ℕ) → ℕ → ℕ
moved zero b k = b k
moved (suc y) b zero = 0
moved (suc y) b (suc k) = moved y b k

-- the coefficients of the product of 1 - y * X over the y's
unfoldable pub connection : List ℕ → ℕ → ℕ
connection [] zero = 1
connection [] (suc k) = 0
connection (y ∷ ys) k = bit_xor (connection ys k) (mul y (moved 1 (connection ys) k))

-- the first w coefficients, the last of them first: the recurrence as a locator
unfoldable pub turned : ℕ → (ℕ → ℕ) → List ℕ
turned zero c = []
turned (suc w) c = c w ∷ turned w c

-- the coefficients of the quotient by X - x of the polynomial with these coefficients, the highest first
unfoldable pub quotient : ℕ → (ℕ → ℕ) → ℕ → ℕ
quotient x c zero = c 0
quotient x c (suc k) = bit_xor (mul (quotient x c k) x) (c (suc k))

-- c 0 + c 1 * y + .. , of w terms
unfoldable pub walked : ℕ → (ℕ → ℕ) → ℕ → ℕ
walked zero c y = 0
walked (suc w) c y = bit_xor (walked w c y) (mul (c w) (pow y w))

-- The value of the error at the place of the power x, by a recurrence of order l of the syndromes s. It is a
-- combination of the syndromes by the quotient, divided by the quotient's value at x. The power 254 of an element is
-- its inverse.
unfoldable pub error_value : ℕ → (ℕ → ℕ) → (ℕ → ℕ) → ℕ → ℕ
error_value l c s x = mul (discrepancy l (quotient x c) s (l - 1)) (pow (low_value (turned l (quotient x c)) x) 254)

-- the inverse of the power of α at place p of n
unfoldable pub inverse_at : ℕ → ℕ → ℕ
inverse_at n p = pow (pow 2 254) (n - 1 - p)

-- the byte at place p of n, with its error taken away where the recurrence vanishes there
abbrev pub repaired_at : ℕ → ℕ → (ℕ → ℕ) → (ℕ → ℕ) → List ℕ → ℕ → ℕ
repaired_at n l c s word p =
    if walked (suc l) c (inverse_at n p) == 0 then bit_xor (slice_index word p) (error_value l c s (power_at n p))
    else slice_index word p

-- After n terms c is a recurrence of order l, and none has a lower order. b is the recurrence before the order last
-- grew. It failed `gap` terms ago, and `inverse` is the inverse of the discrepancy there. Where none has failed, all n
-- terms are 0.
pub record IsStage (n l gap inverse : ℕ) (s c b : ℕ → ℕ) : Type 0 where
  pub newest : c 0 ≡ 1
  pub behind : (k : ℕ) → l < k → c k ≡ 0
  pub next : (i : ℕ) → l ≤ i → i < n → discrepancy (suc l) c s i ≡ 0
  pub least : IsLeast n l s
  pub some : 0 < gap
  pub within : l + gap ≤ n + 1
  pub before_behind : (k : ℕ) → n + 1 < l + gap + k → b k ≡ 0
  pub before_next : (i : ℕ) → n + 1 ≤ l + gap + i → i + gap < n → discrepancy WIDTH b s i ≡ 0
  pub before_fails : gap ≤ n → mul (discrepancy WIDTH b s (n - gap)) inverse ≡ 1
