-- Vectors that solve more and more of the equations of a locator. At most one of them is given up for each equation.
use Rattle.std.specs.Prelude.{ℕ, ◌≡◌, ◌+◌, ◌<◌, Bool, true, if◌then◌else◌, List, [], length, slice_index}
use Rattle.std.specs.Prelude.{slice_index_or, take}
use Rattle.std.proofs.Common.{zero, suc}
use Rattle.dtx_galois.specs.Field.{mul, AreBytes, sums, scaled}
use Rattle.dtx_laws.specs.Locator.{combination}
use Rattle.dtx_correct.specs.declared.locator.TheConstants.{WIDTH}

-- The kept ones of the w vectors v solve e equations. Each has a 1 at its own place and a 0 at the places of the other
-- kept ones, so none is 0.
pub record Solves (w e : ℕ) (s : ℕ → ℕ) (keep : ℕ → Bool) (v : ℕ → List ℕ) : Type 0 where
  pub long : (k : ℕ) → k < w → length (v k) ≡ w
  pub bytes : (k : ℕ) → k < w → AreBytes (v k)
  pub own : (k : ℕ) → k < w → keep k ≡ true → slice_index (v k) k ≡ 1
  pub apart : (k j : ℕ) → k < w → j < w → keep k ≡ true → keep j ≡ true → (k ≡ j → ⊥) → slice_index (v k) j ≡ 0
  pub annuls : (k i : ℕ) → k < w → keep k ≡ true → i < e → combination (v k) s i ≡ 0

-- vector k after vector p is given up for equation e, where g is the inverse of p's combination there
abbrev pub reduced : (ℕ → ℕ) → ℕ → (ℕ → List ℕ) → ℕ → ℕ → ℕ → List ℕ
reduced s e v p g k = sums (v k) (scaled (mul (combination (v k) s e) g) (v p))

-- the first w entries of vector k
abbrev pub vector : ℕ → List (List ℕ) → ℕ → List ℕ
vector w vectors k = take w (slice_index_or vectors k [])

-- the number of kept vectors among the first w
unfoldable pub count : (ℕ → Bool) → ℕ → ℕ
count keep zero = 0
count keep (suc w) = (if keep w then 1 else 0) + count keep w

-- as many bytes as a vector has: the one at place k is 1, and the others are 0
pub record IsUnit (k : ℕ) (xs : List ℕ) : Type 0 where
  pub own : slice_index xs k ≡ 1
  pub others : (j : ℕ) → (j ≡ k → ⊥) → slice_index xs j ≡ 0
  pub bytes : AreBytes xs
  pub long : length xs ≡ WIDTH
