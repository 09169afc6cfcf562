-- Least paths among those that agree with pins.
use Rattle.std.specs.Prelude.{ℕ, ℤ, ◌≡◌, ◌<◌, ◌≤◌, List, ◌∷◌, length, drop, filter, slice_index}
use Rattle.dtx_soft.specs.Least.{AreInOrder, all_paths, first_least}
use Rattle.dtx_soft.specs.Paths.{IsPath, cost}
use Rattle.dtx_pins.specs.Pins.{Agrees, agrees}

-- The least path under pins: of all paths that agree with them, from all states, the one that costs least. Of several
-- it is the one with the smallest start, and then the first in order of level numbers.
pub record IsLeastPinned (scale : ℕ) (pins : List ℕ) (symbols : List ℤ) (start : ℕ) (levels : List ℕ) : Type 0 where
  pub begins : start < 4
  pub long : length levels ≡ length symbols
  pub path : IsPath start levels
  pub agrees : Agrees pins levels
  pub least : (state : ℕ) (others : List ℕ) → state < 4 → length others ≡ length symbols → IsPath state others
      → Agrees pins others → cost scale symbols levels ≤ cost scale symbols others
  pub first : (state : ℕ) (others : List ℕ) → state < 4 → length others ≡ length symbols → IsPath state others
      → Agrees pins others → cost scale symbols others ≡ cost scale symbols levels
      → AreInOrder (start ∷ levels) (state ∷ others)

-- all paths of n levels that agree with pins, each behind its start
unfoldable pub pinned_paths : List ℕ → ℕ → List (List ℕ)
pinned_paths pins n = filter (λ path. agrees pins (drop 1 path)) (all_paths n)

-- The start of the least path under pins, and its levels behind it, as a function. Nothing computes it: the laws say
-- what it is.
unfoldable pub least_pinned_path : ℕ → List ℕ → List ℤ → List ℕ
least_pinned_path scale pins symbols = first_least scale symbols (pinned_paths pins (length symbols))

-- the start and the levels of that path
abbrev pub least_pinned_start : ℕ → List ℕ → List ℤ → ℕ
least_pinned_start scale pins symbols = slice_index (least_pinned_path scale pins symbols) 0

abbrev pub least_pinned_levels : ℕ → List ℕ → List ℤ → List ℕ
least_pinned_levels scale pins symbols = drop 1 (least_pinned_path scale pins symbols)
