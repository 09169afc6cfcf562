-- Least paths: a statement over all paths, a function, and when potentials prove that a path is a least one.
use Rattle.std.specs.Prelude.{ℕ, ℤ, ◌≡◌, ◌+◌, ◌<◌, ◌≤◌, ◌⊎◌, List, [], ◌∷◌, length, drop, slice_index, slice_index_or}
use Rattle.std.specs.Prelude.{pos, ◌/◌, ◌%◌, ◌*◌, nat_le, Bool, map, unwrap_or}
use Rattle.dtx_soft.specs.Paths.{IsPath, cost, next_state, squared, symbol_at}
use Rattle.std.proofs.Common.{zero, suc}
use Rattle.std.specs.List.{range_with_len, flat_map, list_all, find}

-- whether the first of two lists is not behind the second in lexicographic order
abbrev pub AreInOrder : List ℕ → List ℕ → Type 0
AreInOrder [] ys = Unit {0}
AreInOrder (x ∷ xs) [] = ⊥
AreInOrder (x ∷ xs) (y ∷ ys) = (x < y) ⊎ ((x ≡ y) × AreInOrder xs ys)

-- no path from any state costs less
abbrev pub NoneCostsLess : ℕ → List ℤ → List ℕ → Type 0
NoneCostsLess scale symbols levels = (state : ℕ) (others : List ℕ) → state < 4 → length others ≡ length symbols
    → IsPath state others → cost scale symbols levels ≤ cost scale symbols others

-- The least path over symbols: of all paths from all states the one that costs least. Of several it is the one with the
-- smallest start, and then the first in order of level numbers.
pub record IsLeast (scale : ℕ) (symbols : List ℤ) (start : ℕ) (levels : List ℕ) : Type 0 where
  pub begins : start < 4
  pub long : length levels ≡ length symbols
  pub path : IsPath start levels
  pub least : NoneCostsLess scale symbols levels
  pub first : (state : ℕ) (others : List ℕ) → state < 4 → length others ≡ length symbols → IsPath state others
      → cost scale symbols others ≡ cost scale symbols levels → AreInOrder (start ∷ levels) (state ∷ others)

-- the least of all paths from one state; of several, the first in order
pub record IsLeastFrom (scale : ℕ) (symbols : List ℤ) (state : ℕ) (levels : List ℕ) : Type 0 where
  pub long : length levels ≡ length symbols
  pub path : IsPath state levels
  pub least : (others : List ℕ) → length others ≡ length symbols → IsPath state others
      → cost scale symbols levels ≤ cost scale symbols others
  pub first : (others : List ℕ) → length others ≡ length symbols → IsPath state others
      → cost scale symbols others ≡ cost scale symbols levels → AreInOrder levels others

-- the least cost of a path from a state: no path costs less, and some path costs as much
pub record IsPotential (scale : ℕ) (symbols : List ℤ) (state potential : ℕ) : Type 0 where
  pub below : (levels : List ℕ) → length levels ≡ length symbols → IsPath state levels
      → potential ≤ cost scale symbols levels
  pub met : (levels : List ℕ) × (length levels ≡ length symbols) × IsPath state levels
      × (cost scale symbols levels ≡ potential)

-- entry t has for each state the least cost over the symbols from t on
abbrev pub HoldPotentials : ℕ → List ℤ → List (List ℕ) → Type 0
HoldPotentials scale symbols potentials = (t state : ℕ) → t ≤ length symbols → state < 4
    → IsPotential scale (drop t symbols) state (slice_index (slice_index_or potentials t []) state)

-- the same, with one entry more than there are symbols
pub record ArePotentials (scale : ℕ) (symbols : List ℤ) (potentials : List (List ℕ)) : Type 0 where
  pub long : length potentials ≡ length symbols + 1
  pub least : HoldPotentials scale symbols potentials

-- each state's entry is at most what a step from it costs, plus the entry of the state that the step leads to
abbrev pub AllowsSteps : ℤ → List ℕ → List ℕ → Type 0
AllowsSteps symbol entry behind = (state z : ℕ) → state < 4 → z < 8 → z % 2 ≡ state / 2
    → slice_index entry state ≤ squared symbol (symbol_at 1 z) + slice_index behind (next_state state z)

-- the same at every symbol
abbrev pub AllowAllSteps : List ℤ → List (List ℕ) → Type 0
AllowAllSteps symbols potentials = (t : ℕ) → t < length symbols
    → AllowsSteps (slice_index_or symbols t (pos 0)) (slice_index_or potentials t [])
    (slice_index_or potentials (t + 1) [])

-- whether a state has the least of four entries
abbrev pub HasLeast : List ℕ → ℕ → Type 0
HasLeast entry start = (state : ℕ) → state < 4 → slice_index entry start ≤ slice_index entry state

-- What `proves` tests. The levels are a path from the start, and the last entry is zeros. Each entry is at most what a
-- step costs, plus the entry behind it. The path costs what the first entry has for its start, and no other state has
-- less there.
pub record IsCertificate (symbols : List ℤ) (start : ℕ) (levels : List ℕ) (potentials : List (List ℕ)) : Type 0 where
  pub begins : start < 4
  pub long : length levels ≡ length symbols
  pub entries : length potentials ≡ length symbols + 1
  pub zeros : (state : ℕ) → state < 4 → slice_index (slice_index_or potentials (length symbols) []) state ≡ 0
  pub steps : AllowAllSteps symbols potentials
  pub least : HasLeast (slice_index_or potentials 0 []) start
  pub path : IsPath start levels
  pub met : cost 1 symbols levels ≡ slice_index (slice_index_or potentials 0 []) start

-- All paths of n levels from a state, in lexicographic order: Z0 is q1, so each level is 2 * k + q1 for a k below 4.
unfoldable pub paths_from : ℕ → ℕ → List (List ℕ)
paths_from zero state = [] ∷ []
paths_from (suc n) state =
    flat_map (λ k. map (λ levels. (2 * k + state / 2) ∷ levels) (paths_from n (next_state state (2 * k + state / 2))))
    (range_with_len 0 4)

-- all paths of n levels from all states, each behind its start
unfoldable pub all_paths : ℕ → List (List ℕ)
all_paths n = flat_map (λ start. map (λ levels. start ∷ levels) (paths_from n start)) (range_with_len 0 4)

-- whether none of these paths costs less than this one; each stands behind its start
unfoldable pub costs_least : ℕ → List ℤ → List (List ℕ) → List ℕ → Bool
costs_least scale symbols paths path =
    list_all (λ other. nat_le (cost scale symbols (drop 1 path)) (cost scale symbols (drop 1 other))) paths

-- the first of them that costs least
abbrev pub first_least : ℕ → List ℤ → List (List ℕ) → List ℕ
first_least scale symbols paths = unwrap_or (find (costs_least scale symbols paths) paths) []

-- the start of the least path over symbols, and its levels behind it
unfoldable pub least_path : ℕ → List ℤ → List ℕ
least_path scale symbols = first_least scale symbols (all_paths (length symbols))

-- the start and the levels of the least path
abbrev pub least_start : ℕ → List ℤ → ℕ
least_start scale symbols = slice_index (least_path scale symbols) 0

abbrev pub least_levels : ℕ → List ℤ → List ℕ
least_levels scale symbols = drop 1 (least_path scale symbols)
