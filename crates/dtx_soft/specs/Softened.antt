-- The first data segments of a field, softened, as a function (ATSC A/53 Part 2, trellis coding).
use Rattle.std.specs.Prelude.{◌≡◌, ℕ, ℤ, pos, ◌<◌, ◌+◌, ◌-◌, ◌*◌, ◌/◌, nat_lt, if◌then◌else◌, List, [], length, map}
use Rattle.std.specs.Prelude.{slice_index_or, sum}
use Rattle.std.specs.List.{range_with_len}
use Rattle.dtx_trellis.specs.Trellis.{coder_at}
use Rattle.dtx_soft.specs.Coders.{coder_symbols}
use Rattle.dtx_soft.specs.Least.{least_levels}
use Rattle.dtx_soft.specs.Paths.{IsPath, cost, symbol_at}

-- the symbols of coder e's least path, one in each round
unfoldable pub least_symbols : ℕ → List (List ℤ) → ℕ → List ℤ
least_symbols scale segments e = map (symbol_at scale) (least_levels scale (coder_symbols segments e))

-- the symbol in place of data symbol d, which is the one of its coder in round d div 12
unfoldable pub softened_symbol : ℕ → List (List ℤ) → ℕ → ℤ
softened_symbol scale segments d = slice_index_or (least_symbols scale segments (coder_at 0 d)) (d / 12) (pos 0)

-- segment i: its sync of four symbols as it is, and 828 data symbols
unfoldable pub softened_segment : ℕ → List (List ℤ) → ℕ → List ℤ
softened_segment scale segments i =
    map (λ k. if nat_lt k 4 then slice_index_or (slice_index_or segments i []) k (pos 0)
    else softened_symbol scale segments (828 * i + (k - 4))) (range_with_len 0 832)

-- all segments, softened
unfoldable pub softened : ℕ → List (List ℤ) → List (List ℤ)
softened scale segments = map (softened_segment scale segments) (range_with_len 0 (length segments))

-- what coder e's least path costs
unfoldable pub least_cost : ℕ → List (List ℤ) → ℕ → ℕ
least_cost scale segments e =
    cost scale (coder_symbols segments e) (least_levels scale (coder_symbols segments e))

-- what the least paths of all twelve coders cost
unfoldable pub softened_cost : ℕ → List (List ℤ) → ℕ
softened_cost scale segments = sum (map (least_cost scale segments) (range_with_len 0 12))

-- symbols that are those of a path's own levels
pub record IsOwn (scale : ℕ) (symbols : List ℤ) : Type 0 where
  pub start : ℕ
  pub levels : List ℕ
  pub begins : start < 4
  pub path : IsPath start levels
  pub same : symbols ≡ map (symbol_at scale) levels
