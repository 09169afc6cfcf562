-- The first data segments of a field, with each coder's symbols decided under its pins (ATSC A/53 Part 2, trellis
-- coding).
use Rattle.std.specs.Prelude.{ℕ, ℤ, pos, ◌≡◌, ◌+◌, ◌-◌, ◌*◌, ◌/◌, ◌<◌, nat_lt, if◌then◌else◌, List, [], length, map}
use Rattle.std.specs.Prelude.{slice_index_or, sum}
use Rattle.std.specs.List.{range_with_len}
use Rattle.dtx_trellis.specs.Trellis.{coder_at}
use Rattle.dtx_soft.specs.Coders.{KeepsSyncs, coder_symbols}
use Rattle.dtx_soft.specs.Paths.{cost, symbol_at}
use Rattle.dtx_pins.specs.LeastPinned.{IsLeastPinned, least_pinned_levels}
use Rattle.dtx_pins.specs.Pins.{coder_pins}
use Rattle.std.specs.Ordering.{int_eq}

-- The new symbols are those of the levels of the least path over the symbols that were heard, under pins. They are at
-- the scale `at`.
pub record AreLeastPinned (scale at : ℕ) (pins : List ℕ) (heard new : List ℤ) : Type 0 where
  pub start : ℕ
  pub levels : List ℕ
  pub least : IsLeastPinned scale pins heard start levels
  pub symbols : new ≡ map (symbol_at at) levels

-- Segments in which each coder's symbols were replaced by those of its least path under its pins, over the symbols that
-- were heard.
pub record IsPinned (scale at : ℕ) (pins : List (List ℕ)) (heard old new : List (List ℤ)) : Type 0 where
  pub long : length new ≡ length old
  pub syncs : KeepsSyncs old new
  pub coders : (e : ℕ) → e < 12
      → AreLeastPinned scale at (coder_pins pins e) (coder_symbols heard e) (coder_symbols new e)

-- ---- the same as a function

-- the symbols of coder e's least path under its pins, one in each round
unfoldable pub pinned_symbols : ℕ → List (List ℕ) → List (List ℤ) → ℕ → List ℤ
pinned_symbols scale pins segments e =
    map (symbol_at scale) (least_pinned_levels scale (coder_pins pins e) (coder_symbols segments e))

-- the symbol in place of data symbol d, which is the one of its coder in round d div 12
unfoldable pub pinned_symbol : ℕ → List (List ℕ) → List (List ℤ) → ℕ → ℤ
pinned_symbol scale pins segments d =
    slice_index_or (pinned_symbols scale pins segments (coder_at 0 d)) (d / 12) (pos 0)

-- segment i: its sync of four symbols as it is, and 828 data symbols
unfoldable pub pinned_segment : ℕ → List (List ℕ) → List (List ℤ) → ℕ → List ℤ
pinned_segment scale pins segments i =
    map (λ k. if nat_lt k 4 then slice_index_or (slice_index_or segments i []) k (pos 0)
    else pinned_symbol scale pins segments (828 * i + (k - 4))) (range_with_len 0 832)

-- all segments, decided under pins
unfoldable pub pinned : ℕ → List (List ℕ) → List (List ℤ) → List (List ℤ)
pinned scale pins segments = map (pinned_segment scale pins segments) (range_with_len 0 (length segments))

-- what coder e's least path under its pins costs
unfoldable pub pinned_coder_cost : ℕ → List (List ℕ) → List (List ℤ) → ℕ → ℕ
pinned_coder_cost scale pins segments e =
    cost scale (coder_symbols segments e)
    (least_pinned_levels scale (coder_pins pins e) (coder_symbols segments e))

-- what the least paths of all twelve coders cost
unfoldable pub pinned_cost : ℕ → List (List ℕ) → List (List ℤ) → ℕ
pinned_cost scale pins segments = sum (map (pinned_coder_cost scale pins segments) (range_with_len 0 12))

-- in how many symbols a segment differs from another one
unfoldable pub moved_in : List ℤ → List ℤ → ℕ
moved_in old new =
    sum (map (λ k. if int_eq (slice_index_or old k (pos 0)) (slice_index_or new k (pos 0)) then 0 else 1)
    (range_with_len 0 832))

-- in how many symbols segments differ from others
unfoldable pub rows_moved : List (List ℤ) → List (List ℤ) → ℕ
rows_moved old new =
    sum (map (λ i. moved_in (slice_index_or old i []) (slice_index_or new i [])) (range_with_len 0 (length old)))
