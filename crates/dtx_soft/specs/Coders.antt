-- The symbols of each of the twelve coders in the first data segments of a field (ATSC A/53 Part 2, trellis coding).
use Rattle.std.specs.Prelude.{ℕ, ℤ, pos, ◌≡◌, ◌+◌, ◌*◌, ◌/◌, ◌%◌, ◌<◌, List, [], length, map, slice_index_or, sum}
use Rattle.std.specs.List.{range_with_len}
use Rattle.dtx_slice.specs.Unrolled.{symbol_place}
use Rattle.dtx_soft.specs.Paths.{distance, symbol_at}
use Rattle.dtx_soft.specs.Least.{IsLeast}

-- data symbol d: 828 of them stand in each segment, behind its sync of four
unfoldable pub data_symbol : List (List ℤ) → ℕ → ℤ
data_symbol segments d = slice_index_or (slice_index_or segments (d / 828) []) (4 + d % 828) (pos 0)

-- the symbols of coder e in the order in which it sends them, one in each round
unfoldable pub coder_symbols : List (List ℤ) → ℕ → List ℤ
coder_symbols segments e =
    map (λ t. data_symbol segments (symbol_place 0 t e)) (range_with_len 0 (69 * length segments))

-- the new symbols are those of a least path over the old ones
pub record AreLeast (scale : ℕ) (old new : List ℤ) : Type 0 where
  pub start : ℕ
  pub levels : List ℕ
  pub least : IsLeast scale old start levels
  pub symbols : new ≡ map (symbol_at scale) levels

-- the sync of each segment stays
abbrev pub KeepsSyncs : List (List ℤ) → List (List ℤ) → Type 0
KeepsSyncs old new = (i k : ℕ) → k < 4
    → slice_index_or (slice_index_or new i []) k (pos 0) ≡ slice_index_or (slice_index_or old i []) k (pos 0)

-- how far the first n coders' new symbols are off the old ones, in the sum of the squares
unfoldable pub coders_distance : List (List ℤ) → List (List ℤ) → ℕ → ℕ
coders_distance old new n = sum (map (λ e. distance (coder_symbols old e) (coder_symbols new e)) (range_with_len 0 n))

-- how far all symbols of segments are off the old ones, in the sum of the squares, segment by segment
unfoldable pub segments_distance : List (List ℤ) → List (List ℤ) → ℕ
segments_distance old new =
    sum (map (λ i. distance (slice_index_or old i []) (slice_index_or new i [])) (range_with_len 0 (length old)))

-- Segments in which each coder's symbols were replaced by those of its least path.
pub record IsSoftened (scale : ℕ) (old new : List (List ℤ)) : Type 0 where
  pub long : length new ≡ length old
  pub syncs : KeepsSyncs old new
  pub coders : (e : ℕ) → e < 12 → AreLeast scale (coder_symbols old e) (coder_symbols new e)
