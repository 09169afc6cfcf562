-- Segments as they are sent, and symbols that lie near theirs (ATSC A/53 Part 2, data segment sync, data field sync and
-- trellis coding).
use Rattle.std.specs.Prelude.{ℕ, ℤ, pos, ◌≡◌, ◌≢◌, ◌+◌, ◌*◌, ◌%◌, ◌<◌, ◌-ℤ◌, ◌*ℤ◌, nat_abs, Bool, List, [], length, map}
use Rattle.std.specs.Prelude.{take, drop, slice_index, slice_index_or}
use Rattle.dtx_trellis.specs.Trellis.{symbol_of}
use Rattle.dtx_frame.specs.Segments.{data_segment, field_sync}
use Rattle.dtx_soft.specs.Coders.{coder_symbols}
use Rattle.dtx_soft.specs.Softened.{IsOwn}
use Rattle.dtx_acquire.specs.Acquired.{in_groups}

-- ---- symbols

-- A symbol differs by less than the scale from the scale times the symbol that was sent. The scale is half the distance
-- of two levels.
abbrev pub IsNear : ℕ → ℤ → ℤ → Type 0
IsNear scale sent symbol = nat_abs (symbol -ℤ (pos scale *ℤ sent)) < scale

-- there are as many symbols as were sent, each near the one sent
pub record AreNear (scale : ℕ) (sent symbols : List ℤ) : Type 0 where
  pub long : length symbols ≡ length sent
  pub near : (i : ℕ) → i < length sent
      → IsNear scale (slice_index_or sent i (pos 0)) (slice_index_or symbols i (pos 0))

-- ---- segments

-- these are `count` levels
pub record AreLevels (count : ℕ) (levels : List ℕ) : Type 0 where
  pub long : length levels ≡ count
  pub small : (d : ℕ) → d < count → slice_index levels d < 8

-- a data segment
pub record IsData (segment : List ℤ) : Type 0 where
  pub levels : List ℕ
  pub are : AreLevels 828 levels
  pub is : segment ≡ data_segment levels

-- a field sync, whose last twelve symbols are those of levels
pub record IsSync (segment : List ℤ) : Type 0 where
  pub second : Bool
  pub last : List ℕ
  pub are : AreLevels 12 last
  pub is : segment ≡ field_sync second (map symbol_of last)

-- Whole segments. Those whose number is a multiple of 313 are field syncs, and the others are data segments.
pub record AreInFields (segments : List (List ℤ)) : Type 0 where
  pub syncs : (i : ℕ) → i < length segments → i % 313 ≡ 0 → IsSync (slice_index_or segments i [])
  pub others : (i : ℕ) → i < length segments → i % 313 ≢ 0 → IsData (slice_index_or segments i [])

-- the data segments in whole groups, of those after the field sync that is segment n
unfoldable pub groups_behind : List (List ℤ) → ℕ → List (List ℤ)
groups_behind segments n = in_groups (take 312 (drop (n + 1) segments))

-- Segments as they are sent, from the first of a field on. In the whole groups of each field each coder's symbols are
-- those of a path of the trellis.
pub record AreSent (segments : List (List ℤ)) : Type 0 where
  pub segments_are : AreInFields segments
  pub paths : (f e : ℕ) → 313 * f < length segments → e < 12
      → IsOwn 1 (coder_symbols (groups_behind segments (313 * f)) e)
