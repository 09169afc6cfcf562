-- Tiles of sixteen rows of sixteen bytes.
use Rattle.std.specs.Prelude.{ℕ, ◌≡◌, ◌<◌, List, [], length, slice_index, slice_index_or}

-- sixteen rows of sixteen bytes
pub record IsTile (tile : List (List ℕ)) : Type 0 where
  pub count : length tile ≡ 16
  pub long : (i : ℕ) → i < 16 → length (slice_index_or tile i []) ≡ 16

-- byte j of row i
abbrev pub byte_at : List (List ℕ) → ℕ → ℕ → ℕ
byte_at tile i j = slice_index (slice_index_or tile i []) j
