-- Slicing: the level of a symbol, which may be any signed byte (ATSC A/53 Part 2, the levels of 8-VSB).
use Rattle.std.specs.Prelude.{◌≡◌, ℕ, ℤ, pos, negsuc, ◌+◌, ◌-◌, ◌/◌, ◌<◌, nat_le, if◌then◌else◌, List, map, drop}
use Rattle.std.specs.Prelude.{slice_index, slice_index_or}

-- Half of v + 8 where v is from -8 to 7, 0 below and 7 above. So -8 and -7 give level 0, -6 and -5 level 1, .., 6 and 7
-- level 7.
unfoldable pub sliced : ℤ → ℕ
sliced (pos n) = if nat_le n 7 then (n + 8) / 2 else 7
sliced (negsuc n) = if nat_le n 7 then (7 - n) / 2 else 0

-- the levels of a segment's data symbols, which stand behind the four of its sync
unfoldable pub sliced_data : List ℤ → List ℕ
sliced_data segment = map sliced (drop 4 segment)

-- the levels of a segment's last twelve symbols
unfoldable pub sliced_last : List ℤ → List ℕ
sliced_last segment = map sliced (drop 820 segment)

-- the levels of the first n data symbols stand in front
abbrev pub AreSliced : ℕ → List ℤ → List ℕ → Type 0
AreSliced n segment levels =
    (k : ℕ) → k < n → slice_index levels k ≡ sliced (slice_index_or segment (4 + k) (pos 0))
