-- The detection of a field sync, and of the field that it belongs to, among symbols that may be any signed bytes (the
-- profile's own).
use Rattle.std.specs.Prelude.{ℕ, ℤ, pos, ◌+◌, ◌/◌, ◌==◌, nat_le, if◌then◌else◌, Bool, false, List, map, sum}
use Rattle.std.specs.Prelude.{slice_index, slice_index_or}
use Rattle.std.specs.List.{range_with_len}
use Rattle.dtx_slice.specs.Slicing.{sliced}
use Rattle.dtx_frame.specs.Segments.{pn63, sync_symbols}

-- 1 where the segment's symbol i, sliced, differs from that of a field sync. The first 515 are the same in both fields.
unfoldable pub differs : List ℤ → ℕ → ℕ
differs segment i =
    if sliced (slice_index_or segment i (pos 0)) == sliced (slice_index_or (sync_symbols false) i (pos 0)) then 0 else 1

-- how many of the first 515 symbols differ: those of the segment sync and the long sequence
unfoldable pub differing : List ℤ → ℕ
differing segment = sum (map (differs segment) (range_with_len 0 515))

-- whether at most 32 of them differ
unfoldable pub looks_like : List ℤ → Bool
looks_like segment = nat_le (differing segment) 32

-- 1 where the symbol that stands for bit i of the middle short sequence, sliced, has the other sign than that bit's.
-- Levels 0 to 3 are the negative sign, which is that of a bit of 0.
unfoldable pub opposite : List ℤ → ℕ → ℕ
opposite segment i = if sliced (slice_index_or segment (578 + i) (pos 0)) / 4 == slice_index pn63 i then 0 else 1

-- how many of the 63 symbols have the other sign
unfoldable pub opposites : List ℤ → ℕ
opposites segment = sum (map (opposite segment) (range_with_len 0 63))

-- whether at least 32 of them have it
unfoldable pub looks_second : List ℤ → Bool
looks_second segment = nat_le 32 (opposites segment)
