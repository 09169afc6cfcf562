-- From the symbols of a run to its bytes (ATSC A/53 Part 2, trellis coding: the way back).
use Rattle.std.specs.Prelude.{ℕ, ℤ, ◌+◌, ◌-◌, ◌*◌, ◌/◌, List, [], length, slice_index_or, map}
use Rattle.std.specs.List.{range_with_len, flat_map}
use Rattle.dtx_slice.specs.Slicing.{sliced_data, sliced_last}
use Rattle.dtx_slice.specs.Unrolled.{bytes_back, precoder_bits_of, precoder_bits_after}
use Rattle.std.specs.Int.{w8, cast_signed}

-- how many data segments a run has: all segments but the field syncs, which stand at the places 0, 313, 626 and so on
unfoldable pub data_count : List (List ℤ) → ℕ
data_count run = length run - (length run + 312) / 313

-- data segment d of a run
unfoldable pub data_at : List (List ℤ) → ℕ → List ℤ
data_at run d = slice_index_or run (d + d / 312 + 1) []

-- how many whole groups of four data segments a run has
unfoldable pub groups_of : List (List ℤ) → ℕ
groups_of run = data_count run / 4

-- the levels of n data segments, from number d on
unfoldable pub levels_from : List (List ℤ) → ℕ → ℕ → List ℕ
levels_from run d n = flat_map (λ i. sliced_data (data_at run i)) (range_with_len d n)

-- the levels of all whole groups
unfoldable pub levels_in : List (List ℤ) → List ℕ
levels_in run = levels_from run 0 (4 * groups_of run)

-- Z2 of the twelve coders before a run's first data segment. It comes from the last twelve symbols of the run's first
-- field sync, which repeat those of the segment before. Later field syncs aren't used for it.
unfoldable pub first_bits : List (List ℤ) → List ℕ
first_bits run = precoder_bits_of (sliced_last (slice_index_or run 0 []))

-- Z2 of the twelve coders after the whole groups of a run
unfoldable pub precoder_bits_in : List (List ℤ) → List ℕ
precoder_bits_in run = precoder_bits_after 0 (first_bits run) (levels_in run)

-- the bytes of all whole groups: the run's first data segment is at place 0 of a field
unfoldable pub bytes_in : List (List ℤ) → List ℕ
bytes_in run = bytes_back 0 (first_bits run) (levels_in run)

-- the symbols of bytes
abbrev pub symbols_of : List ℕ → List ℤ
symbols_of bytes = map (λ byte. cast_signed w8 byte) bytes

-- the symbols of segments
abbrev pub symbols_in : List (List ℕ) → List (List ℤ)
symbols_in segments = map symbols_of segments
