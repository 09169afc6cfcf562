-- How the syncs of a stream are measured in a capture of it at any gain (the profile's own, over ATSC A/53 Part 2).
use Rattle.std.specs.Prelude.{ℕ, ℤ, ◌+◌, ◌*◌, ◌/◌, ◌%◌, ◌==◌, List, length, map}
use Rattle.std.specs.List.{range_with_len}
use Rattle.dtx_level.specs.declared.measure.Measure.{Measure}
use Rattle.dtx_level.specs.Standing.{exact_measure}

-- the measure of the sync of field f; fields are counted from 0, and those of odd numbers are second fields
unfoldable pub field_measure : ℤ → ℤ → ℕ → Measure
field_measure gain constant f = exact_measure gain constant (260416 * f) (f % 2 == 1)

-- how many fields of a stream are begun: one for each 78 groups of four packets that are begun
abbrev pub fields_begun : List (List ℕ) → ℕ
fields_begun packets = (length packets / 4 + 77) / 78

-- the measures of the syncs of all fields
unfoldable pub stream_measures : ℤ → ℤ → List (List ℕ) → List Measure
stream_measures gain constant packets = map (field_measure gain constant) (range_with_len 0 (fields_begun packets))
