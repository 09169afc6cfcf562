-- Rounds over a capture: what the segments of one round make known pins the paths of the next one (the profile's own;
-- ATSC A/53 Part 2, trellis coding).
use Rattle.std.specs.Prelude.{ℕ, ℤ, ◌+◌, ◌-◌, ◌*◌, ◌/◌, ◌%◌, ◌&&◌, nat_le, nat_lt, Bool, if◌then◌else◌, Option}
use Rattle.std.specs.Prelude.{List, [], ◌++◌, length, map, take, drop, slice_index_or, sum}
use Rattle.std.proofs.Common.{zero, suc}
use Rattle.std.specs.List.{range_with_len}
use Rattle.dtx_receiver.specs.Bytes.{bytes_in}
use Rattle.dtx_acquire.specs.Acquired.{acquired, acquired_so_far, all_fields, heard_in, decided}
use Rattle.dtx_acquire.specs.Sent.{groups_behind}
use Rattle.dtx_pins.specs.PinnedField.{moved_in, pinned, pinned_coder_cost}
use Rattle.dtx_rounds.specs.Known.{known_bytes, field_pins}

-- ---- one round

-- The data segments of field f in whole groups. A field has 313 segments, of which the first is its sync.
abbrev pub groups_in : List (List ℤ) → ℕ → List (List ℤ)
groups_in segments f = groups_behind segments (313 * f)

-- the pins of these segments
abbrev pub pins_in : List (List ℤ) → List (Option ℕ) → ℕ → List (List ℕ)
pins_in heard known f = field_pins known f (69 * length (groups_in heard f))

-- these segments, with each coder's symbols those of its least path under its pins
unfoldable pub paths_in : ℕ → List (List ℤ) → List (Option ℕ) → ℕ → List (List ℤ)
paths_in scale heard known f = pinned scale (pins_in heard known f) (groups_in heard f)

-- whether segment i is a data segment in a whole group of its field
unfoldable pub in_whole_group : List (List ℤ) → ℕ → Bool
in_whole_group segments i = nat_lt 0 (i % 313) && nat_le (i % 313) (length (groups_in segments (i / 313)))

-- Segment i after a round. A data segment in a whole group keeps its segment sync, and its other symbols are those of
-- the levels of the least paths. Each other segment stays.
unfoldable pub round_segment : ℕ → List (List ℤ) → List (Option ℕ) → List (List ℤ) → ℕ → List ℤ
round_segment scale heard known given i =
    if in_whole_group given i
    then take 4 (slice_index_or given i [])
    ++ map (decided scale) (drop 4 (slice_index_or (paths_in scale heard known (i / 313)) (i % 313 - 1) []))
    else slice_index_or given i []

-- The segments after a round over the given ones, of which `heard` has the symbols as they were received. The given
-- segments are read as one run, whose field syncs are told by number.
unfoldable pub rounded : ℕ → List (List ℤ) → List (List ℤ) → List (List ℤ)
rounded scale heard given =
    map (round_segment scale heard (known_bytes (bytes_in given)) given) (range_with_len 0 (length given))

-- what coder e's least path costs in field f
unfoldable pub coder_cost : ℕ → List (List ℤ) → List (Option ℕ) → ℕ → ℕ → ℕ
coder_cost scale heard known f e = pinned_coder_cost scale (pins_in heard known f) (groups_in heard f) e

-- ---- all rounds

-- so many rounds, one behind the other
unfoldable pub rounds_of : ℕ → List (List ℤ) → List (List ℤ) → ℕ → List (List ℤ)
rounds_of scale heard given zero = given
rounds_of scale heard given (suc r) = rounded scale heard (rounds_of scale heard given r)

-- the segments that are given of a capture, with their symbols as they were received
unfoldable pub heard_of : List ℤ → List (List ℤ)
heard_of symbols = heard_in (all_fields symbols)

-- the segments of a capture after r rounds
unfoldable pub refined : ℕ → List ℤ → ℕ → List (List ℤ)
refined scale symbols r = rounds_of scale (heard_of symbols) (acquired scale symbols) r

-- ---- piece by piece

-- How many segments of these symbols are refined whatever follows: those of all settled fields but the last r. A round
-- over a field waits for the next one.
unfoldable pub settled_count : ℕ → List ℤ → ℕ → ℕ
settled_count scale symbols r = length (acquired_so_far scale symbols) - 313 * r

-- these segments
unfoldable pub refined_so_far : ℕ → List ℤ → ℕ → List (List ℤ)
refined_so_far scale symbols r = take (settled_count scale symbols r) (refined scale symbols r)

-- the segments that the symbols' end adds
unfoldable pub refined_rest : ℕ → List ℤ → ℕ → List (List ℤ)
refined_rest scale symbols r = drop (settled_count scale symbols r) (refined scale symbols r)

-- ---- the numbers of a round

-- how many fields segments have
abbrev pub fields_in : List (List ℤ) → ℕ
fields_in segments = (length segments + 312) / 313

-- what the least paths of all fields and coders cost
unfoldable pub round_cost : ℕ → List (List ℤ) → List (List ℤ) → ℕ
round_cost scale heard given =
    sum (map (λ f. sum (map (coder_cost scale heard (known_bytes (bytes_in given)) f) (range_with_len 0 12)))
    (range_with_len 0 (fields_in given)))

-- in how many symbols the segments after a round differ from those given
unfoldable pub round_moved : ℕ → List (List ℤ) → List (List ℤ) → ℕ
round_moved scale heard given =
    sum (map (λ i. moved_in (slice_index_or given i []) (slice_index_or (rounded scale heard given) i []))
    (range_with_len 0 (length given)))
