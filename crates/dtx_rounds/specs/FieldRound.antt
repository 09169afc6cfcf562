-- A round over a single field (the profile's own; ATSC A/53 Part 2, trellis coding). The field is a run of its own, of
-- at most 313 segments, and what is known of it is given.
use Rattle.std.specs.Prelude.{ℕ, ℤ, ◌≡◌, ◌<◌, Bool, true, false, Option, None, List, length, map, filter}
use Rattle.std.specs.Prelude.{slice_index_or, sum, ◌-◌, ◌*◌, ◌/◌, drop, take}
use Rattle.std.specs.List.{range_with_len, flat_map}
use Rattle.dtx_rounds.specs.Rounds.{coder_cost, round_segment}
use Rattle.dtx_slice.specs.Slicing.{sliced_data}
use Rattle.dtx_slice.specs.Unrolled.{bytes_back, precoder_bits_of}

-- the segments after a round
unfoldable pub field_rounded : ℕ → List (List ℤ) → List (Option ℕ) → List (List ℤ) → List (List ℤ)
field_rounded scale heard known given = map (round_segment scale heard known given) (range_with_len 0 (length given))

-- what the least paths of all coders cost
unfoldable pub field_cost : ℕ → List (List ℤ) → List (Option ℕ) → ℕ
field_cost scale heard known = sum (map (coder_cost scale heard known 0) (range_with_len 0 12))

-- what the least paths of a field cost at most, in its 313 segments
abbrev pub most_field_cost : ℕ
most_field_cost = 16720224624

-- how many of the words that begin in the field are known
unfoldable pub words_known : List Bool → ℕ
words_known words = length (filter (λ k. slice_index_or words k false) (range_with_len 0 312))

-- nothing is known, by bytes and by words, and nothing has moved
pub record KnowsNothing (known : List (Option ℕ)) (found : List Bool) (knows_more : Bool) (moved : ℕ) : Type 0 where
  pub bytes : (n : ℕ) → n < 64584 → slice_index_or known n None ≡ None
  pub words : (k : ℕ) → k < 312 → slice_index_or found k true ≡ false
  pub more : knows_more ≡ false
  pub still : moved ≡ 0

-- They are the bytes of the whole groups of a field, which has so many segments with its sync. `last` are the levels of
-- the last twelve symbols before them, one of each coder.
pub record IsWritten (count : ℕ) (decided : List (List ℤ)) (last : List ℕ) (groups : List (List ℕ)) : Type 0 where
  pub bytes : take (207 * ((count - 1) / 4 * 4)) (flat_map (λ group. group) groups)
      ≡ bytes_back 0 (precoder_bits_of last) (flat_map sliced_data (take ((count - 1) / 4 * 4) (drop 1 decided)))
