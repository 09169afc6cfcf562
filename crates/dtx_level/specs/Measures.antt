-- The measures of the field syncs of a capture, and their text (the profile's own; ATSC A/53 Part 2, data field sync).
use Rattle.std.specs.Prelude.{ℕ, ℤ, pos, ◌+◌, ◌*◌, ◌+ℤ◌, ◌-ℤ◌, ◌*ℤ◌, nat_abs, Bool, true, false, not, List, map, sum}
use Rattle.std.specs.Prelude.{◌≡◌, ◌++◌, length, replicate, take, drop, slice_index_or, if◌then◌else◌, codes, decimal}
use Rattle.std.specs.Prelude.{flat_map}
use Rattle.std.specs.Int.{int_div_euclid}
use Rattle.std.specs.List.{range_with_len}
use Rattle.dtx_frame.specs.Segments.{sync_symbols}
use Rattle.dtx_acquire.specs.Agreement.{is_second}
use Rattle.dtx_level.specs.declared.measure.Measure.{Measure}
use Rattle.dtx_level.specs.Shown.{constant, gain}
use Rattle.dtx_level.specs.Syncs.{all_syncs, slips, syncs_where}
use Rattle.dtx_level.specs.Levelled.{by_sync, level, levelled, levelled_so_far, where_some}
use Rattle.std.specs.Fmt.{signed_decimal}

-- the segment of the sync at a place, levelled by that sync
unfoldable pub levelled_sync : List ℤ → ℕ → List ℤ
levelled_sync symbols place = map (level (by_sync symbols place)) (take 832 (drop place symbols))

-- (20 * g + 258 * 257) div (2 * 258 * 257), rounded down: the gain in hundredths of a step a unit
unfoldable pub gain_in_hundredths : ℤ → ℤ
gain_in_hundredths g = int_div_euclid (pos 20 *ℤ g +ℤ pos 66306) (pos 132612)

-- (100 * o + 258 * 257) div (2 * 258 * 257), rounded down: the constant in hundredths of a step
unfoldable pub constant_in_hundredths : ℤ → ℤ
constant_in_hundredths o = int_div_euclid (pos 100 *ℤ o +ℤ pos 66306) (pos 132612)

-- the square of the difference between symbol i of a levelled sync and 8 times the standard's, which is 40 or -40
unfoldable pub square_at : List ℤ → ℕ → ℕ
square_at segment i =
    nat_abs (slice_index_or segment i (pos 0) -ℤ pos 8 *ℤ slice_index_or (sync_symbols false) i (pos 0))
    * nat_abs (slice_index_or segment i (pos 0) -ℤ pos 8 *ℤ slice_index_or (sync_symbols false) i (pos 0))

-- the sum of these squares over the first `count` symbols
unfoldable pub noise : List ℤ → ℕ → ℕ
noise segment count = sum (map (square_at segment) (range_with_len 0 count))

-- The measure of the sync at a place: which field's it is, its gain and its constant in hundredths, and its noise over
-- the first 515 symbols.
unfoldable pub measure_at : List ℤ → ℕ → Measure
measure_at symbols place = record {
  place = place;
  second = is_second (levelled_sync symbols place);
  gain = gain_in_hundredths (gain symbols place);
  constant = constant_in_hundredths (constant symbols place);
  noise = noise (levelled_sync symbols place) 515;
}

unfoldable pub measures_where : (Bool → Bool) → List ℤ → List Measure
measures_where wanted symbols = map (measure_at symbols) (syncs_where wanted symbols)

-- the measures of all syncs
abbrev pub measures : List ℤ → List Measure
measures symbols = measures_where (λ met. true) symbols

-- the measures of the syncs behind which the next sync can already be looked for, whatever follows
abbrev pub measures_so_far : List ℤ → List Measure
measures_so_far symbols = measures_where (λ met. met) symbols

-- the measures that the end of the symbols adds
abbrev pub measures_rest : List ℤ → List Measure
measures_rest symbols = measures_where not symbols

-- the measure of the same sync `count` symbols later
abbrev pub later_by : ℕ → Measure → Measure
later_by count measure = record {
  place = count + measure.place;
  second = measure.second;
  gain = measure.gain;
  constant = measure.constant;
  noise = measure.noise;
}

-- What a front changes: each of its symbols becomes 0 where there is a sync behind it, and the syncs are later by its
-- length. Nothing else changes.
pub record IsLater (front symbols : List ℤ) : Type 0 where
  pub levelled_is : levelled (front ++ symbols)
      ≡ where_some (all_syncs symbols) (replicate (length front) (pos 0)) ++ levelled symbols
  pub measures_are : measures (front ++ symbols) ≡ map (later_by (length front)) (measures symbols)
  pub slips_are : slips (all_syncs (front ++ symbols)) ≡ slips (all_syncs symbols)

-- What is levelled and measured while `symbols` come is a prefix of what is levelled and measured while `symbols ++
-- more` come.
pub record IsGrown (symbols more : List ℤ) : Type 0 where
  pub others : List ℤ
  pub told : List Measure
  pub levelled_is : levelled_so_far (symbols ++ more) ≡ levelled_so_far symbols ++ others
  pub measures_are : measures_so_far (symbols ++ more) ≡ measures_so_far symbols ++ told

-- the number of a field in the line
abbrev pub field_number : Bool → ℕ
field_number second = if second then 2 else 1

-- A line: `sync`, the place, the field, the gain, the constant and the noise, with one space between them, and a line
-- feed. Below 0 a number has a minus sign.
unfoldable pub measure_text : Measure → List ℕ
measure_text measure =
    codes "sync "
    ++ (decimal measure.place
    ++ (codes " "
    ++ (decimal (field_number measure.second)
    ++ (codes " "
    ++ (signed_decimal measure.gain
    ++ (codes " "
    ++ (signed_decimal measure.constant ++ (codes " " ++ (decimal measure.noise ++ codes "\n")))))))))

-- the lines, one behind the other
abbrev pub measures_text : List Measure → List ℕ
measures_text measures = flat_map measure_text measures
