-- Symbols as a capture has them: at a gain, with a constant, and perhaps turned (the profile's own).
use Rattle.std.specs.Prelude.{ℕ, ℤ, pos, ◌≡◌, ◌+◌, ◌*◌, ◌/◌, ◌+ℤ◌, ◌*ℤ◌, Bool, List, [], length, map, slice_index_or}
use Rattle.std.specs.List.{range_with_len}
use Rattle.dtx_acquire.specs.Agreement.{is_second}
use Rattle.dtx_level.specs.declared.measure.Measure.{Measure}
use Rattle.dtx_level.specs.Syncs.{all_syncs, slips}
use Rattle.dtx_level.specs.Levelled.{levelled}
use Rattle.dtx_level.specs.Measures.{measures}

-- Each symbol s as gain * s + constant. The gain is in steps a unit, and below 0 where the capture is turned.
unfoldable pub standing : ℤ → ℤ → List ℤ → List ℤ
standing gain constant symbols = map (λ s. gain *ℤ s +ℤ constant) symbols

-- each symbol times eight
unfoldable pub eightfold : List ℤ → List ℤ
eightfold symbols = map (λ s. pos 8 *ℤ s) symbols

-- the measure of a sync at a place of this capture: its noise is 0
abbrev pub exact_measure : ℤ → ℤ → ℕ → Bool → Measure
exact_measure gain constant place second = record {
  place = place;
  second = second;
  gain = pos 100 *ℤ gain;
  constant = pos 100 *ℤ constant;
  noise = 0;
}

-- the measure of the sync of field f, which is segment 313 * f
unfoldable pub standing_measure : ℤ → ℤ → List (List ℤ) → ℕ → Measure
standing_measure gain constant segments f =
    exact_measure gain constant (260416 * f) (is_second (slice_index_or segments (313 * f) []))

-- the measures of the syncs of all fields that are begun
unfoldable pub standing_measures : ℤ → ℤ → List (List ℤ) → List Measure
standing_measures gain constant segments =
    map (standing_measure gain constant segments) (range_with_len 0 ((length segments + 312) / 313))

-- The symbols become `out`, the measures of their syncs are `told`, and no sync is a slip.
pub record AreLevelled (symbols out : List ℤ) (told : List Measure) : Type 0 where
  pub levelled_is : levelled symbols ≡ out
  pub measures_are : measures symbols ≡ told
  pub no_slip : slips (all_syncs symbols) ≡ 0
