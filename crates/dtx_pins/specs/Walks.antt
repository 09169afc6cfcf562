-- What the walk back keeps: the least costs of paths that agree with pins, and the marks.
use Rattle.std.specs.Prelude.{ℕ, ℤ, pos, ◌≡◌, ◌+◌, ◌*◌, ◌%◌, ◌<◌, ◌≤◌, List, [], length, drop, slice_index}
use Rattle.std.specs.Prelude.{slice_index_or, ◌∷◌}
use Rattle.dtx_soft.specs.Paths.{IsPath, cost}
use Rattle.dtx_pins.specs.Pins.{AgreesFrom, coder_pins, pin_at}
use Rattle.dtx_soft.specs.Coders.{coder_symbols}
use Rattle.dtx_soft.specs.Gaps.{unit}
use Rattle.dtx_pins.specs.Steps.{IsBest, cost_at, number_of, square_of, AreUnits}
use Rattle.dtx_pins.specs.declared.lanes.Lanes.{Lanes}
use Rattle.dtx_pins.specs.declared.lanes.Sums.{Sums}

-- the least cost of a path that agrees, from a former Z2 and a state: no such path costs less, and one costs as much
pub record IsLeastCost (scale : ℕ) (pins : List ℕ) (symbols : List ℤ) (former state least : ℕ) : Type 0 where
  pub below : (levels : List ℕ) → length levels ≡ length symbols → IsPath state levels → AgreesFrom former pins levels
      → least ≤ cost scale symbols levels
  pub met : (levels : List ℕ) × (length levels ≡ length symbols) × IsPath state levels × AgreesFrom former pins levels
      × (cost scale symbols levels ≡ least)

-- the same from each
abbrev pub AreLeastCosts : ℕ → List ℕ → List ℤ → List (List ℕ) → Type 0
AreLeastCosts scale pins symbols costs =
    (p s : ℕ) → p < 2 → s < 4 → IsLeastCost scale pins symbols p s (cost_at costs p s)

-- sums of weights that stand for the least costs
pub record AreLeastSums (scale : ℕ) (pins : List ℕ) (symbols : List ℤ) (sums : List (List ℕ)) : Type 0 where
  pub costs : List (List ℕ)
  pub least : AreLeastCosts scale pins symbols costs
  pub units : AreUnits (unit scale) costs sums

-- the mark of step t
pub record IsMark (scale : ℕ) (pins : List ℕ) (symbols : List ℤ) (t mark : ℕ) : Type 0 where
  pub behind : List (List ℕ)
  pub least : AreLeastCosts scale (drop (t + 1) pins) (drop (t + 1) symbols) behind
  pub best : (p s : ℕ) → p < 2 → s < 4
      → IsBest (square_of scale (slice_index_or symbols t (pos 0))) (pin_at pins t) behind p s (number_of mark p s)

-- what a walk back to step t gives: sums of weights that stand for the least costs of each coder there, and the marks
-- from there on
pub record AreWalked (scale t : ℕ) (pins : List (List ℕ)) (heard : List (List ℤ)) (sums : ℕ → List (List ℕ))
    (marks : List (List ℕ)) : Type 0 where
  pub sums_are : (e : ℕ) → e < 12
      → AreLeastSums scale (drop t (coder_pins pins e)) (drop t (coder_symbols heard e)) (sums e)
  pub marks_are : (k e : ℕ) → t ≤ k → k < 69 * length heard → e < 12
      → IsMark scale (coder_pins pins e) (coder_symbols heard e) k (slice_index (slice_index_or marks k []) e)

-- these rows, 69 of them, stand in a list from row `at` on
abbrev pub StandAt : ℕ → List (List ℕ) → List (List ℕ) → Type 0
StandAt at rows list = (r : ℕ) → r < 69 → slice_index_or list (at + r) [] ≡ slice_index_or rows r []

-- What the walk back does in a segment, from the sums `old` behind it to the sums `new` before it. Wherever the segment
-- stands among those that were heard, with its pins and its marks, the walk back to its end leads on to its beginning.
abbrev pub LeadsOn : ℕ → ℕ → List ℤ → List (List ℕ) → List (List ℕ) → (ℕ → List (List ℕ)) → (ℕ → List (List ℕ))
    → Type 0
LeadsOn scale turn segment pins marks old new =
    (i : ℕ) (all_pins all_marks : List (List ℕ)) (heard : List (List ℤ)) → i < length heard → turn ≡ i % 3
    → segment ≡ slice_index_or heard i [] → StandAt (69 * i) pins all_pins → StandAt (69 * i) marks all_marks
    → AreWalked scale (69 * (i + 1)) all_pins heard old all_marks
    → AreWalked scale (69 * i) all_pins heard new all_marks

-- the sums of coder e, one from each state
abbrev pub lane_of : Lanes → ℕ → List ℕ
lane_of lanes e = slice_index lanes.first e ∷ slice_index lanes.second e ∷ slice_index lanes.third e
    ∷ slice_index lanes.fourth e ∷ []

-- the same behind each former Z2
abbrev pub sums_of : Sums → ℕ → List (List ℕ)
sums_of sums e = lane_of sums.none e ∷ lane_of sums.one e ∷ []
