-- The walk along the least paths under pins, from the first symbol to the last.
use Rattle.std.specs.Prelude.{ℕ, zero, suc, ℤ, pos, ◌≡◌, ◌+◌, ◌-◌, ◌*◌, ◌/◌, ◌%◌, ◌<◌, ◌≤◌, ◌⊎◌, ◌==◌, List, []}
use Rattle.std.specs.Prelude.{if◌then◌else◌, slice_index, slice_index_or}
use Rattle.dtx_soft.specs.Paths.{squared, symbol_at}
use Rattle.dtx_pins.specs.Pins.{pin_at}
use Rattle.dtx_pins.specs.Steps.{cost_at, number_of}
use Rattle.dtx_pins.specs.declared.start.Stand.{Stand}
use Rattle.dtx_pins.specs.declared.start.Stands.{Stands}

abbrev pub state_of : Stand → ℕ
state_of stand = 2 * stand.q1 + stand.q0

-- how far a path can have come at step t
pub record IsStand (t : ℕ) (stand : Stand) : Type 0 where
  pub former : stand.former < 2
  pub q1 : stand.q1 < 2
  pub q0 : stand.q0 < 2
  pub cost : stand.cost ≤ 64516 * t

-- X2 of a pin, or 0 where it says nothing
abbrev pub x2_of : ℕ → ℕ
x2_of pin = if pin / 2 == 1 then 1 else 0

-- Where a least path begins: at the state of least cost, the first of several. Where both former Z2 come to it, the
-- former one is X2 of the first pin, so that the first level has Z2 = 0.
pub record IsStart (pin : ℕ) (costs : List (List ℕ)) (stand : Stand) : Type 0 where
  pub former : stand.former < 2
  pub q1 : stand.q1 < 2
  pub q0 : stand.q0 < 2
  pub cost : stand.cost ≡ 0
  pub least : (p s : ℕ) → p < 2 → s < 4 → cost_at costs stand.former (state_of stand) ≤ cost_at costs p s
  pub first : (p s : ℕ) → p < 2 → s < 4 → cost_at costs p s ≡ cost_at costs stand.former (state_of stand)
      → (state_of stand < s) ⊎ ((state_of stand ≡ s) × ((stand.former ≡ p) ⊎ (stand.former ≡ x2_of pin)))

-- one step further: the former Z2 and the state that the level leads to; the cost stays
pub record IsMoved (mark : ℕ) (old new : Stand) (level : ℕ) : Type 0 where
  pub former : new.former ≡ number_of mark old.former (state_of old) / 2
  pub q1 : new.q1 ≡ (number_of mark old.former (state_of old) % 2 + old.q0) % 2
  pub q0 : new.q0 ≡ old.q1
  pub level_is : level ≡ 2 * number_of mark old.former (state_of old) + old.q1
  pub small : number_of mark old.former (state_of old) < 4
  pub cost : new.cost ≡ old.cost

-- The same, with the square of how far the symbol is off the level added to the cost. The symbol that is written is
-- that of the level at scale 1.
pub record IsNext (scale : ℕ) (symbol : ℤ) (mark : ℕ) (old new : Stand) (written : ℤ) : Type 0 where
  pub former : new.former ≡ number_of mark old.former (state_of old) / 2
  pub q1 : new.q1 ≡ (number_of mark old.former (state_of old) % 2 + old.q0) % 2
  pub q0 : new.q0 ≡ old.q1
  pub written_is : written ≡ symbol_at 1 (2 * number_of mark old.former (state_of old) + old.q1)
  pub number_small : number_of mark old.former (state_of old) < 4
  pub cost : new.cost ≡ old.cost
      + squared symbol (symbol_at scale (2 * number_of mark old.former (state_of old) + old.q1))
  pub small : squared symbol (symbol_at scale (2 * number_of mark old.former (state_of old) + old.q1)) ≤ 64516

-- where the path of coder e stands
abbrev pub stand_at : Stands → ℕ → Stand
stand_at stands e = record {
  former = slice_index stands.former e;
  q1 = slice_index stands.q1 e;
  q0 = slice_index stands.q0 e;
  cost = slice_index stands.cost e;
}

-- where the least paths of all coders begin, under the pins of the first step
pub record AreStarts (pins : List (List ℕ)) (sums : ℕ → List (List ℕ)) (begun : Stands) : Type 0 where
  pub starts : (e : ℕ) → e < 12 → IsStart (pin_at (slice_index_or pins 0 []) e) (sums e) (stand_at begun e)
  pub stands : (e : ℕ) → e < 16 → IsStand 0 (stand_at begun e)

-- Where the symbol of coder e stands in round r of a segment. In the segment the coders have moved on by four places
-- `turn` times.
abbrev pub turned_place : ℕ → ℕ → ℕ → ℕ
turned_place turn r e = 4 + 12 * r + (e + 12 - 4 * turn) % 12

-- n steps from one stand to another, over the symbols that were heard
abbrev pub IsTraced : ℕ → (ℕ → ℤ) → (ℕ → ℕ) → (ℕ → ℤ) → ℕ → Stand → Stand → Type 0
IsTraced scale symbols marks written zero old new = new ≡ old
IsTraced scale symbols marks written (suc n) old new =
    (between : Stand) × IsTraced scale symbols marks written n old between
    × IsNext scale (symbols n) (marks n) between new (written n)

-- the first rounds of a segment, for all coders
pub record AreTraced (scale turn rounds : ℕ) (marks : List (List ℕ)) (heard path : List ℤ)
    (old new : Stands) : Type 0 where
  pub traced : (e : ℕ) → e < 12 → IsTraced scale (λ r. slice_index_or heard (turned_place turn r e) (pos 0))
      (λ r. slice_index (slice_index_or marks r []) e) (λ r. slice_index_or path (turned_place turn r e) (pos 0)) rounds
      (stand_at old e) (stand_at new e)
  pub stands : (t e : ℕ) → e < 16 → IsStand t (stand_at old e) → IsStand (t + rounds) (stand_at new e)
