-- Sums of weights stand for costs, one step further and at the start.
use Rattle.std.proofs.Common.{◌≡◌, ℕ, zero, suc, ℤ, pos, ◌+◌, ◌*◌, ◌<◌, ◌≤◌, ◌+ℤ◌, ◌≤ℤ◌, List, [], ◌∷◌, refl, arith}
use Rattle.std.proofs.lemmas.Bool.{cases_lt}
use Rattle.std.proofs.Math.Nat.{mul-add, mul-le-mul_left}
use Rattle.dtx_soft.specs.Gaps.{unit}
use Rattle.dtx_soft.proofs.LeastPathLemmas.{next_small}
use Rattle.dtx_soft.proofs.WritesLemmas.{four}
use Rattle.dtx_pins.specs.declared.start.Stand.{Stand}
use Rattle.dtx_pins.specs.Steps.{IsBest, IsStep, cost_at, number_of, square_of, through, AreUnits, weight}
use Rattle.dtx_pins.specs.Trace.{IsStart, state_of}
use Rattle.dtx_pins.proofs.WeightTests.{IsWeighed, is_weighed}

-- the step at a symbol
abbrev pub IsStepAt : ℕ → ℤ → ℕ → List (List ℕ) → List (List ℕ) → ℕ → Type 0
IsStepAt scale symbol pin old new mark = IsStep (square_of scale symbol) pin old new mark

-- ---- orders

unit_some : (scale : ℕ) → 0 < unit scale
unit_some scale = omega arith

-- a number that stands for another one
abbrev Stands : ℕ → ℕ → ℕ → ℕ → ℕ → Type 0
Stands k lift base x a = 4 * x + k * lift ≡ base + k * a

keeps_most : (k lift base x y a b : ℕ) → Stands k lift base x a → Stands k lift base y b → a ≤ b → x ≤ y
keeps_most k lift base x y a b e f l = let g : k * a ≤ k * b = mul-le-mul_left k l in omega (arith, e, f, g)

keeps_same : (k lift base x y a b : ℕ) → 0 < k → Stands k lift base x a → Stands k lift base y b → x ≡ y → a ≡ b
keeps_same k lift base x y a b s e f h = grind (arith, cases_lt, mul-le-mul_left, mul-add)

-- ---- one step

through_units : (scale : ℕ) (symbol : ℤ) (costs sums : List (List ℕ)) (u : AreUnits (unit scale) costs sums)
    → ((z : ℕ) → z < 8 → IsWeighed scale symbol z) → (s k : ℕ) → s < 4 → k < 4
    → Stands (unit scale) (3584 + u.lift) (4 * square_of scale symbol 0 + u.base)
    (through (square_of scale symbol) costs s k) (through (weight scale symbol) sums s k)
through_units scale symbol costs sums u w s k l m = grind (arith, next_small, mul-add)

best_units : (scale : ℕ) (symbol : ℤ) (pin : ℕ) (costs sums : List (List ℕ)) → AreUnits (unit scale) costs sums
    → ((z : ℕ) → z < 8 → IsWeighed scale symbol z) → (p s k : ℕ) → s < 4
    → IsBest (weight scale symbol) pin sums p s k → IsBest (square_of scale symbol) pin costs p s k
best_units scale symbol pin costs sums u w p s k l b = record {
  small = b.small;
  told = b.told;
  least = λ j m t. keeps_most (unit scale) (3584 + u.lift) (4 * square_of scale symbol 0 + u.base) _ _ _ _
      (stands k b.small) (stands j m) (b.least j m t);
  first = λ j m t e. b.first j m t (keeps_same (unit scale) (3584 + u.lift)
      (4 * square_of scale symbol 0 + u.base) _ _ _ _ (unit_some scale) (stands j m) (stands k b.small) e);
}
  where
    stands : (k : ℕ) → k < 4 → Stands (unit scale) (3584 + u.lift) (4 * square_of scale symbol 0 + u.base)
        (through (square_of scale symbol) costs s k) (through (weight scale symbol) sums s k)
    stands k m = through_units scale symbol costs sums u w s k l m

-- eight numbers as the costs from each former Z2 and state
pub listed : (ℕ → ℕ → ℕ) → List (List ℕ)
listed f = (f 0 0 ∷ f 0 1 ∷ f 0 2 ∷ f 0 3 ∷ []) ∷ (f 1 0 ∷ f 1 1 ∷ f 1 2 ∷ f 1 3 ∷ []) ∷ []

pub listed_at : (f : ℕ → ℕ → ℕ) (p s : ℕ) → p < 2 → s < 4 → cost_at (listed f) p s ≡ f p s
unfolding listed
listed_at f zero s l m = four (λ s. cost_at (listed f) 0 s ≡ f 0 s) refl refl refl refl s m
listed_at f (suc zero) s l m = four (λ s. cost_at (listed f) 1 s ≡ f 1 s) refl refl refl refl s m
listed_at f (suc (suc p)) s l m = absurd (omega arith)

-- what a step over weights is over squares
pub record AreStepUnits (scale : ℕ) (symbol : ℤ) (pin : ℕ) (costs new : List (List ℕ)) (mark : ℕ) : Type 0 where
  pub after : List (List ℕ)
  pub step : IsStepAt scale symbol pin costs after mark
  pub units : AreUnits (unit scale) after new

pub step_units : (scale : ℕ) (symbol : ℤ) (pin : ℕ) (costs old new : List (List ℕ)) (mark : ℕ) → scale ≤ 18
    → pos 0 ≤ℤ (symbol +ℤ pos 128) → symbol ≤ℤ pos 127 → AreUnits (unit scale) costs old
    → IsStep (weight scale symbol) pin old new mark → AreStepUnits scale symbol pin costs new mark
step_units scale symbol pin costs old new mark l from to u h = record {
  after = listed after;
  step = record {
    best = λ p s f m. best_units scale symbol pin costs old u weighed p s (number_of mark p s) m (h.best p s f m);
    costs = λ p s f m. listed_at after p s f m;
  };
  units = record {
    base = 4 * square_of scale symbol 0 + u.base;
    lift = 3584 + u.lift;
    each = λ p s f m. grind (arith, listed_at, after, through_units, weighed);
  };
}
  where
    after : ℕ → ℕ → ℕ
    after p s = through (square_of scale symbol) costs s (number_of mark p s)

    weighed : (z : ℕ) → z < 8 → IsWeighed scale symbol z
    weighed z m = is_weighed scale symbol z l from to m

-- ---- the start

pub start_units : (scale pin : ℕ) (costs sums : List (List ℕ)) (stand : Stand) → AreUnits (unit scale) costs sums
    → IsStart pin sums stand → IsStart pin costs stand
start_units scale pin costs sums stand u h = record {
  former = h.former;
  q1 = h.q1;
  q0 = h.q0;
  cost = h.cost;
  least = λ p s f m. keeps_most (unit scale) u.lift u.base _ _ _ _ own (u.each p s f m) (h.least p s f m);
  first = λ p s f m e. h.first p s f m (grind (arith, keeps_same, unit_some, own));
}
  where
    own : Stands (unit scale) u.lift u.base (cost_at costs stand.former (state_of stand))
        (cost_at sums stand.former (state_of stand))
    own = u.each stand.former (state_of stand) h.former (let a = h.q1 in let b = h.q0 in omega arith)
