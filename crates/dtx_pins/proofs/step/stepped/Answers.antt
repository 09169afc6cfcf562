use Rattle.std.proofs.Common.{◌≡◌, ℕ, zero, suc, ℤ, ◌+◌, ◌*◌, ◌%◌, ◌<◌, ◌≤◌, List, [], ◌∷◌, get_or, min, sym, ap, ap₂}
use Rattle.std.proofs.Common.{◌∙◌, subst, w8, to_z, of_z, arith}
use mir.Val.{SFits}
use Rattle.std.proofs.lemmas.Int.{ints, to_z-of_z}
use Rattle.dtx_pins.specs.Steps.{AreAtMost, IsBest, cost_at, number_of, pen_of, through, fare, weight}
use Rattle.dtx_pins.proofs.PinnedSteps.{IsHalf, fare_small, half_is, half_small, mark_is, pen_small, step_is}
use Rattle.dtx_pins.proofs.WeightTests.{is_weighed}
use Rattle.dtx_pins.proofs.step.stepped.Goals as goal

at_most : (pin i x : ℕ) → x ≡ pen_of pin i → x ≤ 1400000000
at_most pin i x e = let a = pen_small pin i in omega (arith, e, a)

small : (scale : ℕ) (symbol : ℤ) → scale ≤ 18 → SFits w8 symbol → (z : ℕ) → z < 8 → weight scale symbol z ≤ 7168
small scale symbol l f z m = (is_weighed scale symbol z l (omega (arith, ints)) (omega (arith, ints)) m).small

-- the levels with Z2 = 0 are the first ones
from_zero : (f : ℕ → ℕ) (xs : List ℕ) → ((i : ℕ) → i < 4 → get_or xs i 0 ≡ f i)
    → (i : ℕ) → i < 4 → get_or xs i 0 ≡ f (4 * 0 + i)
from_zero f xs e i l = e i l ∙ ap f (omega arith)

fare_at_most : (scale : ℕ) (symbol : ℤ) (first second : ℕ) (fares : List ℕ) (pin z2 : ℕ) → scale ≤ 18
    → SFits w8 symbol → first ≡ pen_of pin 0 → second ≡ pen_of pin 1 → z2 < 2
    → ((i : ℕ) → i < 4 → get_or fares i 0 ≡ fare scale (to_z w8 (of_z w8 symbol)) first second (4 * z2 + i))
    → AreAtMost 1400007171 fares
fare_at_most scale symbol first second fares pin z2 l f a b m each i n =
    subst (λ x. x ≤ 1400007171) (sym (each i n))
    (subst (λ v. fare scale v first second (4 * z2 + i) ≤ 1400007171) (sym (to_z-of_z w8 symbol f))
    (fare_small scale symbol first second (4 * z2 + i) (small scale symbol l f) (at_most pin 0 first a)
    (at_most pin 1 second b) (omega arith)))

pub fares-fares-requires-clause-first : goal.fares-fares-requires-clause-first
fares-fares-requires-clause-first c = at_most c.args.pin 0 _ c.pens_of-pens.ensures.first

pub fares-fares-requires-clause-second : goal.fares-fares-requires-clause-second
fares-fares-requires-clause-second c = at_most c.args.pin 1 _ c.pens_of-pens.ensures.second

pub half-low-requires-clause-fares : goal.half-low-requires-clause-fares
half-low-requires-clause-fares c s l =
    let a = fare_at_most c.args.weights.now.scale c.args.symbol c.pens_of-pens.result.first
    c.pens_of-pens.result.second c.fares-fares.result.0 c.args.pin 0 c.args.weights.now.small c.ranges.symbol
    c.pens_of-pens.ensures.first c.pens_of-pens.ensures.second (omega arith)
    (from_zero _ _ c.fares-fares.ensures.low) s l in
    omega (arith, a)

pub half-high-requires-clause-fares : goal.half-high-requires-clause-fares
half-high-requires-clause-fares c s l =
    let a = fare_at_most c.args.weights.now.scale c.args.symbol c.pens_of-pens.result.first
    c.pens_of-pens.result.second c.fares-fares.result.1 c.args.pin 1 c.args.weights.now.small c.ranges.symbol
    c.pens_of-pens.ensures.first c.pens_of-pens.ensures.second (omega arith) c.fares-fares.ensures.high s l in
    omega (arith, a)

pub joined-with_none-requires-clause-low : goal.joined-with_none-requires-clause-low
joined-with_none-requires-clause-low c s l =
    half_small (get_or c.args.behind.now 0 []) c.fares-fares.result.0 s _ l
    (λ s l. c.requires.bounded 0 s (omega arith) l)
    (fare_at_most c.args.weights.now.scale c.args.symbol c.pens_of-pens.result.first
    c.pens_of-pens.result.second c.fares-fares.result.0 c.args.pin 0 c.args.weights.now.small c.ranges.symbol
    c.pens_of-pens.ensures.first c.pens_of-pens.ensures.second (omega arith) (from_zero _ _ c.fares-fares.ensures.low))
    (c.half-low.ensures s l)

pub joined-with_none-requires-clause-high : goal.joined-with_none-requires-clause-high
joined-with_none-requires-clause-high c s l =
    half_small (get_or c.args.behind.now 1 []) c.fares-fares.result.1 s _ l
    (λ s l. c.requires.bounded 1 s (omega arith) l)
    (fare_at_most c.args.weights.now.scale c.args.symbol c.pens_of-pens.result.first
    c.pens_of-pens.result.second c.fares-fares.result.1 c.args.pin 1 c.args.weights.now.small c.ranges.symbol
    c.pens_of-pens.ensures.first c.pens_of-pens.ensures.second (omega arith) c.fares-fares.ensures.high)
    (c.half-high.ensures s l)

pub joined-with_none-requires-clause-near : goal.joined-with_none-requires-clause-near
joined-with_none-requires-clause-near c = at_most c.args.pin 2 _ c.pens_of-pens.ensures.near

pub joined-with_none-requires-clause-far : goal.joined-with_none-requires-clause-far
joined-with_none-requires-clause-far c = at_most c.args.pin 3 _ c.pens_of-pens.ensures.far

pub joined-with_one-requires-clause-low : goal.joined-with_one-requires-clause-low
joined-with_one-requires-clause-low c s l =
    half_small (get_or c.args.behind.now 0 []) c.fares-fares.result.0 s _ l
    (λ s l. c.requires.bounded 0 s (omega arith) l)
    (fare_at_most c.args.weights.now.scale c.args.symbol c.pens_of-pens.result.first
    c.pens_of-pens.result.second c.fares-fares.result.0 c.args.pin 0 c.args.weights.now.small c.ranges.symbol
    c.pens_of-pens.ensures.first c.pens_of-pens.ensures.second (omega arith) (from_zero _ _ c.fares-fares.ensures.low))
    (c.half-low.ensures s l)

pub joined-with_one-requires-clause-high : goal.joined-with_one-requires-clause-high
joined-with_one-requires-clause-high c s l =
    half_small (get_or c.args.behind.now 1 []) c.fares-fares.result.1 s _ l
    (λ s l. c.requires.bounded 1 s (omega arith) l)
    (fare_at_most c.args.weights.now.scale c.args.symbol c.pens_of-pens.result.first
    c.pens_of-pens.result.second c.fares-fares.result.1 c.args.pin 1 c.args.weights.now.small c.ranges.symbol
    c.pens_of-pens.ensures.first c.pens_of-pens.ensures.second (omega arith) c.fares-fares.ensures.high)
    (c.half-high.ensures s l)

pub joined-with_one-requires-clause-near : goal.joined-with_one-requires-clause-near
joined-with_one-requires-clause-near c = at_most c.args.pin 3 _ c.pens_of-pens.ensures.far

pub joined-with_one-requires-clause-far : goal.joined-with_one-requires-clause-far
joined-with_one-requires-clause-far c = at_most c.args.pin 2 _ c.pens_of-pens.ensures.near

pub returns-clause-step : goal.returns-clause-step
returns-clause-step c = record { best = λ p s f m. (both p s f m).0; costs = λ p s f m. (both p s f m).1 }
  where
    own : (z : ℕ) → z < 8 → weight c.args.weights.now.scale c.args.symbol z % 4 ≡ 0
    own z l = (is_weighed c.args.weights.now.scale c.args.symbol z c.args.weights.now.small
        (let f = c.ranges.symbol in omega (arith, ints, f)) (let f = c.ranges.symbol in omega (arith, ints, f))
        l).multiple

    few : (z : ℕ) → z < 8 → weight c.args.weights.now.scale c.args.symbol z ≤ 7168
    few = small c.args.weights.now.scale c.args.symbol c.args.weights.now.small c.ranges.symbol

    same : to_z w8 (of_z w8 c.args.symbol) ≡ c.args.symbol
    same = to_z-of_z w8 c.args.symbol c.ranges.symbol

    low : (s : ℕ) → s < 4 → IsHalf c.args.weights.now.scale c.args.symbol c.args.behind.now c.args.pin s 0
        (get_or c.half-low.result s 0)
    low s m =
        half_is c.args.weights.now.scale c.args.symbol c.args.behind.now c.args.pin _ _ 0 s
        (get_or c.half-low.result s 0) c.fares-fares.result.0 (omega arith) m c.pens_of-pens.ensures.first
        c.pens_of-pens.ensures.second
        (subst (λ v. (i : ℕ) → i < 4 → get_or c.fares-fares.result.0 i 0 ≡ fare c.args.weights.now.scale v
        c.pens_of-pens.result.first c.pens_of-pens.result.second (4 * 0 + i)) same
        (from_zero _ _ c.fares-fares.ensures.low))
        (c.half-low.ensures s m)

    high : (s : ℕ) → s < 4 → IsHalf c.args.weights.now.scale c.args.symbol c.args.behind.now c.args.pin s 1
        (get_or c.half-high.result s 0)
    high s m =
        half_is c.args.weights.now.scale c.args.symbol c.args.behind.now c.args.pin _ _ 1 s
        (get_or c.half-high.result s 0) c.fares-fares.result.1 (omega arith) m c.pens_of-pens.ensures.first
        c.pens_of-pens.ensures.second
        (subst (λ v. (i : ℕ) → i < 4 → get_or c.fares-fares.result.1 i 0 ≡ fare c.args.weights.now.scale v
        c.pens_of-pens.result.first c.pens_of-pens.result.second (4 * 1 + i)) same c.fares-fares.ensures.high)
        (c.half-high.ensures s m)

    both : (p s : ℕ) → p < 2 → s < 4
        → IsBest (weight c.args.weights.now.scale c.args.symbol) c.args.pin c.args.behind.now p s
        (number_of (c.numbers.result + 256 * c.numbers-2.result) p s)
        × (cost_at (c.cleared.result ∷ c.cleared-2.result ∷ []) p s
        ≡ through (weight c.args.weights.now.scale c.args.symbol) c.args.behind.now s
        (number_of (c.numbers.result + 256 * c.numbers-2.result) p s))
    both zero s f m =
        step_is c.args.weights.now.scale c.args.symbol c.args.pin c.args.behind.now 0 s _ _
        (get_or c.joined-with_none.result s 0) _ _ few own c.requires.bounded c.requires.multiples f m (low s m)
        (high s m) (c.joined-with_none.ensures s m
        ∙ ap₂ (λ x y. min (get_or c.half-low.result s 0 + x) (get_or c.half-high.result s 0 + y))
        c.pens_of-pens.ensures.near c.pens_of-pens.ensures.far)
        ((mark_is c.numbers.result c.numbers-2.result c.numbers.ensures.small c.numbers-2.ensures.small s m).0
        ∙ c.numbers.ensures.numbers s m) (c.cleared.ensures s m)
    both (suc zero) s f m =
        step_is c.args.weights.now.scale c.args.symbol c.args.pin c.args.behind.now 1 s _ _
        (get_or c.joined-with_one.result s 0) _ _ few own c.requires.bounded c.requires.multiples f m (low s m)
        (high s m) (c.joined-with_one.ensures s m
        ∙ ap₂ (λ x y. min (get_or c.half-low.result s 0 + x) (get_or c.half-high.result s 0 + y))
        c.pens_of-pens.ensures.far c.pens_of-pens.ensures.near)
        ((mark_is c.numbers.result c.numbers-2.result c.numbers.ensures.small c.numbers-2.ensures.small s m).1
        ∙ c.numbers-2.ensures.numbers s m) (c.cleared-2.ensures s m)
    both (suc (suc p)) s f m = absurd (omega arith)
