-- Where a least path under pins begins.
use Rattle.std.proofs.Common.{◌≡◌, ◌≢◌, ℕ, zero, suc, ℤ, ◌-◌, ◌/◌, ◌%◌, ◌<◌, ◌≤◌, ◌⊎◌, inl, inr, nat_lt, cond, min}
use Rattle.std.proofs.Common.{List, [], ◌∷◌, length, get_or, refl, sym, subst, arith}
use Rattle.std.proofs.lemmas.Bool.{cases_eq, cases_lt, cond-false, cond-true, le-ltb, lt-ltb}
use Rattle.std.proofs.lemmas.Bool.Decides.{nat_tests}
use Rattle.dtx_soft.specs.Least.{AreInOrder}
use Rattle.dtx_soft.specs.Paths.{IsPath, cost}
use Rattle.dtx_pins.specs.declared.start.Stand.{Stand}
use Rattle.dtx_pins.specs.LeastPinned.{IsLeastPinned}
use Rattle.dtx_pins.specs.Pins.{AgreesFrom, pair_of, pin_at}
use Rattle.dtx_pins.specs.Steps.{cost_at}
use Rattle.dtx_pins.specs.Trace.{IsStart, state_of, x2_of}
use Rattle.dtx_pins.specs.Walks.{AreLeastCosts}
use Rattle.dtx_pins.proofs.Agreements.{agrees_all, agrees_with_one}
use Rattle.dtx_pins.proofs.PinnedPaths.{IsLeastFrom, least_is}

-- ---- the state and the former Z2 of least cost

min_of_pair : (f : ℕ → ℕ) (x : ℕ) → x < 2 → min (f 0) (f 1) ≡ min (f x) (f (1 - x))
min_of_pair f zero l = refl
min_of_pair f (suc zero) l = omega arith
min_of_pair f (suc (suc x)) l = absurd (omega arith)

min_below : (f : ℕ → ℕ) (p : ℕ) → p < 2 → min (f 0) (f 1) ≤ f p
min_below f zero l = omega arith
min_below f (suc zero) l = omega arith
min_below f (suc (suc p)) l = absurd (omega arith)

-- the better of two, of which the first is taken where both are equal
record IsBetter (f : ℕ → ℕ) (x former : ℕ) : Type 0 where
  small : former < 2
  least : f former ≡ min (f 0) (f 1)
  first : (p : ℕ) → p < 2 → f p ≡ f former → (former ≡ p) ⊎ (former ≡ x)

better_is : (f : ℕ → ℕ) (x former : ℕ) → x < 2 → former ≡ cond (nat_lt (f (1 - x)) (f x)) (1 - x) x
    → IsBetter f x former
better_is f x former l e = grind (arith, cases_lt, cond-true, lt-ltb, min_of_pair, cases_eq, cond-false, le-ltb)

pub start_is : (pin x2 : ℕ) (behind : List (List ℕ)) (costs : List ℕ) (state : ℕ) (stand : Stand) → x2_of pin ≡ x2
    → x2 < 2 → state < 4 → ((s : ℕ) → s < 4 → get_or costs s 0 ≡ min (cost_at behind 0 s) (cost_at behind 1 s))
    → ((s : ℕ) → s < 4 → get_or costs state 0 ≤ get_or costs s 0)
    → ((s : ℕ) → s < 4 → get_or costs s 0 ≡ get_or costs state 0 → state ≤ s)
    → stand.former ≡ cond (nat_lt (cost_at behind (1 - x2) state) (cost_at behind x2 state)) (1 - x2) x2
    → stand.q1 ≡ state / 2 → stand.q0 ≡ state % 2 → stand.cost ≡ 0 → IsStart pin behind stand
start_is pin x2 behind costs state stand named l low each least first former q1 q0 none =
    grind (arith, min_below, cases_lt, better_is)

-- ---- the paths from there

pub x2_is : (pin : ℕ) → pin < 4 → x2_of pin ≡ pin / 2
x2_is pin l = grind (arith, nat_tests)

-- a level that gives a pair from the former Z2 that is its X2 comes before one from the other
before_other : (pin former other z y : ℕ) → pin < 4 → former ≡ pin / 2 → other < 2 → former ≢ other → z < 8 → y < 8
    → pair_of former z ≡ pin → pair_of other y ≡ pin → z < y
before_other pin former other z y a b c d e f g h = grind (arith, cases_lt)

-- where the first pin says nothing, the former Z2 doesn't matter
any_former : (former other : ℕ) (pins levels : List ℕ) → 4 ≤ pin_at pins 0 → AgreesFrom other pins levels
    → AgreesFrom former pins levels
any_former former other pins [] l h = tt
any_former former other pins (z ∷ levels) l h = ((λ p. absurd (omega arith)), h.1)

pub from_start : (scale : ℕ) (pins : List ℕ) (symbols : List ℤ) (costs : List (List ℕ)) (stand : Stand)
    (levels : List ℕ) → IsStart (pin_at pins 0) costs stand → AreLeastCosts scale pins symbols costs
    → IsLeastFrom scale pins symbols stand.former (state_of stand) levels
    → IsLeastPinned scale pins symbols (state_of stand) levels
from_start scale pins symbols costs stand levels s p h = record {
  begins = (let l = s.q1 in let m = s.q0 in omega arith);
  long = h.long;
  path = h.path;
  agrees = agrees_all stand.former pins levels h.agrees;
  least = λ state others l n path told.
      let w = agrees_with_one pins others told in
      let a = s.least w.0 state w.1 l in
      let b = (p w.0 state w.1 l).below others n path w.2 in
      omega (arith, value, a, b);
  first = λ state others l n path told e.
      let w = agrees_with_one pins others told in
      let a = s.least w.0 state w.1 l in
      let b = (p w.0 state w.1 l).below others n path w.2 in
      in_order state others w.0 n path w.1 w.2 e (s.first w.0 state w.1 l (omega (arith, value, a, b, e)));
}
  where
    value : cost scale symbols levels ≡ cost_at costs stand.former (state_of stand)
    value = least_is scale pins symbols stand.former (state_of stand) (cost_at costs stand.former
        (state_of stand)) levels
        (p stand.former (state_of stand) s.former (let l = s.q1 in let m = s.q0 in omega arith)) h

    with_own : (others : List ℕ) → length others ≡ length symbols → IsPath (state_of stand) others
        → AgreesFrom stand.former pins others → cost scale symbols others ≡ cost scale symbols levels
        → AreInOrder levels others
    with_own others n path told e = h.first others n path told e

    by_levels : (levels others : List ℕ) (state other : ℕ) → IsPath (state_of stand) levels → IsPath state others
        → length others ≡ length levels → pin_at pins 0 < 4 → stand.former ≡ x2_of (pin_at pins 0) → other < 2
        → stand.former ≢ other → AgreesFrom stand.former pins levels → AgreesFrom other pins others
        → AreInOrder levels others
    by_levels [] others state other a b n q x l d f g = tt
    by_levels (z ∷ levels) [] state other a b n q x l d f g = absurd (omega arith)
    by_levels (z ∷ levels) (y ∷ others) state other a b n q x l d f g = grind (arith, before_other, x2_is)

    by_former : (state : ℕ) (others : List ℕ) (other : ℕ) → length others ≡ length symbols → IsPath state others
        → state_of stand ≡ state → other < 2 → AgreesFrom other pins others
        → cost scale symbols others ≡ cost scale symbols levels
        → (stand.former ≡ other) ⊎ (stand.former ≡ x2_of (pin_at pins 0))
        → (stand.former ≡ other) ⊎ (stand.former ≢ other) → (pin_at pins 0 < 4) ⊎ (4 ≤ pin_at pins 0)
        → AreInOrder levels others
    by_former state others other n path same l told e (inl f) q r =
        with_own others n (subst (λ s. IsPath s others) (sym same) path)
        (subst (λ f. AgreesFrom f pins others) (sym f) told) e
    by_former state others other n path same l told e (inr f) (inl q) r =
        with_own others n (subst (λ s. IsPath s others) (sym same) path)
        (subst (λ f. AgreesFrom f pins others) (sym q) told) e
    by_former state others other n path same l told e (inr f) (inr q) (inl r) =
        let long = h.long in
        by_levels levels others state other h.path path (omega (arith, n, long)) r f l q h.agrees told
    by_former state others other n path same l told e (inr f) (inr q) (inr r) =
        with_own others n (subst (λ s. IsPath s others) (sym same) path)
        (any_former stand.former other pins others r told) e

    in_order : (state : ℕ) (others : List ℕ) (other : ℕ) → length others ≡ length symbols → IsPath state others
        → other < 2 → AgreesFrom other pins others → cost scale symbols others ≡ cost scale symbols levels
        → (state_of stand < state) ⊎ ((state_of stand ≡ state)
        × ((stand.former ≡ other) ⊎ (stand.former ≡ x2_of (pin_at pins 0))))
        → (state_of stand < state) ⊎ ((state_of stand ≡ state) × AreInOrder levels others)
    in_order state others other n path l told e (inl o) = inl o
    in_order state others other n path l told e (inr o) = inr (
      o.0,
      by_former state others other n path o.0 l told e o.1 (cases_eq stand.former other) (cases_lt (pin_at pins 0) 4),
    )
