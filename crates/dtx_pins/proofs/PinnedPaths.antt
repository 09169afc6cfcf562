-- Least paths under pins and their costs, one more symbol in front (Bellman).
use Rattle.std.proofs.Common.{◌≡◌, ℕ, suc, ℤ, ◌+◌, ◌/◌, ◌%◌, ◌<◌, ◌≤◌, ◌⊎◌, inl, inr, List, [], ◌∷◌, length, drop, ap}
use Rattle.std.proofs.Common.{◌∙◌, arith}
use Rattle.std.proofs.lemmas.Bool.{cases_lt}
use Rattle.dtx_soft.specs.Paths.{IsPath, cost, next_state, squared, symbol_at}
use Rattle.dtx_soft.specs.Least.{AreInOrder}
use Rattle.dtx_soft.proofs.LeastPathLemmas.{next_small}
use Rattle.dtx_soft.proofs.MovedLemmas.{cost-cons, nothing_costs}
use Rattle.dtx_pins.specs.Pins.{AgreesFrom, pair_of, pin_at}
use Rattle.dtx_pins.specs.Steps.{IsBest, cost_at, level_by, square_of, through, told_number}
use Rattle.dtx_pins.specs.Walks.{AreLeastCosts, IsLeastCost}

-- the least path that agrees, from a former Z2 and a state; of several, the first in order
pub record IsLeastFrom (scale : ℕ) (pins : List ℕ) (symbols : List ℤ) (former state : ℕ)
    (levels : List ℕ) : Type 0 where
  pub long : length levels ≡ length symbols
  pub path : IsPath state levels
  pub agrees : AgreesFrom former pins levels
  pub least : (others : List ℕ) → length others ≡ length symbols → IsPath state others → AgreesFrom former pins others
      → cost scale symbols levels ≤ cost scale symbols others
  pub first : (others : List ℕ) → length others ≡ length symbols → IsPath state others → AgreesFrom former pins others
      → cost scale symbols others ≡ cost scale symbols levels → AreInOrder levels others

-- what level z comes to
abbrev pub onto : ℕ → ℤ → List (List ℕ) → ℕ → ℕ → ℕ
onto scale v behind state z = squared v (symbol_at scale z) + cost_at behind (z / 4) (next_state state z)

-- of all levels that may follow a state and tell the pin's pair, the first one that comes to the least
pub record IsBestLevel (scale pin : ℕ) (v : ℤ) (behind : List (List ℕ)) (former state z : ℕ) : Type 0 where
  pub small : z < 8
  pub begins : z % 2 ≡ state / 2
  pub told : pin < 4 → pair_of former z ≡ pin
  pub least : (y : ℕ) → y < 8 → y % 2 ≡ state / 2 → (pin < 4 → pair_of former y ≡ pin)
      → onto scale v behind state z ≤ onto scale v behind state y
  pub first : (y : ℕ) → y < 8 → y % 2 ≡ state / 2 → (pin < 4 → pair_of former y ≡ pin)
      → onto scale v behind state y ≡ onto scale v behind state z → z ≤ y

pub onto_through : (scale : ℕ) (v : ℤ) (behind : List (List ℕ)) (state k : ℕ) → state < 4 → k < 4
    → onto scale v behind state (level_by state k) ≡ through (square_of scale v) behind state k
onto_through scale v behind state k l m = grind arith

pair_number : (pin former state k : ℕ) → pin < 4 → former < 2 → state < 4 → k < 4 → k ≡ told_number pin former
    → pair_of former (level_by state k) ≡ pin
pair_number pin former state k a b c d e = omega arith

number_pair : (pin former y : ℕ) → pin < 4 → former < 2 → y < 8 → pair_of former y ≡ pin
    → y / 2 ≡ told_number pin former
number_pair pin former y a b c e = omega arith

pub best_level : (scale pin : ℕ) (v : ℤ) (behind : List (List ℕ)) (former state k : ℕ) → former < 2 → state < 4
    → IsBest (square_of scale v) pin behind former state k
    → IsBestLevel scale pin v behind former state (level_by state k)
best_level scale pin v behind former state k f l b = record {
  small = (let m = b.small in omega arith);
  begins = omega arith;
  told = λ p. pair_number pin former state k p f l b.small (b.told p);
  least = λ y m e t. (let a = b.least (y / 2) (omega arith) (λ p. number_pair pin former y p f m (t p)) in
      omega (arith, own, other y m e, a));
  first = λ y m e t same. (let a = b.first (y / 2) (omega arith) (λ p. number_pair pin former y p f m (t p))
      (omega (arith, own, other y m e, same)) in omega (arith, a, e));
}
  where
    own : onto scale v behind state (level_by state k) ≡ through (square_of scale v) behind state k
    own = onto_through scale v behind state k l b.small

    other : (y : ℕ) → y < 8 → y % 2 ≡ state / 2
        → onto scale v behind state y ≡ through (square_of scale v) behind state (y / 2)
    other y m e = grind (arith, onto_through)

-- a path costs no less than its first level comes to
onto_below : (scale : ℕ) (v : ℤ) (pins : List ℕ) (symbols : List ℤ) (behind : List (List ℕ)) (state z : ℕ)
    (levels : List ℕ) → AreLeastCosts scale pins symbols behind → state < 4 → z < 8
    → length levels ≡ length symbols → IsPath (next_state state z) levels → AgreesFrom (z / 4) pins levels
    → onto scale v behind state z ≤ cost scale (v ∷ symbols) (z ∷ levels)
onto_below scale v pins symbols behind state z levels p l m n path told = grind (arith, next_small, cost-cons)

-- and it costs as much where it is a least one from there
pub least_is : (scale : ℕ) (pins : List ℕ) (symbols : List ℤ) (former state least : ℕ) (levels : List ℕ)
    → IsLeastCost scale pins symbols former state least → IsLeastFrom scale pins symbols former state levels
    → cost scale symbols levels ≡ least
least_is scale pins symbols former state least levels p h = grind arith

pub one_more : (scale : ℕ) (v : ℤ) (pins : List ℕ) (symbols : List ℤ) (behind : List (List ℕ))
    (former state z : ℕ) (levels : List ℕ) → AreLeastCosts scale (drop 1 pins) symbols behind → state < 4
    → IsBestLevel scale (pin_at pins 0) v behind former state z
    → IsLeastFrom scale (drop 1 pins) symbols (z / 4) (next_state state z) levels
    → IsLeastFrom scale pins (v ∷ symbols) former state (z ∷ levels)
one_more scale v pins symbols behind former state z levels p l h q = record {
  long = ap suc q.long;
  path = (h.small, h.begins, q.path);
  agrees = (h.told, q.agrees);
  least = least_of;
  first = first_of;
}
  where
    value : cost scale (v ∷ symbols) (z ∷ levels) ≡ onto scale v behind state z
    value = cost-cons scale v symbols z levels ∙ ap (λ x. squared v (symbol_at scale z) + x)
        (least_is scale (drop 1 pins) symbols (z / 4) (next_state state z) (cost_at behind (z / 4) (next_state state z))
        levels (p (z / 4) (next_state state z) (let m = h.small in omega arith) (next_small state z l)) q)

    least_of : (others : List ℕ) → length others ≡ suc (length symbols) → IsPath state others
        → AgreesFrom former pins others → cost scale (v ∷ symbols) (z ∷ levels) ≤ cost scale (v ∷ symbols) others
    least_of [] e path told = absurd (omega arith)
    least_of (y ∷ ys) e path told =
        let a = onto_below scale v (drop 1 pins) symbols behind state y ys p l path.0 (omega arith) path.2 told.1 in
        let b = h.least y path.0 path.1 told.0 in
        omega (arith, a, b, value)

    first_of : (others : List ℕ) → length others ≡ suc (length symbols) → IsPath state others
        → AgreesFrom former pins others → cost scale (v ∷ symbols) others ≡ cost scale (v ∷ symbols) (z ∷ levels)
        → AreInOrder (z ∷ levels) others
    first_of [] e path told t = absurd (omega arith)
    first_of (y ∷ ys) e path told t =
        let a = onto_below scale v (drop 1 pins) symbols behind state y ys p l path.0 (omega arith) path.2 told.1 in
        let b = h.least y path.0 path.1 told.0 in
        let c : onto scale v behind state y ≡ onto scale v behind state z = omega (arith, a, b, value, t) in
        go y ys (omega arith) path.2 told.1 t (by_order z y (h.first y path.0 path.1 told.0 c) (cases_lt z y))
      where
        by_order : (a b : ℕ) → a ≤ b → (a < b) ⊎ (b ≤ a) → (a < b) ⊎ (a ≡ b)
        by_order a b k (inl m) = inl m
        by_order a b k (inr m) = inr (omega arith)

        go : (y : ℕ) (ys : List ℕ) → length ys ≡ length symbols → IsPath (next_state state y) ys
            → AgreesFrom (y / 4) (drop 1 pins) ys
            → cost scale (v ∷ symbols) (y ∷ ys) ≡ cost scale (v ∷ symbols) (z ∷ levels) → (z < y) ⊎ (z ≡ y)
            → (z < y) ⊎ ((z ≡ y) × AreInOrder levels ys)
        go y ys n path told t (inl k) = inl k
        go y ys n path told t (inr k) = grind (arith, cost-cons)

pub cost_more : (scale : ℕ) (v : ℤ) (pins : List ℕ) (symbols : List ℤ) (behind : List (List ℕ)) (former state z : ℕ)
    → AreLeastCosts scale (drop 1 pins) symbols behind → state < 4
    → IsBestLevel scale (pin_at pins 0) v behind former state z
    → IsLeastCost scale pins (v ∷ symbols) former state (onto scale v behind state z)
cost_more scale v pins symbols behind former state z p l h = record {
  below = below_of;
  met = (
    z ∷ rest.met.0,
    ap suc rest.met.1,
    (h.small, h.begins, rest.met.2),
    (h.told, rest.met.3),
    cost-cons scale v symbols z rest.met.0 ∙ ap (λ x. squared v (symbol_at scale z) + x) rest.met.4,
  );
}
  where
    rest : IsLeastCost scale (drop 1 pins) symbols (z / 4) (next_state state z)
        (cost_at behind (z / 4) (next_state state z))
    rest = p (z / 4) (next_state state z) (let m = h.small in omega arith) (next_small state z l)

    below_of : (others : List ℕ) → length others ≡ suc (length symbols) → IsPath state others
        → AgreesFrom former pins others → onto scale v behind state z ≤ cost scale (v ∷ symbols) others
    below_of [] e path told = absurd (omega arith)
    below_of (y ∷ ys) e path told =
        let a = onto_below scale v (drop 1 pins) symbols behind state y ys p l path.0 (omega arith) path.2 told.1 in
        let b = h.least y path.0 path.1 told.0 in
        omega (arith, a, b)

-- no symbols
pub nothing_least : (scale : ℕ) (pins : List ℕ) (former state : ℕ) → IsLeastFrom scale pins [] former state []
nothing_least scale pins former state = grind (arith, nothing_costs)

pub nothing_cost : (scale : ℕ) (pins : List ℕ) (former state : ℕ) → IsLeastCost scale pins [] former state 0
nothing_cost scale pins former state = grind (arith, nothing_costs)
