-- The one path from each beginning where all pairs are known.
use Rattle.std.proofs.Common.{◌≡◌, ℕ, zero, suc, ℤ, ◌+◌, ◌/◌, ◌<◌, List, [], ◌∷◌, length, drop, refl, sym, ap, subst}
use Rattle.std.proofs.Common.{length-drop, arith}
use Rattle.std.proofs.lemmas.List.{get_or-drop}
use Rattle.dtx_soft.specs.Paths.{next_state, squared, symbol_at}
use Rattle.dtx_soft.proofs.LeastPathLemmas.{next_small}
use Rattle.dtx_soft.proofs.WritesLemmas.{four}
use Rattle.dtx_pins.specs.Pins.{pin_at}
use Rattle.dtx_pins.specs.Steps.{IsBest, level_by, number_of, square_of, told_number}
use Rattle.dtx_pins.specs.Told.{told_mark}
use Rattle.dtx_pins.specs.Walks.{AreLeastCosts, IsLeastCost, IsMark}
use Rattle.dtx_pins.proofs.PinnedPaths.{best_level, cost_more, nothing_cost}
use Rattle.dtx_pins.proofs.PinnedUnits.{listed, listed_at}

-- the level behind a former Z2 and a state that gives a pin's pair
abbrev pub told_level : ℕ → ℕ → ℕ → ℕ
told_level pin former state = level_by state (told_number pin former)

-- what the path from a former Z2 and a state costs
abbrev pub told_cost : ℕ → List ℕ → List ℤ → ℕ → ℕ → ℕ
told_cost scale pins [] former state = 0
told_cost scale pins (v ∷ symbols) former state = squared v (symbol_at scale (told_level (pin_at pins 0) former state))
    + told_cost scale (drop 1 pins) symbols (told_level (pin_at pins 0) former state / 4)
    (next_state state (told_level (pin_at pins 0) former state))

-- all pins of the symbols tell a pair
abbrev pub AreTold : List ℕ → ℕ → Type 0
AreTold pins n = (t : ℕ) → t < n → pin_at pins t < 4

pub told_behind : (pins : List ℕ) (t n : ℕ) → AreTold pins (t + n) → AreTold (drop t pins) n
told_behind pins t n told k l = subst (λ pin. pin < 4) (sym (get_or-drop t pins k 4)) (told (t + k) (omega arith))

-- no other level gives the pair
pub only_level : (level_cost : ℕ → ℕ) (pin : ℕ) (behind : List (List ℕ)) (former state : ℕ) → pin < 4
    → IsBest level_cost pin behind former state (told_number pin former)
only_level level_cost pin behind former state l = grind arith

pub told_least : (scale : ℕ) (pins : List ℕ) (symbols : List ℤ) (former state : ℕ) → AreTold pins (length symbols)
    → former < 2 → state < 4 → IsLeastCost scale pins symbols former state (told_cost scale pins symbols former state)
told_least scale pins [] former state told f m = nothing_cost scale pins former state
told_least scale pins (v ∷ symbols) former state told f m =
    let behind = listed (told_cost scale (drop 1 pins) symbols) in
    let z = told_level (pin_at pins 0) former state in
    subst (IsLeastCost scale pins (v ∷ symbols) former state) (ap (λ x. squared v (symbol_at scale z) + x)
    (listed_at (told_cost scale (drop 1 pins) symbols) (z / 4) (next_state state z) (omega arith)
    (next_small state z m))) (cost_more scale v pins symbols behind former state z
    (λ p s l k. subst (IsLeastCost scale (drop 1 pins) symbols p s)
    (sym (listed_at (told_cost scale (drop 1 pins) symbols) p s l k)) (told_least scale (drop 1 pins) symbols p s
    (told_behind pins 1 (length symbols) (λ t n. told t (omega arith))) l k)) m
    (best_level scale (pin_at pins 0) v behind former state (told_number (pin_at pins 0) former) f m
    (only_level (square_of scale v) (pin_at pins 0) behind former state (told 0 (omega arith)))))

pub told_costs : (scale : ℕ) (pins : List ℕ) (symbols : List ℤ) → AreTold pins (length symbols)
    → AreLeastCosts scale pins symbols (listed (told_cost scale pins symbols))
told_costs scale pins symbols told p s l m = subst (IsLeastCost scale pins symbols p s) (sym (grind (arith, listed_at)))
    (told_least scale pins symbols p s told l m)

-- ---- marks

mark_number : (pin p s : ℕ) → pin < 4 → p < 2 → s < 4 → number_of (told_mark pin) p s ≡ told_number pin p
mark_number pin p s l m n = four (λ pin. (p s : ℕ) → p < 2 → s < 4 → number_of (told_mark pin) p s ≡ told_number pin p)
    (by_former 0 (four _ refl refl refl refl) (four _ refl refl refl refl))
    (by_former 1 (four _ refl refl refl refl) (four _ refl refl refl refl))
    (by_former 2 (four _ refl refl refl refl) (four _ refl refl refl refl))
    (by_former 3 (four _ refl refl refl refl) (four _ refl refl refl refl)) pin l p s m n
  where
    by_former : (pin : ℕ) → ((s : ℕ) → s < 4 → number_of (told_mark pin) 0 s ≡ told_number pin 0)
        → ((s : ℕ) → s < 4 → number_of (told_mark pin) 1 s ≡ told_number pin 1) → (p s : ℕ) → p < 2 → s < 4
        → number_of (told_mark pin) p s ≡ told_number pin p
    by_former pin a b zero s l m = a s m
    by_former pin a b (suc zero) s l m = b s m
    by_former pin a b (suc (suc p)) s l m = absurd (omega arith)

pub told_mark_is : (scale : ℕ) (pins : List ℕ) (symbols : List ℤ) (t mark : ℕ) → t < length symbols
    → AreTold pins (length symbols) → mark ≡ told_mark (pin_at pins t) → IsMark scale pins symbols t mark
told_mark_is scale pins symbols t mark l told e = record {
  behind = listed (told_cost scale (drop (t + 1) pins) (drop (t + 1) symbols));
  least = told_costs scale (drop (t + 1) pins) (drop (t + 1) symbols)
      (told_behind pins (t + 1) (length (drop (t + 1) symbols)) (λ k m. told k (let n = length-drop (t + 1) symbols in
      omega (arith, n))));
  best = λ p s f m. grind (arith, listed, mark_number, only_level);
}
