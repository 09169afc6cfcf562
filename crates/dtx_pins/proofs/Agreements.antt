-- Paths that agree with pins, level by level.
use Rattle.std.proofs.Common.{◌≡◌, ℕ, zero, suc, ◌+◌, ◌-◌, ◌/◌, ◌%◌, ◌<◌, Bool, true, false, ◌||◌, nat_eq, nat_le, List}
use Rattle.std.proofs.Common.{[], ◌∷◌, length, drop, get_or, refl, ap, ◌∙◌, arith}
use Rattle.std.proofs.lemmas.Bool.{and_parts, and_from, cases_lt}
use Rattle.std.proofs.lemmas.Bool.Decides.{nat_tests}
use Rattle.dtx_lists.proofs.Range.{list_all-range_at, list_all-range_from}
use Rattle.dtx_pins.specs.Pins.{Agrees, AgreesFrom, TellsPair, agrees, pair_of, pin_at, tells_pair, x1_told, x2_told}

-- the Z2 before step t
abbrev former_at : ℕ → List ℕ → ℕ → ℕ
former_at former levels zero = former
former_at former levels (suc t) = get_or levels t 0 / 4

behind_first : (former z : ℕ) (levels : List ℕ) (t : ℕ)
    → former_at former (z ∷ levels) (suc t) ≡ former_at (z / 4) levels t
behind_first former z levels zero = refl
behind_first former z levels (suc t) = refl

dropped_pin : (pins : List ℕ) (t : ℕ) → pin_at (drop 1 pins) t ≡ pin_at pins (suc t)
dropped_pin [] t = refl
dropped_pin (pin ∷ pins) t = refl

agrees_at : (former : ℕ) (pins levels : List ℕ) → AgreesFrom former pins levels → (t : ℕ) → t < length levels
    → pin_at pins t < 4 → pair_of (former_at former levels t) (get_or levels t 0) ≡ pin_at pins t
agrees_at former pins [] h t l p = absurd (omega arith)
agrees_at former pins (z ∷ levels) h zero l p = h.0 p
agrees_at former pins (z ∷ levels) h (suc t) l p =
    ap (λ f. pair_of f (get_or levels t 0)) (behind_first former z levels t)
    ∙ agrees_at (z / 4) (drop 1 pins) levels h.1 t (omega arith) (omega (arith, dropped_pin pins t, p))
    ∙ dropped_pin pins t

agrees_by : (former : ℕ) (pins levels : List ℕ) → ((t : ℕ) → t < length levels → pin_at pins t < 4
    → pair_of (former_at former levels t) (get_or levels t 0) ≡ pin_at pins t) → AgreesFrom former pins levels
agrees_by former pins [] h = tt
agrees_by former pins (z ∷ levels) h = (
  h 0 (omega arith),
  agrees_by (z / 4) (drop 1 pins) levels (λ t l p. grind (arith, behind_first, dropped_pin)),
)

-- the level of the step before
level_before : (levels : List ℕ) (t : ℕ) → get_or levels (suc t - 1) 0 ≡ get_or levels t 0
level_before levels t = ap (λ k. get_or levels k 0) (omega arith)

-- with any former Z2 the levels agree with the pins, since of step 0 X2 isn't told
pub agrees_all : (former : ℕ) (pins levels : List ℕ) → AgreesFrom former pins levels → Agrees pins levels
unfolding x1_told x2_told
agrees_all former pins levels h t l p = record {
  x1 = x1;
  x2 = λ some. x2 t (agrees_at former pins levels h t l p) some;
}
  where
    x1 : get_or levels t 0 / 2 % 2 ≡ pin_at pins t % 2
    x1 = (let e = agrees_at former pins levels h t l p in omega (arith, e))

    x2 : (t : ℕ) → pair_of (former_at former levels t) (get_or levels t 0) ≡ pin_at pins t → 0 < t
        → (get_or levels t 0 / 4 + get_or levels (t - 1) 0 / 4) % 2 ≡ pin_at pins t / 2
    x2 zero e some = absurd (omega arith)
    x2 (suc t) e some = grind (arith, level_before)

-- and with one of both former Z2 they agree from there
pub agrees_with_one : (pins levels : List ℕ) → Agrees pins levels
    → (former : ℕ) × (former < 2) × AgreesFrom former pins levels
unfolding x1_told x2_told
agrees_with_one pins levels h = (former, omega arith, agrees_by former pins levels told)
  where
    former : ℕ
    former = (pin_at pins 0 / 2 + get_or levels 0 0 / 4) % 2

    told : (t : ℕ) → t < length levels → pin_at pins t < 4
        → pair_of (former_at former levels t) (get_or levels t 0) ≡ pin_at pins t
    told zero l p = (let a = (h 0 l p).x1 in omega (arith, a, p))
    told (suc t) l p = grind (arith, level_before)

-- ---- the test

or_from : (a b : Bool) → b ≡ true → (a || b) ≡ true
or_from true b h = refl
or_from false b h = h

or_first : (a b : Bool) → a ≡ true → (a || b) ≡ true
or_first true b h = refl
or_first false b h = absurd cc

second_of : (a b : Bool) → (a || b) ≡ true → a ≡ false → b ≡ true
second_of true b h e = absurd cc
second_of false b h e = h

same_by : (a b : ℕ) → nat_eq a b ≡ true → a ≡ b
same_by a b e = grind (arith, nat_tests)

same_so : (a b : ℕ) → a ≡ b → nat_eq a b ≡ true
same_so a b e = grind (arith, nat_tests)

pair_from : (pair : ℕ) (levels : List ℕ) (t : ℕ) → TellsPair pair levels t → tells_pair pair levels t ≡ true
unfolding tells_pair
pair_from pair levels t h = grind (arith, and_from, same_so, cases_lt, or_from, or_first)

pair_at : (pair : ℕ) (levels : List ℕ) (t : ℕ) → tells_pair pair levels t ≡ true → TellsPair pair levels t
unfolding tells_pair
pair_at pair levels t h = record {
  x1 = same_by (x1_told levels t) (pair % 2) parts.0;
  x2 = λ some. same_by (x2_told levels t) (pair / 2)
      (second_of (nat_eq t 0) (nat_eq (x2_told levels t) (pair / 2)) parts.1 (grind (arith, nat_tests)));
}
  where
    parts : (nat_eq (x1_told levels t) (pair % 2) ≡ true)
        × ((nat_eq t 0 || nat_eq (x2_told levels t) (pair / 2)) ≡ true)
    parts = and_parts (nat_eq (x1_told levels t) (pair % 2)) (nat_eq t 0 || nat_eq (x2_told levels t) (pair / 2)) h

pub agreement_tested : (pins levels : List ℕ) → Agrees pins levels → agrees pins levels ≡ true
unfolding agrees
agreement_tested pins levels h = grind (arith, list_all-range_from, cases_lt, or_from, pair_from, or_first, nat_tests)

pub agreement_told : (pins levels : List ℕ) → agrees pins levels ≡ true → Agrees pins levels
unfolding agrees
agreement_told pins levels h t l p = pair_at (pin_at pins t) levels t
    (second_of (nat_le 4 (pin_at pins t)) (tells_pair (pin_at pins t) levels t)
    (list_all-range_at (λ t. nat_le 4 (pin_at pins t) || tells_pair (pin_at pins t) levels t) 0 (length levels) h t
    (omega arith) (omega arith)) (grind (arith, nat_tests)))
