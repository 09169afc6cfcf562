-- One step of the search: the pens, and what the least of four sums tells.
use Rattle.std.proofs.Common.{◌≡◌, ◌≢◌, ℕ, ℤ, ◌+◌, ◌-◌, ◌*◌, ◌/◌, ◌%◌, ◌^◌, ◌<◌, ◌≤◌, ◌⊎◌, inl, inr, Bool, true, zero}
use Rattle.std.proofs.Common.{suc, false, nat_eq, nat_le, cond, min, List, [], get_or, refl, ap, ◌∙◌, arith}
use Rattle.std.proofs.lemmas.Bool.{cases_eq, cases_lt, cond-true, le-leb}
use Rattle.std.proofs.lemmas.Bool.Decides.{nat_tests}
use Rattle.dtx_lists.proofs.Below.{at_below, holds_below}
use Rattle.dtx_soft.specs.Paths.{next_state}
use Rattle.dtx_soft.proofs.LeastPathLemmas.{next_small}
use Rattle.dtx_soft.proofs.WritesLemmas.{four}
use Rattle.dtx_pins.specs.Steps.{AreAtMost, AreBounded, IsBest, level_by, number_of, pen_of, through, told_number}
use Rattle.dtx_pins.specs.Steps.{AreMultiples, fare, weight}
use Rattle.dtx_pins.proofs.FourNumbers.{IsFirstLeast, told_by_least}

-- ---- pens

-- what a pin adds to level number j behind a former Z2
abbrev pub pen_sum : ℕ → ℕ → ℕ → ℕ
pen_sum pin former j = pen_of pin (j % 2) + pen_of pin (2 + (j / 2 + former) % 2)

-- nothing to the level that gives the pair, and more than any path costs to the others
unfoldable is_penned : ℕ → Bool
is_penned n = cond (nat_eq (n % 4) (told_number (n / 8) (n / 4 % 2))) (nat_eq (pen_sum (n / 8) (n / 4 % 2) (n % 4)) 0)
    (nat_le 1400000000 (pen_sum (n / 8) (n / 4 % 2) (n % 4)))

all_penned : holds_below is_penned 32 ≡ true
unfolding is_penned pen_of
all_penned = refl

pen_tested : (pin former j : ℕ) → pin < 4 → former < 2 → j < 4
    → cond (nat_eq j (told_number pin former)) (nat_eq (pen_sum pin former j) 0)
    (nat_le 1400000000 (pen_sum pin former j)) ≡ true
unfolding is_penned
pen_tested pin former j l m n = grind (arith, at_below, all_penned)

pen_told : (pin former : ℕ) → pin < 4 → former < 2 → pen_sum pin former (told_number pin former) ≡ 0
pen_told pin former l m = by_test (nat_eq (told_number pin former) (told_number pin former)) (grind (arith, nat_tests))
    (pen_tested pin former (told_number pin former) l m (omega arith))
  where
    by_test : (t : Bool) → t ≡ true → cond t (nat_eq (pen_sum pin former (told_number pin former)) 0)
        (nat_le 1400000000 (pen_sum pin former (told_number pin former))) ≡ true
        → pen_sum pin former (told_number pin former) ≡ 0
    by_test true e h = grind (arith, nat_tests)
    by_test false e h = absurd cc

pen_other : (pin former j : ℕ) → pin < 4 → former < 2 → j < 4 → j ≢ told_number pin former
    → 1400000000 ≤ pen_sum pin former j
pen_other pin former j l m n d =
    by_test (nat_eq j (told_number pin former)) (grind (arith, nat_tests)) (pen_tested pin former j l m n)
  where
    by_test : (t : Bool) → t ≡ false
        → cond t (nat_eq (pen_sum pin former j) 0) (nat_le 1400000000 (pen_sum pin former j)) ≡ true
        → 1400000000 ≤ pen_sum pin former j
    by_test true e h = absurd cc
    by_test false e h = grind (arith, nat_tests)

pen_none : (pin i : ℕ) → 4 ≤ pin → pen_of pin i ≡ 0
unfolding pen_of
pen_none pin i l = cond-true (nat_le 4 pin) 0 _ (le-leb 4 pin l)

pub pen_small : (pin i : ℕ) → pen_of pin i ≤ 1400000000
unfolding pen_of
pen_small pin i = grind arith

pub pen_multiple : (pin i : ℕ) → pen_of pin i % 4 ≡ 0
unfolding pen_of
pen_multiple pin i = grind arith

-- the pens of Z1 and of Z2, where a bit of a pin is given
pens_by : (t : Bool) (bit all pen : ℕ) → bit < 2 → all ≡ cond t 0 1400000000 → pen ≡ cond (nat_eq bit 0) 0 all
    → (pen ≡ cond t 0 (cond (nat_eq bit 0) 0 1400000000)) × (all - pen ≡ cond t 0 (cond (nat_eq bit 1) 0 1400000000))
pens_by true zero all pen l e f = (omega (arith, e, f), omega (arith, e, f))
pens_by true (suc zero) all pen l e f = (omega (arith, e, f), omega (arith, e, f))
pens_by false zero all pen l e f = (omega (arith, e, f), omega (arith, e, f))
pens_by false (suc zero) all pen l e f = (omega (arith, e, f), omega (arith, e, f))
pens_by t (suc (suc bit)) all pen l e f = absurd (omega arith)

pub first_pens : (pin all pen : ℕ) → all ≡ cond (nat_le 4 pin) 0 1400000000 → pen ≡ cond (nat_eq (pin % 2) 0) 0 all
    → (pen ≡ pen_of pin 0) × (all - pen ≡ pen_of pin 1)
unfolding pen_of
first_pens pin all pen e f = pens_by (nat_le 4 pin) (pin % 2) all pen (omega arith) e f

pub second_pens : (pin all pen : ℕ) → all ≡ cond (nat_le 4 pin) 0 1400000000
    → pen ≡ cond (nat_eq (pin / 2 % 2) 0) 0 all → (pen ≡ pen_of pin 2) × (all - pen ≡ pen_of pin 3)
unfolding pen_of
second_pens pin all pen e f = pens_by (nat_le 4 pin) (pin / 2 % 2) all pen (omega arith) e f

-- ---- one step

-- no level weighs more than the greatest weight
abbrev pub AreSmall : (ℕ → ℕ) → Type 0
AreSmall level_cost = (z : ℕ) → z < 8 → level_cost z ≤ 7168

-- what level number j comes to with its pens
abbrev pub penned : (ℕ → ℕ) → List (List ℕ) → ℕ → ℕ → ℕ → ℕ → ℕ
penned level_cost old pin p s j = through level_cost old s j + pen_sum pin p j

through_small : (level_cost : ℕ → ℕ) (old : List (List ℕ)) (s j : ℕ) → AreSmall level_cost → AreBounded 154312704 old
    → s < 4 → j < 4 → through level_cost old s j < 1400000000
through_small level_cost old s j small bounded l m = grind (arith, next_small)

-- the first least with pens is the best level, and it has none
best_is : (level_cost : ℕ → ℕ) (pin : ℕ) (old : List (List ℕ)) (p s k : ℕ) → AreSmall level_cost
    → AreBounded 154312704 old → p < 2 → s < 4 → IsFirstLeast (penned level_cost old pin p s) k
    → IsBest level_cost pin old p s k × (penned level_cost old pin p s k ≡ through level_cost old s k)
best_is level_cost pin old p s k small bounded f l h = by_pin (cases_lt pin 4)
  where
    by_pin : (pin < 4) ⊎ (4 ≤ pin)
        → IsBest level_cost pin old p s k × (penned level_cost old pin p s k ≡ through level_cost old s k)
    by_pin (inl q) =
        let e = own (cases_eq k (told_number pin p)) in (
          record {
            small = h.small;
            told = λ q. e;
            least = λ j m t. (let g = ap (through level_cost old s) (t q) in let i = ap (through level_cost old s) e in
                omega (arith, g, i));
            first = λ j m t same. (let g = t q in omega (arith, g, e));
          },
          (let z = ap (pen_sum pin p) e ∙ pen_told pin p q f in omega (arith, z)),
        )
      where
        own : (k ≡ told_number pin p) ⊎ (k ≢ told_number pin p) → k ≡ told_number pin p
        own (inl e) = e
        own (inr d) =
            let a = h.least (told_number pin p) (omega arith) in
            let b = pen_told pin p q f in
            let c = pen_other pin p k q f h.small d in
            let g = through_small level_cost old s (told_number pin p) small bounded l (omega arith) in
            absurd (omega (arith, a, b, c, g))
    by_pin (inr q) = grind (arith, pen_none)

-- the state behind a level depends on its Z1 alone
next_alike : (s j k : ℕ) → s < 4 → j % 2 ≡ k % 2 → next_state s (level_by s j) ≡ next_state s (level_by s k)
unfolding next_state
next_alike s j k l e = grind arith

-- ---- the sums of a step

-- the fare of the level with number 2 * z2 + z1 that may follow a state
fare_is : (scale : ℕ) (symbol : ℤ) (first second z2 z1 s : ℕ) → z2 < 2 → z1 < 2 → s < 4
    → fare scale symbol first second (4 * z2 + (2 * z1 + s / 2))
    ≡ weight scale symbol (level_by s (2 * z2 + z1)) + (2 * z2 + z1) + cond (nat_eq z1 0) first second
fare_is scale symbol first second z2 z1 s f g l = grind arith

-- what a level comes to with its number and the pen of its Z1
way_is : (scale : ℕ) (symbol : ℤ) (old : List (List ℕ)) (first second z2 z1 s other : ℕ) → z2 < 2 → z1 < 2 → s < 4
    → other ≡ fare scale symbol first second (4 * z2 + (2 * z1 + s / 2))
    → get_or (get_or old z2 []) (next_state s (level_by s z1)) 0 + other
    ≡ through (weight scale symbol) old s (2 * z2 + z1) + (2 * z2 + z1) + cond (nat_eq z1 0) first second
way_is scale symbol old first second z2 z1 s other f g l e = grind (arith, next_alike, fare_is)

-- what is told of the half of a step with one Z2, at one state
abbrev pub IsHalf : ℕ → ℤ → List (List ℕ) → ℕ → ℕ → ℕ → ℕ → Type 0
IsHalf scale symbol old pin s z2 sum = sum ≡ min (through (weight scale symbol) old s (2 * z2) + 2 * z2 + pen_of pin 0)
    (through (weight scale symbol) old s (2 * z2 + 1) + (2 * z2 + 1) + pen_of pin 1)

pub half_is : (scale : ℕ) (symbol : ℤ) (old : List (List ℕ)) (pin first second z2 s sum : ℕ) (fares : List ℕ) → z2 < 2
    → s < 4 → first ≡ pen_of pin 0 → second ≡ pen_of pin 1
    → ((i : ℕ) → i < 4 → get_or fares i 0 ≡ fare scale symbol first second (4 * z2 + i))
    → sum ≡ min (get_or (get_or old z2 []) (next_state s (level_by s 0)) 0 + get_or fares (s / 2) 0)
    (get_or (get_or old z2 []) (next_state s (level_by s 1)) 0 + get_or fares (2 + s / 2) 0)
    → IsHalf scale symbol old pin s z2 sum
half_is scale symbol old pin first second z2 s sum fares f l a b each e = omega (arith, e, with_none, with_one, a, b)
  where
    with_none : get_or (get_or old z2 []) (next_state s (level_by s 0)) 0 + get_or fares (s / 2) 0
        ≡ through (weight scale symbol) old s (2 * z2) + 2 * z2 + first
    with_none = way_is scale symbol old first second z2 0 s (get_or fares (s / 2) 0) f (omega arith) l
        (each (s / 2) (omega arith) ∙ ap (fare scale symbol first second) (omega arith))
        ∙ ap (λ k. through (weight scale symbol) old s k + k + first) (omega arith)

    with_one : get_or (get_or old z2 []) (next_state s (level_by s 1)) 0 + get_or fares (2 + s / 2) 0
        ≡ through (weight scale symbol) old s (2 * z2 + 1) + (2 * z2 + 1) + second
    with_one = grind (arith, way_is)

-- the sums of a step are multiples of four but for the number
pub penned_multiple : (level_cost : ℕ → ℕ) (old : List (List ℕ)) (pin p s j : ℕ)
    → ((z : ℕ) → z < 8 → level_cost z % 4 ≡ 0) → AreMultiples old → s < 4 → j < 4
    → penned level_cost old pin p s j % 4 ≡ 0
penned_multiple level_cost old pin p s j own behind l m =
    let a = own (level_by s j) (omega arith) in
    let b = behind (j / 2) (next_state s (level_by s j)) (omega arith) (next_small s (level_by s j) l) in
    let d = pen_multiple pin (j % 2) in
    let e = pen_multiple pin (2 + (j / 2 + p) % 2) in
    omega (arith, a, b, d, e)

-- bounds of fares and of the sums of a half
pub fare_small : (scale : ℕ) (symbol : ℤ) (first second z : ℕ) → AreSmall (weight scale symbol) → first ≤ 1400000000
    → second ≤ 1400000000 → z < 8 → fare scale symbol first second z ≤ 1400007171
fare_small scale symbol first second z small l m o = grind arith

pub half_small : (sums fares : List ℕ) (s x : ℕ) → s < 4 → AreAtMost 154312704 sums → AreAtMost 1400007171 fares
    → x ≡ min (get_or sums (next_state s (level_by s 0)) 0 + get_or fares (s / 2) 0)
    (get_or sums (next_state s (level_by s 1)) 0 + get_or fares (2 + s / 2) 0) → x ≤ 2000000000
half_small sums fares s x l few small e = grind (arith, next_small)

-- the numbers that a mark gives
pub mark_is : (x y : ℕ) → x < 256 → y < 256 → (s : ℕ) → s < 4
    → (number_of (x + 256 * y) 0 s ≡ x / 2 ^ (2 * s) % 4) × (number_of (x + 256 * y) 1 s ≡ y / 2 ^ (2 * s) % 4)
mark_is x y l m =
    four (λ s. (number_of (x + 256 * y) 0 s ≡ x / 2 ^ (2 * s) % 4) × (number_of (x + 256 * y) 1 s ≡ y / 2 ^ (2 * s)
    % 4)) (omega arith, omega arith) (omega arith, omega arith) (omega arith, omega arith) (omega arith, omega arith)

-- the least of the sums tells the best level and what it comes to
joined_best : (scale : ℕ) (symbol : ℤ) (pin : ℕ) (old : List (List ℕ)) (p s low high sum : ℕ)
    → AreSmall (weight scale symbol) → ((z : ℕ) → z < 8 → weight scale symbol z % 4 ≡ 0) → AreBounded 154312704 old
    → AreMultiples old → p < 2 → s < 4 → IsHalf scale symbol old pin s 0 low → IsHalf scale symbol old pin s 1 high
    → sum ≡ min (low + pen_of pin (2 + p)) (high + pen_of pin (2 + (1 + p) % 2))
    → IsBest (weight scale symbol) pin old p s (sum % 4)
    × (sum - sum % 4 ≡ through (weight scale symbol) old s (sum % 4))
joined_best scale symbol pin old p s low high sum small own bounded behind f l first second e =
    let near : pen_of pin (2 + (0 + p) % 2) ≡ pen_of pin (2 + p) = ap (λ n. pen_of pin (2 + n)) (omega arith) in
    let told : IsFirstLeast (penned (weight scale symbol) old pin p s) (sum % 4) ×
    (sum - sum % 4 ≡ penned (weight scale symbol) old pin p s (sum % 4)) =
    told_by_least (penned (weight scale symbol) old pin p s) sum
    (λ j m. penned_multiple (weight scale symbol) old pin p s j own behind l m)
    (omega (arith, near, first, second, e)) in
    let best : IsBest (weight scale symbol) pin old p s (sum % 4) ×
    (penned (weight scale symbol) old pin p s (sum % 4) ≡ through (weight scale symbol) old s (sum % 4)) =
    best_is (weight scale symbol) pin old p s (sum % 4) small bounded f l told.0 in
    (best.0, told.1 ∙ best.1)

-- the same, where a mark tells the number, and a sum is what is left
pub step_is : (scale : ℕ) (symbol : ℤ) (pin : ℕ) (old : List (List ℕ)) (p s low high sum number new : ℕ)
    → AreSmall (weight scale symbol) → ((z : ℕ) → z < 8 → weight scale symbol z % 4 ≡ 0) → AreBounded 154312704 old
    → AreMultiples old → p < 2 → s < 4 → IsHalf scale symbol old pin s 0 low → IsHalf scale symbol old pin s 1 high
    → sum ≡ min (low + pen_of pin (2 + p)) (high + pen_of pin (2 + (1 + p) % 2)) → number ≡ sum % 4
    → new ≡ sum - sum % 4
    → IsBest (weight scale symbol) pin old p s number × (new ≡ through (weight scale symbol) old s number)
step_is scale symbol pin old p s low high sum number new small own bounded behind f l first second e n k =
    let h = joined_best scale symbol pin old p s low high sum small own bounded behind f l first second e in
    (grind arith)
