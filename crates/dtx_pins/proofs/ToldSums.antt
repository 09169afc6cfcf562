-- What paths from other beginnings weigh, where all pairs are known.
use Rattle.std.proofs.Common.{◌≡◌, ℕ, suc, ℤ, pos, ◌+◌, ◌*◌, ◌/◌, ◌%◌, ◌<◌, ◌≤◌, ◌-◌, ◌+ℤ◌, ◌-ℤ◌, ◌*ℤ◌, Bool, true}
use Rattle.std.proofs.Common.{false, cond, nat_eq, List, [], ◌∷◌, length, drop, refl, sym, ap, ap₂, ◌∙◌, subst, get_or}
use Rattle.std.proofs.Common.{w8, arith}
use mir.Val.{SFits}
use Rattle.std.proofs.lemmas.Bool.Decides.{nat_tests}
use Rattle.std.proofs.lemmas.Int.{ints}
use Rattle.std.proofs.Math.Nat.{mul-add}
use Rattle.dtx_soft.specs.Gaps.{unit}
use Rattle.dtx_soft.specs.Paths.{next_state}
use Rattle.dtx_soft.proofs.LeastPathLemmas.{next_small}
use Rattle.dtx_pins.specs.declared.told.Excess.{Excess}
use Rattle.dtx_pins.specs.declared.told.Lane.{Lane}
use Rattle.dtx_pins.specs.Pins.{pin_at}
use Rattle.dtx_pins.specs.Steps.{cost_at, square_of, depth, ground, weight}
use Rattle.dtx_pins.specs.Told.{beginning, both_by, far_by, from_beginning, if_bit, lane_after, less_by, near_by}
use Rattle.dtx_pins.specs.Told.{no_excess}
use Rattle.dtx_pins.specs.Walks.{AreLeastSums}
use Rattle.dtx_pins.proofs.ToldLanes.{eight, each_two}
use Rattle.dtx_pins.proofs.PinnedUnits.{listed, listed_at}
use Rattle.dtx_pins.proofs.ToldPaths.{AreTold, told_behind, told_cost, told_costs, told_level}
use Rattle.dtx_pins.proofs.WeightTests.{is_weighed}

-- each symbol is a signed byte
abbrev pub AreBytes : List ℤ → Type 0
AreBytes symbols = (t : ℕ) → t < length symbols → SFits w8 (get_or symbols t (pos 0))

bytes_behind : (v : ℤ) (symbols : List ℤ) → AreBytes (v ∷ symbols) → AreBytes symbols
bytes_behind v symbols bytes t l = bytes (suc t) (omega arith)

-- ---- weights stand for costs

-- what the path from a former Z2 and a state weighs
abbrev pub told_weight : ℕ → List ℕ → List ℤ → ℕ → ℕ → ℕ
told_weight scale pins [] former state = 0
told_weight scale pins (v ∷ symbols) former state = weight scale v (told_level (pin_at pins 0) former state)
    + told_weight scale (drop 1 pins) symbols (told_level (pin_at pins 0) former state / 4)
    (next_state state (told_level (pin_at pins 0) former state))

-- four times what the path of levels 0 costs
abbrev pub base_of : ℕ → List ℤ → ℕ
base_of scale [] = 0
base_of scale (v ∷ symbols) = 4 * square_of scale v 0 + base_of scale symbols

sum_units : (k n b m p q w c : ℕ) → 4 * p + k * 3584 ≡ b + k * w → 4 * q + k * (3584 * n) ≡ c + k * m
    → 4 * (p + q) + k * (3584 * suc n) ≡ b + c + k * (w + m)
sum_units k n b m p q w c e f = grind (arith, mul-add)

pub told_units : (scale : ℕ) (pins : List ℕ) (symbols : List ℤ) (former state : ℕ) → scale ≤ 18 → former < 2
    → state < 4 → AreBytes symbols
    → 4 * told_cost scale pins symbols former state + unit scale * (3584 * length symbols)
    ≡ base_of scale symbols + unit scale * told_weight scale pins symbols former state
told_units scale pins [] former state l f m bytes = refl
told_units scale pins (v ∷ symbols) former state l f m bytes =
    let z : ℕ = told_level (pin_at pins 0) former state in
    let byte : SFits w8 v = bytes 0 (omega arith) in
    let small : told_level (pin_at pins 0) former state < 8 = omega arith in
    sum_units (unit scale) (length symbols) (4 * square_of scale v 0) _ _ _ _ (base_of scale symbols)
    (is_weighed scale v z l (omega (arith, ints, byte)) (omega (arith, ints, byte)) small).units
    (told_units scale (drop 1 pins) symbols (z / 4) (next_state state z) l (omega arith) (next_small state z m)
    (bytes_behind v symbols bytes))

-- ---- one step

depth_is : (scale : ℕ) (v : ℤ) → 0 < scale → SFits w8 v → pos (depth scale v) ≡ (pos 127 -ℤ v)
unfolding depth
depth_is scale v l fits = grind (arith, nat_tests, ints)

-- the level with another Z2 where p is 1, and another Z0 where a is 1
abbrev FlipsTo : ℕ → ℤ → ℕ → ℕ → ℕ → ℕ → ℕ → Type 0
FlipsTo scale v z2 x1 q1 p a = (pos (weight scale v (4 * ((z2 + p) % 2) + 2 * x1 + (q1 + a) % 2))
    +ℤ (if_bit p (pos 16 *ℤ far_by scale z2 x1 q1 v) +ℤ if_bit a (pos 4 *ℤ near_by scale z2 x1 q1 v)))
    ≡ (pos (weight scale v (4 * z2 + 2 * x1 + q1)) +ℤ if_bit p (if_bit a (pos 32 *ℤ both_by scale z2 q1)))

flips_to : (scale : ℕ) (v : ℤ) (z2 x1 q1 p a : ℕ) → 0 < scale → scale ≤ 18 → SFits w8 v → z2 < 2 → x1 < 2 → q1 < 2
    → p < 2 → a < 2 → FlipsTo scale v z2 x1 q1 p a
unfolding ground
flips_to scale v z2 x1 q1 p a from to fits l m n o k =
    let d = depth_is scale v from fits in
    eight (λ z2 x1 q1. (p a : ℕ) → p < 2 → a < 2 → FlipsTo scale v z2 x1 q1 p a)
    (each_two (FlipsTo scale v 0 0 0) (omega (arith, ints, d)) (omega (arith, ints, d)) (omega (arith, ints, d))
    (omega (arith, ints, d)))
    (each_two (FlipsTo scale v 0 0 1) (omega (arith, ints, d)) (omega (arith, ints, d)) (omega (arith, ints, d))
    (omega (arith, ints, d)))
    (each_two (FlipsTo scale v 0 1 0) (omega (arith, ints, d)) (omega (arith, ints, d)) (omega (arith, ints, d))
    (omega (arith, ints, d)))
    (each_two (FlipsTo scale v 0 1 1) (omega (arith, ints, d)) (omega (arith, ints, d)) (omega (arith, ints, d))
    (omega (arith, ints, d)))
    (each_two (FlipsTo scale v 1 0 0) (omega (arith, ints, d)) (omega (arith, ints, d)) (omega (arith, ints, d))
    (omega (arith, ints, d)))
    (each_two (FlipsTo scale v 1 0 1) (omega (arith, ints, d)) (omega (arith, ints, d)) (omega (arith, ints, d))
    (omega (arith, ints, d)))
    (each_two (FlipsTo scale v 1 1 0) (omega (arith, ints, d)) (omega (arith, ints, d)) (omega (arith, ints, d))
    (omega (arith, ints, d)))
    (each_two (FlipsTo scale v 1 1 1) (omega (arith, ints, d)) (omega (arith, ints, d)) (omega (arith, ints, d))
    (omega (arith, ints, d))) z2 x1 q1 l m n p a o k

-- a step's weight, and what the path weighs less before it and behind it
step_weight : (p a b : ℕ) (more : Excess ℤ) (far near both : ℤ) (w start : ℕ) → p < 2 → a < 2 → b < 2
    → (pos w +ℤ (if_bit p (pos 16 *ℤ far) +ℤ if_bit a (pos 4 *ℤ near)))
    ≡ (pos start +ℤ if_bit p (if_bit a (pos 32 *ℤ both))) → (pos w +ℤ less_by p b a (record {
      far = more.far +ℤ far;
      near = more.other_near;
      other_near = more.near +ℤ near;
      both = more.other_both;
      other_both = more.both +ℤ both;
    })) ≡ (pos start +ℤ less_by p a b more)
step_weight p a b more far near both w start l m n =
    eight (λ p a b. (pos w +ℤ (if_bit p (pos 16 *ℤ far) +ℤ if_bit a (pos 4 *ℤ near)))
    ≡ (pos start +ℤ if_bit p (if_bit a (pos 32 *ℤ both))) → (pos w +ℤ less_by p b a (record {
      far = more.far +ℤ far;
      near = more.other_near;
      other_near = more.near +ℤ near;
      both = more.other_both;
      other_both = more.both +ℤ both;
    })) ≡ (pos start +ℤ less_by p a b more)) (λ e. omega (arith, ints, e)) (λ e. omega (arith, ints, e))
    (λ e. omega (arith, ints, e)) (λ e. omega (arith, ints, e)) (λ e. omega (arith, ints, e))
    (λ e. omega (arith, ints, e)) (λ e. omega (arith, ints, e)) (λ e. omega (arith, ints, e)) p a b l m n

-- ---- all steps

-- where the path stands at the end
abbrev pub lane_at_end : ℕ → List ℕ → List ℤ → Lane → Lane
lane_at_end scale pins [] lane = lane
lane_at_end scale pins (v ∷ symbols) lane =
    lane_at_end scale (drop 1 pins) symbols (lane_after scale (pin_at pins 0) v lane)

-- what the path from another beginning weighs less at the end, where q1 and q0 change their places at each step
abbrev pub less_at_end : ℕ → ℕ → ℕ → List ℤ → Excess ℤ → ℤ
less_at_end p a b [] more = less_by p a b more
less_at_end p a b (v ∷ symbols) more = less_at_end p b a symbols more

-- the path stands at bits
pub record HasBits (lane : Lane) : Type 0 where
  pub former : lane.former < 2
  pub q1 : lane.q1 < 2
  pub q0 : lane.q0 < 2

-- what the path weighs that begins with another Z2, q1 and q0 where p, a and b are 1
abbrev pub flipped_weight : ℕ → List ℕ → List ℤ → Lane → ℕ → ℕ → ℕ → ℕ
flipped_weight scale pins symbols lane p a b =
    told_weight scale pins symbols ((lane.former + p) % 2) (2 * ((lane.q1 + a) % 2) + (lane.q0 + b) % 2)

-- where it goes on
flipped_more : (scale : ℕ) (pins : List ℕ) (v : ℤ) (symbols : List ℤ) (p a b pin former q1 q0 : ℕ) → pin < 4
    → former < 2 → q1 < 2 → q0 < 2 → p < 2 → a < 2 → b < 2
    → weight scale v (told_level pin ((former + p) % 2) (2 * ((q1 + a) % 2) + (q0 + b) % 2))
    + told_weight scale pins symbols (told_level pin ((former + p) % 2) (2 * ((q1 + a) % 2) + (q0 + b) % 2) / 4)
    (next_state (2 * ((q1 + a) % 2) + (q0 + b) % 2)
    (told_level pin ((former + p) % 2) (2 * ((q1 + a) % 2) + (q0 + b) % 2)))
    ≡ weight scale v (4 * (((former + pin / 2) % 2 + p) % 2) + 2 * (pin % 2) + (q1 + a) % 2)
    + told_weight scale pins symbols (((former + pin / 2) % 2 + p) % 2)
    (2 * (((pin % 2 + q0) % 2 + b) % 2) + (q1 + a) % 2)
unfolding next_state
flipped_more scale pins v symbols p a b pin former q1 q0 l f g h m n o = grind (arith, told_level)

bits_after : (scale pin : ℕ) (v : ℤ) (lane : Lane) → HasBits lane → HasBits (lane_after scale pin v lane)
bits_after scale pin v lane bits = grind arith

both_steps : (w start t rest : ℕ) (e d c : ℤ) → (pos t +ℤ e) ≡ (pos rest +ℤ d) → (pos w +ℤ d) ≡ (pos start +ℤ c)
    → (pos (w + t) +ℤ e) ≡ (pos (start + rest) +ℤ c)
both_steps w start t rest e d c f g = omega (arith, ints, f, g)

pub told_difference : (scale : ℕ) (pins : List ℕ) (symbols : List ℤ) (lane : Lane) (p a b : ℕ) → 0 < scale
    → scale ≤ 18 → AreTold pins (length symbols) → AreBytes symbols → HasBits lane → p < 2 → a < 2 → b < 2
    → (pos (flipped_weight scale pins symbols lane p a b)
    +ℤ less_at_end p a b symbols (lane_at_end scale pins symbols lane).more)
    ≡ (pos (flipped_weight scale pins symbols lane 0 0 0) +ℤ less_by p a b lane.more)
told_difference scale pins [] lane p a b from to told bytes bits l m n = refl
told_difference scale pins (v ∷ symbols) lane p a b from to told bytes bits l m n =
    let next : Lane = lane_after scale (pin_at pins 0) v lane in
    let end : Lane = lane_at_end scale (drop 1 pins) symbols (lane_after scale (pin_at pins 0) v lane) in
    subst (λ x. (pos x +ℤ less_at_end p b a symbols end.more)
    ≡ (pos (flipped_weight scale pins (v ∷ symbols) lane 0 0 0) +ℤ less_by p a b lane.more))
    (sym (flipped_more scale (drop 1 pins) v symbols p a b (pin_at pins 0) lane.former lane.q1 lane.q0
    (told 0 (omega arith)) bits.former bits.q1 bits.q0 l m n))
    (subst (λ x. (pos (weight scale v (z p a) + flipped_weight scale (drop 1 pins) symbols next p b a)
    +ℤ less_at_end p b a symbols end.more) ≡ (pos x +ℤ less_by p a b lane.more))
    (sym (flipped_more scale (drop 1 pins) v symbols 0 0 0 (pin_at pins 0) lane.former lane.q1 lane.q0
    (told 0 (omega arith)) bits.former bits.q1 bits.q0 (omega arith) (omega arith) (omega arith)))
    (both_steps (weight scale v (z p a)) (weight scale v (z 0 0))
    (flipped_weight scale (drop 1 pins) symbols next p b a) (flipped_weight scale (drop 1 pins) symbols next 0 0 0)
    (less_at_end p b a symbols end.more) (less_by p b a next.more) (less_by p a b lane.more)
    (told_difference scale (drop 1 pins) symbols next p b a from to
    (told_behind pins 1 (length symbols) (λ t k. told t (omega arith))) (bytes_behind v symbols bytes)
    (bits_after scale (pin_at pins 0) v lane bits) l n m)
    (step_weight p a b lane.more (far_by scale z2 x1 lane.q1 v) (near_by scale z2 x1 lane.q1 v)
    (both_by scale z2 lane.q1) (weight scale v (z p a)) (weight scale v (z 0 0)) l m n
    (flips z2 x1 lane.q1 p a (omega arith) (omega arith) bits.q1 l m))))
  where
    z2 : ℕ
    z2 = (lane.former + pin_at pins 0 / 2) % 2

    x1 : ℕ
    x1 = pin_at pins 0 % 2

    z : ℕ → ℕ → ℕ
    z p a = 4 * (((lane.former + pin_at pins 0 / 2) % 2 + p) % 2) + 2 * (pin_at pins 0 % 2) + (lane.q1 + a) % 2

    flips : (z2 x1 q1 p a : ℕ) → z2 < 2 → x1 < 2 → q1 < 2 → p < 2 → a < 2
        → (pos (weight scale v (4 * ((z2 + p) % 2) + 2 * x1 + (q1 + a) % 2))
        +ℤ (if_bit p (pos 16 *ℤ far_by scale z2 x1 q1 v) +ℤ if_bit a (pos 4 *ℤ near_by scale z2 x1 q1 v)))
        ≡ (pos (weight scale v (4 * ((z2 + 0) % 2) + 2 * x1 + (q1 + 0) % 2))
        +ℤ if_bit p (if_bit a (pos 32 *ℤ both_by scale z2 q1)))
    flips z2 x1 q1 p a f g h l m = subst (λ z. (pos (weight scale v (4 * ((z2 + p) % 2) + 2 * x1 + (q1 + a) % 2))
        +ℤ (if_bit p (pos 16 *ℤ far_by scale z2 x1 q1 v) +ℤ if_bit a (pos 4 *ℤ near_by scale z2 x1 q1 v)))
        ≡ (pos (weight scale v z) +ℤ if_bit p (if_bit a (pos 32 *ℤ both_by scale z2 q1)))) (omega arith)
        (flips_to scale v z2 x1 q1 p a from to (bytes 0 (omega arith)) f g h l m)

-- ---- where the sums stand at the end

not : Bool → Bool
not true = false
not false = true

picked : Bool → Excess ℤ → Excess ℤ
picked t more = record {
  far = more.far;
  near = cond t more.near more.other_near;
  other_near = cond t more.other_near more.near;
  both = cond t more.both more.other_both;
  other_both = cond t more.other_both more.both;
}

swapped : (x y : ℤ) → (x +ℤ y) ≡ (y +ℤ x)
swapped x y = omega (arith, ints)

less_picked : (t : Bool) (p a b : ℕ) (more : Excess ℤ)
    → less_by p b a (picked t more) ≡ less_by p a b (picked (not t) more)
unfolding picked not
less_picked true p a b more = grind (arith, swapped)
less_picked false p a b more = ap₂ (λ x y. if_bit p ((pos 16 *ℤ more.far) -ℤ x) +ℤ y)
    (swapped (if_bit b (pos 32 *ℤ more.other_both)) (if_bit a (pos 32 *ℤ more.both)))
    (swapped (if_bit b (pos 4 *ℤ more.other_near)) (if_bit a (pos 4 *ℤ more.near)))

is_even : ℕ → Bool
is_even n = nat_eq (n % 2) 0

even_next : (n : ℕ) → not (is_even n) ≡ is_even (suc n)
unfolding not is_even
even_next n = grind (arith, not)

less_is : (p a b : ℕ) (symbols : List ℤ) (more : Excess ℤ)
    → less_at_end p a b symbols more ≡ less_by p a b (picked (is_even (length symbols)) more)
unfolding picked is_even
less_is p a b [] more = refl
less_is p a b (v ∷ symbols) more = less_is p b a symbols more ∙ grind (arith, less_picked, is_even, picked, even_next)

less_from_beginning : (p a b segments : ℕ) (symbols : List ℤ) (more : Excess ℤ) → length symbols ≡ 69 * segments
    → less_at_end p a b symbols more ≡ less_by p a b (from_beginning segments more)
unfolding picked is_even
less_from_beginning p a b segments symbols more e = rw (less_is p a b symbols more, parity (length symbols) segments e)
  where
    parity : (n k : ℕ) → n ≡ 69 * k → n % 2 ≡ k % 2
    parity n k e = omega arith

-- ---- sums that stand for the costs

less_nothing : (p a b : ℕ) → p < 2 → a < 2 → b < 2 → less_by p a b no_excess ≡ pos 0
less_nothing = eight (λ p a b. less_by p a b no_excess ≡ pos 0) refl refl refl refl refl refl refl refl

-- the sum of one beginning, and what its path weighs
sum_weight : (scale : ℕ) (pins : List ℕ) (symbols : List ℤ) (segments p s sum : ℕ) (more : Excess ℤ) → 0 < scale
    → scale ≤ 18 → AreTold pins (length symbols) → AreBytes symbols → length symbols ≡ 69 * segments
    → (lane_at_end scale pins symbols beginning).more ≡ more → p < 2 → s < 4
    → pos sum ≡ (pos 1_000_000_000 -ℤ less_by p (s / 2) (s % 2) (from_beginning segments more))
    → told_weight scale pins symbols p s + 1_000_000_000 ≡ told_weight scale pins symbols 0 0 + sum
sum_weight scale pins symbols segments p s sum more from to told bytes long end l m e =
    let state : 2 * ((0 + s / 2) % 2) + (0 + s % 2) % 2 ≡ s = omega arith in
    let former : (0 + p) % 2 ≡ p = omega arith in
    let difference : (pos (told_weight scale pins symbols p s) +ℤ less_at_end p (s / 2) (s % 2) symbols
    (lane_at_end scale pins symbols beginning).more) ≡
    (pos (told_weight scale pins symbols 0 0) +ℤ less_by p (s / 2) (s % 2) no_excess) =
    ap₂ (λ former t. pos (told_weight scale pins symbols former t) +ℤ less_at_end p (s / 2) (s % 2) symbols
    (lane_at_end scale pins symbols beginning).more) (sym former) (sym state)
    ∙ told_difference scale pins symbols beginning p (s / 2) (s % 2) from to told bytes
    (record { former = omega arith; q1 = omega arith; q0 = omega arith }) l (omega arith) (omega arith) in
    numbers (told_weight scale pins symbols p s) (told_weight scale pins symbols 0 0) sum _ _ _ difference
    (less_nothing p (s / 2) (s % 2) l (omega arith) (omega arith))
    (less_from_beginning p (s / 2) (s % 2) segments symbols (lane_at_end scale pins symbols beginning).more long
    ∙ ap (λ more. less_by p (s / 2) (s % 2) (from_beginning segments more)) end) e
  where
    numbers : (w start sum : ℕ) (d c x : ℤ) → (pos w +ℤ d) ≡ (pos start +ℤ c) → c ≡ pos 0 → d ≡ x
        → pos sum ≡ (pos 1_000_000_000 -ℤ x) → w + 1_000_000_000 ≡ start + sum
    numbers w start sum d c x e f g h = omega (arith, ints, e, f, g, h)

pub told_sums_are : (scale : ℕ) (pins : List ℕ) (symbols : List ℤ) (segments : ℕ) (more : Excess ℤ)
    (sums : List (List ℕ)) → 0 < scale → scale ≤ 18 → AreTold pins (length symbols) → AreBytes symbols
    → length symbols ≡ 69 * segments → (lane_at_end scale pins symbols beginning).more ≡ more
    → ((p a b : ℕ) → p < 2 → a < 2 → b < 2 → pos (cost_at sums p (2 * a + b))
    ≡ (pos 1_000_000_000 -ℤ less_by p a b (from_beginning segments more))) → AreLeastSums scale pins symbols sums
told_sums_are scale pins symbols segments more sums from to told bytes long end are = record {
  costs = listed (told_cost scale pins symbols);
  least = told_costs scale pins symbols told;
  units = record {
    base = base_of scale symbols + unit scale * told_weight scale pins symbols 0 0;
    lift = 3584 * length symbols + 1_000_000_000;
    each = λ p s l m. subst (λ cost. 4 * cost + unit scale * (3584 * length symbols + 1_000_000_000)
        ≡ base_of scale symbols + unit scale * told_weight scale pins symbols 0 0 + unit scale * cost_at sums p s)
        (sym (listed_at (told_cost scale pins symbols) p s l m))
        (numbers (unit scale) _ _ _ _ _ _ (told_units scale pins symbols p s to l m bytes)
        (sum_weight scale pins symbols segments p s (cost_at sums p s) more from to told bytes long end l m
        (by_state p s l m)));
  };
}
  where
    numbers : (k n c b w start sum : ℕ) → 4 * c + k * n ≡ b + k * w → w + 1_000_000_000 ≡ start + sum
        → 4 * c + k * (n + 1_000_000_000) ≡ b + k * start + k * sum
    numbers k n c b w start sum e f =
        let g : k * (w + 1_000_000_000) ≡ k * (start + sum) = ap (λ x. k * x) f in
        omega (arith, e, g, mul-add k n 1_000_000_000, mul-add k w 1_000_000_000, mul-add k start sum)

    by_state : (p s : ℕ) → p < 2 → s < 4 → pos (cost_at sums p s)
        ≡ (pos 1_000_000_000 -ℤ less_by p (s / 2) (s % 2) (from_beginning segments more))
    by_state p s l m = grind arith
