-- Paths all of whose pairs are known: how the one that is followed goes on, and how much more those from the other
-- beginnings come to.
use Rattle.std.specs.Prelude.{ℕ, ℤ, pos, ◌+◌, ◌*◌, ◌/◌, ◌%◌, ◌<◌, ◌+ℤ◌, ◌-ℤ◌, ◌*ℤ◌, ◌≤ℤ◌, neg_ℤ, zero, suc}
use Rattle.std.specs.Prelude.{◌==◌, if◌then◌else◌, slice_index, slice_index_or}
use Rattle.dtx_pins.specs.declared.told.Excess.{Excess}
use Rattle.dtx_pins.specs.declared.told.Excesses.{Excesses}
use Rattle.dtx_pins.specs.declared.told.Lane.{Lane}
use Rattle.dtx_pins.specs.declared.told.Told.{Told}

-- a number, with the other sign where a bit is 1
abbrev pub signed : ℕ → ℤ → ℤ
signed bit number = if bit == 0 then number else neg_ℤ number

-- A sixteenth of what a level weighs more than the one with the other Z2. Beside Z2 the level has X1 as its Z1, and q1
-- as its Z0.
abbrev pub far_by : ℕ → ℕ → ℕ → ℕ → ℤ → ℤ
far_by scale z2 x1 q1 symbol = signed z2 (symbol +ℤ signed x1 (pos (2 * scale)) +ℤ signed q1 (pos scale))

-- a fourth of what it weighs more than the one with the other Z0
abbrev pub near_by : ℕ → ℕ → ℕ → ℕ → ℤ → ℤ
near_by scale z2 x1 q1 symbol = signed q1 (symbol +ℤ signed z2 (pos (4 * scale)) +ℤ signed x1 (pos (2 * scale)))

-- the scale where Z2 and Z0 are equal, and else its negative
abbrev pub both_by : ℕ → ℕ → ℕ → ℤ
both_by scale z2 q1 = signed z2 (signed q1 (pos scale))

-- the sums of coder e, or `other` where there is no such coder
abbrev pub excess_or : {A : Type 0} → Excesses A → ℕ → A → Excess A
excess_or excesses e other = record {
  far = slice_index_or excesses.far e other;
  near = slice_index_or excesses.near e other;
  other_near = slice_index_or excesses.other_near e other;
  both = slice_index_or excesses.both e other;
  other_both = slice_index_or excesses.other_both e other;
}

abbrev pub excess_at : Excesses ℤ → ℕ → Excess ℤ
excess_at excesses e = excess_or excesses e (pos 0)

-- where the path of coder e stands
abbrev pub lane_at : Told → ℕ → Lane
lane_at told e = record {
  former = slice_index told.former e;
  q1 = slice_index told.q1 e;
  q0 = slice_index told.q0 e;
  more = excess_at told.more e;
}

-- the path, one step further
abbrev pub lane_after : ℕ → ℕ → ℤ → Lane → Lane
lane_after scale pin symbol lane = record {
  former = (lane.former + pin / 2) % 2;
  q1 = (pin % 2 + lane.q0) % 2;
  q0 = lane.q1;
  more = record {
    far = lane.more.far +ℤ far_by scale ((lane.former + pin / 2) % 2) (pin % 2) lane.q1 symbol;
    near = lane.more.other_near;
    other_near = lane.more.near +ℤ near_by scale ((lane.former + pin / 2) % 2) (pin % 2) lane.q1 symbol;
    both = lane.more.other_both;
    other_both = lane.more.both +ℤ both_by scale ((lane.former + pin / 2) % 2) lane.q1;
  };
}

-- the path behind r steps, from their pins and symbols
unfoldable pub lane_behind : ℕ → (ℕ → ℕ) → (ℕ → ℤ) → ℕ → Lane → Lane
lane_behind scale pins symbols zero lane = lane
lane_behind scale pins symbols (suc r) lane =
    lane_after scale (pins r) (symbols r) (lane_behind scale pins symbols r lane)

-- sums over n steps are at most 240 times that much
pub record IsWithin (n : ℕ) (more : Excess ℤ) : Type 0 where
  pub far_from : pos 0 ≤ℤ (more.far +ℤ pos (240 * n))
  pub far_to : more.far ≤ℤ pos (240 * n)
  pub near_from : pos 0 ≤ℤ (more.near +ℤ pos (240 * n))
  pub near_to : more.near ≤ℤ pos (240 * n)
  pub other_near_from : pos 0 ≤ℤ (more.other_near +ℤ pos (240 * n))
  pub other_near_to : more.other_near ≤ℤ pos (240 * n)
  pub both_from : pos 0 ≤ℤ (more.both +ℤ pos (240 * n))
  pub both_to : more.both ≤ℤ pos (240 * n)
  pub other_both_from : pos 0 ≤ℤ (more.other_both +ℤ pos (240 * n))
  pub other_both_to : more.other_both ≤ℤ pos (240 * n)

-- the path stands n steps behind the beginning of a segment
pub record IsLane (n : ℕ) (lane : Lane) : Type 0 where
  pub former : lane.former < 2
  pub q1 : lane.q1 < 2
  pub q0 : lane.q0 < 2
  pub small : IsWithin n lane.more

-- the sums of an odd number of steps with those of the steps before them
abbrev pub excess_with : Excess ℤ → Excess ℤ → Excess ℤ
excess_with total more = record {
  far = total.far +ℤ more.far;
  near = total.other_near +ℤ more.near;
  other_near = total.near +ℤ more.other_near;
  both = total.other_both +ℤ more.both;
  other_both = total.both +ℤ more.other_both;
}

-- sums that are all the same
abbrev pub alike : {A : Type 0} → A → Excess A
alike number = record { far = number; near = number; other_near = number; both = number; other_both = number }

-- no sums
abbrev pub no_excess : Excess ℤ
no_excess = alike (pos 0)

-- the path at its beginning
abbrev pub beginning : Lane
beginning = record { former = 0; q1 = 0; q0 = 0; more = no_excess }

-- the same path with new sums
abbrev pub emptied : Lane → Lane
emptied lane = record { former = lane.former; q1 = lane.q1; q0 = lane.q0; more = no_excess }

-- the mark of a pin that tells a pair
abbrev pub told_mark : ℕ → ℕ
told_mark pin = 85 * pin + 21760 * ((pin + 2) % 4)

-- a number where a bit is 1, and else 0
abbrev pub if_bit : ℕ → ℤ → ℤ
if_bit bit number = if bit == 0 then pos 0 else number

-- what it weighs less since Z2 is another one
abbrev pub less_with_z2 : ℕ → ℕ → Excess ℤ → ℤ
less_with_z2 a b more =
    (pos 16 *ℤ more.far) -ℤ (if_bit a (pos 32 *ℤ more.both) +ℤ if_bit b (pos 32 *ℤ more.other_both))

-- what it weighs less since Z0 is another one
abbrev pub less_beside : ℕ → ℕ → Excess ℤ → ℤ
less_beside a b more = if_bit a (pos 4 *ℤ more.near) +ℤ if_bit b (pos 4 *ℤ more.other_near)

-- What the path from another beginning weighs less. It begins with another Z2 where p is 1, with another q1 where a is
-- 1, and with another q0 where b is 1. `near` and `both` are over the even steps.
abbrev pub less_by : ℕ → ℕ → ℕ → Excess ℤ → ℤ
less_by p a b more = if_bit p (less_with_z2 a b more) +ℤ less_beside a b more

-- the sums with `near` over the steps that are an even number of steps behind the beginning
abbrev pub from_beginning : ℕ → Excess ℤ → Excess ℤ
from_beginning segments more = record {
  far = more.far;
  near = if segments % 2 == 0 then more.near else more.other_near;
  other_near = if segments % 2 == 0 then more.other_near else more.near;
  both = if segments % 2 == 0 then more.both else more.other_both;
  other_both = if segments % 2 == 0 then more.other_both else more.both;
}
