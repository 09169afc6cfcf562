use Rattle.std.proofs.Common.{◌-◌, ◌<◌, ◌≤◌, length, ℕ, get_or}
use Rattle.dtx_plan.specs.declared.damage.Damage.{Damage}
use Rattle.dtx_make.specs.Hurt.{damage_end}
use Rattle.dtx_make.proofs.laying.first_behind.Given as goal

abbrev pub invariant-loop-low : goal.invariant-loop-low
invariant-loop-low l = record {
  order : l.low ≤ l.high;
  within : l.high ≤ length l.damage;
  before : (k : ℕ) (e : Damage) → k < l.low → damage_end (get_or l.damage k e) ≤ l.place;
  behind : (k : ℕ) (e : Damage) → l.high ≤ k → k < length l.damage → l.place < damage_end (get_or l.damage k e);
}

abbrev pub decreases-loop-low : goal.decreases-loop-low
decreases-loop-low l = l.high - l.low
