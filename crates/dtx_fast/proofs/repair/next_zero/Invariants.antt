use Rattle.std.proofs.Common.{◌+◌, ◌-◌, ◌≢◌, ℕ, ◌<◌, ◌≤◌, get_or}
use Rattle.dtx_fast.proofs.repair.next_zero.Given as goal

abbrev pub invariant-loop-at : goal.invariant-loop-at
invariant-loop-at l = record {
  from : l.fn.from ≤ l.at;
  upto : l.at ≤ l.fn.len;
  passed : (q : ℕ) → l.fn.from ≤ q → q < l.at → get_or l.fn.walk q 0 ≢ 0;
}

abbrev pub decreases-loop-at : goal.decreases-loop-at
decreases-loop-at l = l.len + 1 - l.at

abbrev pub invariant-loop-at-2 : goal.invariant-loop-at-2
invariant-loop-at-2 l = record {
  from : l.fn.from ≤ l.at;
  upto : l.at ≤ l.fn.len;
  passed : (q : ℕ) → l.fn.from ≤ q → q < l.at → get_or l.fn.walk q 0 ≢ 0;
}

abbrev pub decreases-loop-at-2 : goal.decreases-loop-at-2
decreases-loop-at-2 l = l.len - l.at
