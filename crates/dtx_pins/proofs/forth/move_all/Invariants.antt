use Rattle.std.proofs.Common.{◌≡◌, ℕ, ◌<◌, ◌≤◌, get_or, length}
use Rattle.dtx_pins.specs.Trace.{IsMoved, stand_at}
use Rattle.dtx_pins.proofs.forth.move_all.Given as goal

abbrev pub invariant-loop-e : goal.invariant-loop-e
invariant-loop-e l = record {
  levels_long : length l.levels ≡ 16;
  q1s_long : length l.q1s ≡ 16;
  former_long : length l.stands.former ≡ 16;
  done : (k : ℕ) → k < l.e → IsMoved (get_or l.marks k 0) (stand_at l.fn.stands k) (record {
    former = get_or l.stands.former k 0;
    q1 = get_or l.q1s k 0;
    q0 = get_or l.fn.stands.q1 k 0;
    cost = get_or l.fn.stands.cost k 0;
  }) (get_or l.levels k 0);
  left : (k : ℕ) → l.e ≤ k → get_or l.stands.former k 0 ≡ get_or l.fn.stands.former k 0;
  q1 : l.stands.q1 ≡ l.fn.stands.q1;
  q0 : l.stands.q0 ≡ l.fn.stands.q0;
  cost : l.stands.cost ≡ l.fn.stands.cost;
}
