use Rattle.std.proofs.Common.{◌≡◌, ℕ, ◌+◌, ◌*◌, ◌%◌, ◌<◌, ◌≤◌, get_or, length, pos}
use Rattle.dtx_soft.proofs.rounds.write_round.Given as goal

abbrev pub invariant-loop-p : goal.invariant-loop-p
invariant-loop-p l = record {
  long : length l.segment ≡ 832;
  symbols : (p : ℕ) → p < l.p
      → get_or l.segment (4 + 12 * l.r + p) (pos 0) ≡ get_or l.lanes ((p + 4 * l.turn) % 12) (pos 0);
  before : (k : ℕ) → k < 4 + 12 * l.r → get_or l.segment k (pos 0) ≡ get_or l.fn.segment k (pos 0);
  behind : (k : ℕ) → 16 + 12 * l.r ≤ k → get_or l.segment k (pos 0) ≡ get_or l.fn.segment k (pos 0);
}
