use Rattle.std.proofs.Common.{◌≡◌, ℕ, ◌+◌, ◌-◌, ◌*◌, ◌%◌, ◌<◌, get_or, length, pos}
use Rattle.dtx_soft.proofs.rounds.read_round.Given as goal

abbrev pub invariant-loop-e : goal.invariant-loop-e
invariant-loop-e l = record {
  long : length l.lanes ≡ 16;
  done : (e : ℕ) → e < l.e
      → get_or l.lanes e (pos 0) ≡ get_or l.segment (4 + 12 * l.r + (e + 12 - 4 * l.turn) % 12) (pos 0);
}
