use Rattle.std.proofs.Common.{◌≡◌, ℕ, ◌+◌, ◌-◌, ◌*◌, ◌%◌, ◌<◌, [], get_or, pos}
use Rattle.dtx_soft.proofs.rounds.read_segment.Given as goal

abbrev pub invariant-loop-r : goal.invariant-loop-r
invariant-loop-r l = record {
  lanes : (r e : ℕ) → r < l.r → e < 12 → get_or (get_or l.rounds (l.at + r) []) e (pos 0)
      ≡ get_or l.segment (4 + 12 * r + (e + 12 - 4 * l.turn) % 12) (pos 0);
  before : (k : ℕ) → k < l.at → get_or l.rounds k [] ≡ get_or l.fn.rounds k [];
}
