use Rattle.std.proofs.Common.{◌≡◌, ℕ, ◌+◌, ◌*◌, ◌%◌, ◌<◌, [], get_or, pos}
use Rattle.dtx_soft.proofs.rounds.write_segment.Given as goal

abbrev pub invariant-loop-r : goal.invariant-loop-r
invariant-loop-r l = record {
  symbols : (r p : ℕ) → r < l.r → p < 12 → get_or l.segment (4 + 12 * r + p) (pos 0)
      ≡ get_or (get_or l.rounds (l.at + r) []) ((p + 4 * l.turn) % 12) (pos 0);
  sync : (k : ℕ) → k < 4 → get_or l.segment k (pos 0) ≡ get_or l.fn.segment k (pos 0);
}
