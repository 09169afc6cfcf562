use Rattle.std.proofs.Common.{◌≡◌, ℕ, ◌+◌, ◌<◌, pos, get_or, length}
use Rattle.dtx_acquire.specs.Acquired.{decided}
use Rattle.dtx_acquire.proofs.deciding.Decisions.last.Given as goal

abbrev pub invariant-loop-q : goal.invariant-loop-q
invariant-loop-q l = record {
  long : length l.out ≡ 12;
  written : (k : ℕ) → k < l.q → get_or l.out k (pos 0) ≡ decided l.self.scale (get_or l.segment (820 + k) (pos 0));
}
