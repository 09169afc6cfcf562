use Rattle.std.proofs.Common.{◌≡◌, ◌+◌, ◌*◌, ◌<◌, ◌≤◌, ℕ, false, length}
use Rattle.dtx_acquire.proofs.searching.search.Given as goal

abbrev pub invariant-loop-k : goal.invariant-loop-k
invariant-loop-k g l = (i : ℕ) → l.from ≤ i → i < l.from + 64 * l.k → i + 831 < length l.symbols
    → g.T.SyncTest.passes l.symbols i ≡ false
