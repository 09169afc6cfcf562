use Rattle.std.proofs.Common.{◌≡◌, ◌≢◌, ℕ, ◌+◌, ◌<◌, ◌≤◌, false, get_or}
use Rattle.dtx_fast.proofs.repair.has_zero.Given as goal

abbrev pub invariant-loop-i : goal.invariant-loop-i
invariant-loop-i l = l.any ≡ false → (q : ℕ) → l.fn.start ≤ q → q < l.fn.start + l.i → get_or l.fn.walk q 0 ≢ 0
