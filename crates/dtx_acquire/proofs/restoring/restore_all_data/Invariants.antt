use Rattle.std.proofs.Common.{◌≡◌, ◌<◌, ◌≤◌, ℕ, [], get_or, length}
use Rattle.dtx_acquire.specs.Acquired.{restored_data}
use Rattle.dtx_acquire.proofs.restoring.restore_all_data.Given as goal

abbrev pub invariant-loop-i : goal.invariant-loop-i
invariant-loop-i l = record {
  long : length l.segments ≡ length l.initial.segments;
  done : (k : ℕ) → k < l.i → get_or l.segments k [] ≡ restored_data l.decisions.scale (get_or l.initial.segments k []);
  left : (k : ℕ) → l.i ≤ k → get_or l.segments k [] ≡ get_or l.initial.segments k [];
}
