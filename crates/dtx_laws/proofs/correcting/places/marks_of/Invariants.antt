use Rattle.std.proofs.Common.{◌≡◌, ℕ, ◌<◌, length}
use Rattle.dtx_laws.specs.Locator.{is_marked, vanishes_at}
use Rattle.dtx_laws.proofs.correcting.places.marks_of.Given as goal

abbrev pub invariant-loop-place : goal.invariant-loop-place
invariant-loop-place l = record {
  done : (p : ℕ) → p < l.place → is_marked l.marks p ≡ vanishes_at l.len l.locator p;
  long : length l.marks ≡ 256;
}
