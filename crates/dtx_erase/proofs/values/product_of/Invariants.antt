use Rattle.std.proofs.Common.{◌≡◌, ℕ, ◌≤◌, get_or, length}
use Rattle.dtx_fast.specs.Recurrence.{connection}
use Rattle.dtx_laws.specs.Locator.{others, is_marked}
use Rattle.dtx_erase.proofs.values.product_of.Given as goal

abbrev pub invariant-loop-place : goal.invariant-loop-place
invariant-loop-place l = record {
  degree : l.degree ≡ length (others l.fn.len (is_marked l.fn.suspects) l.fn.len l.place);
  product : (k : ℕ) → get_or l.coefficients k 0
      ≡ connection (others l.fn.len (is_marked l.fn.suspects) l.fn.len l.place) k;
  few : l.degree ≤ l.place;
  long : length l.coefficients ≡ 256;
}
