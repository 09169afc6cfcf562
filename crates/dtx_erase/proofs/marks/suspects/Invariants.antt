use Rattle.std.proofs.Common.{◌≡◌, ℕ, ◌<◌, ◌+◌, ◌==◌, ◌||◌, length, take}
use Rattle.dtx_galois.specs.Field.{value}
use Rattle.dtx_laws.specs.Locator.{others, is_marked, power_at}
use Rattle.dtx_erase.proofs.marks.suspects.Given as goal

abbrev pub invariant-loop-place : goal.invariant-loop-place
invariant-loop-place l = record {
  done : (p : ℕ) → p < l.place → is_marked l.all p ≡ (is_marked l.fn.marks p
      || value (take (l.fn.order + 1) l.fn.coefficients) (power_at (length l.fn.marks) p) == 0);
  left : l.left + length (others (length l.fn.marks)
      (λ q. value (take (l.fn.order + 1) l.fn.coefficients) (power_at (length l.fn.marks) q) == 0) (length l.fn.marks)
      l.place) ≡ l.fn.order;
  long : length l.all ≡ 256;
}
