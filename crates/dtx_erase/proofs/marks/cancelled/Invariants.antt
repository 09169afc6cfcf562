use Rattle.std.proofs.Common.{◌≡◌, ℕ, ◌<◌, ◌+◌, get_or, length}
use Rattle.dtx_laws.specs.Locator.{others, without, is_marked}
use Rattle.dtx_erase.proofs.marks.cancelled.Given as goal

abbrev pub invariant-loop-place : goal.invariant-loop-place
invariant-loop-place l = record {
  rest : (i : ℕ)
      → i + length (others (length l.fn.marks) (is_marked l.fn.marks) (length l.fn.marks) l.place) < l.fn.count
      → get_or l.rest i 0 ≡ without (others (length l.fn.marks) (is_marked l.fn.marks) (length l.fn.marks) l.place)
      (λ i. get_or l.fn.syndromes i 0) i;
  long : length l.rest ≡ 256;
}
