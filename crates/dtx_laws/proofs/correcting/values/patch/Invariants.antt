use Rattle.std.proofs.Common.{◌≡◌, ℕ, ◌<◌, ◌≤◌, length, get_or}
use Rattle.dtx_laws.specs.Locator.{others, patched_at, is_marked}
use Rattle.dtx_laws.proofs.correcting.values.patch.Given as goal

abbrev pub invariant-loop-place : goal.invariant-loop-place
invariant-loop-place l = record {
  done : (p : ℕ) → p < l.place
      → length (others (length l.fn.word) (is_marked l.fn.marks) p (length l.fn.word)) < l.fn.count
      → get_or l.word p 0 ≡ patched_at (length l.fn.word) (is_marked l.fn.marks)
      (λ i. get_or l.fn.syndromes i 0) l.fn.word p;
  left : (p : ℕ) → l.place ≤ p → get_or l.word p 0 ≡ get_or l.fn.word p 0;
}
