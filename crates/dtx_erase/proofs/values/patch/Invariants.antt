use Rattle.std.proofs.Common.{◌≡◌, ℕ, ◌<◌, ◌≤◌, length, get_or}
use Rattle.dtx_laws.specs.Locator.{patched_at, is_marked}
use Rattle.dtx_erase.proofs.values.patch.Given as goal

abbrev pub invariant-loop-place : goal.invariant-loop-place
invariant-loop-place l = record {
  done : (p : ℕ) → p < l.place → get_or l.word p 0
      ≡ patched_at (length l.fn.word) (is_marked l.fn.suspects) (λ i. get_or l.fn.syndromes i 0) l.fn.word p;
  left : (p : ℕ) → l.place ≤ p → get_or l.word p 0 ≡ get_or l.fn.word p 0;
  long : length l.word ≡ length l.fn.word;
}
