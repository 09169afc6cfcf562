use Rattle.std.proofs.Common.{◌≡◌, ◌-◌, ℕ, ◌≤◌, ◌<◌, ◌+◌, get_or, length}
use Rattle.dtx_fast.specs.Recurrence.{repaired_at}
use Rattle.dtx_fast.proofs.repair.patch.Given as goal

abbrev pub invariant-loop-exponent : goal.invariant-loop-exponent
invariant-loop-exponent l = record {
  done : (p : ℕ) → p < length l.fn.word → length l.fn.word ≤ p + l.exponent → get_or l.word p 0
      ≡ repaired_at (length l.fn.word) l.fn.found.order (λ i. get_or l.fn.found.coefficients i 0)
      (λ i. get_or l.fn.syndromes i 0) l.fn.word p;
  left : (p : ℕ) → p + l.exponent < length l.fn.word → get_or l.word p 0 ≡ get_or l.fn.word p 0;
  zero : l.exponent < length l.fn.word → get_or l.fn.walk l.exponent 0 ≡ 0;
  long : length l.word ≡ length l.fn.word;
}

abbrev pub decreases-loop-exponent : goal.decreases-loop-exponent
decreases-loop-exponent l = l.len - l.exponent
