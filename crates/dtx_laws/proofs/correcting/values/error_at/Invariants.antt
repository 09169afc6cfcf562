use Rattle.std.proofs.Common.{◌≡◌, ℕ, ◌<◌, ◌+◌, get_or, length}
use Rattle.dtx_laws.specs.Locator.{others, weight, without, is_marked, power_at}
use Rattle.dtx_laws.proofs.correcting.values.error_at.Given as goal

abbrev pub invariant-loop-other : goal.invariant-loop-other
invariant-loop-other l = record {
  rest : (i : ℕ) → i + length (others l.fn.len (is_marked l.fn.marks) l.fn.place l.other) < l.fn.count
      → get_or l.rest i 0 ≡ without (others l.fn.len (is_marked l.fn.marks) l.fn.place l.other)
      (λ i. get_or l.fn.syndromes i 0) i;
  weight : l.weight.0 ≡ weight (power_at l.fn.len l.fn.place)
      (others l.fn.len (is_marked l.fn.marks) l.fn.place l.other);
  own : l.own.0 ≡ power_at l.fn.len l.fn.place;
}
