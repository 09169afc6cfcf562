use Rattle.std.proofs.Common.{◌≡◌, ℕ, ◌<◌, ◌≤◌, slice_index_or, get_or, length, []}
use Rattle.dtx_galois.specs.Field.{pow}
use Rattle.dtx_laws.specs.Locator.{combination}
use Rattle.dtx_correct.specs.Elimination.{reduced, vector}
use Rattle.dtx_correct.proofs.elimination.reduce.Given as goal

abbrev pub invariant-loop-k : goal.invariant-loop-k
invariant-loop-k l = record {
  done : (k : ℕ) → k < l.k
      → vector l.fn.width l.vectors k ≡ reduced (λ i. get_or l.fn.syndromes i 0) l.fn.equation
      (vector l.fn.width l.fn.vectors) l.fn.pivot
      (pow (combination (vector l.fn.width l.fn.vectors l.fn.pivot) (λ i. get_or l.fn.syndromes i 0) l.fn.equation) 254)
      k;
  left : (k : ℕ) → l.k ≤ k → slice_index_or l.vectors k [] ≡ slice_index_or l.fn.vectors k [];
  long : length l.vectors ≡ 128;
}
