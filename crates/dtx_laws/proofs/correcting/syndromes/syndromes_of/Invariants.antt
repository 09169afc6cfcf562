use Rattle.std.proofs.Common.{◌≡◌, ℕ, ◌<◌, get_or, length}
use Rattle.dtx_galois.specs.Field.{value, pow, sums}
use Rattle.dtx_laws.proofs.correcting.syndromes.syndromes_of.Given as goal

abbrev pub invariant-loop-i : goal.invariant-loop-i
invariant-loop-i l = record {
  values : (k : ℕ) → k < l.i → get_or l.syndromes k 0 ≡ value (sums l.fn.parity l.fn.right) (pow 2 k);
  long : length l.syndromes ≡ 256;
}
