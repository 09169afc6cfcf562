use Rattle.std.proofs.Common.{◌≡◌, ℕ, ◌<◌, get_or, length}
use Rattle.dtx_galois.specs.Field.{pow}
use Rattle.dtx_fast.proofs.places.powers_of.Given as goal

abbrev pub invariant-loop-k : goal.invariant-loop-k
invariant-loop-k l = record {
  done : (k : ℕ) → k < l.k → get_or l.powers k 0 ≡ pow l.fn.element.0 k;
  long : length l.powers ≡ 11;
}
