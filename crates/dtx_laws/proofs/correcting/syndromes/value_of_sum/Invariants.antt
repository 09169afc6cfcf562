use Rattle.std.proofs.Common.{◌≡◌, take}
use Rattle.dtx_galois.specs.Field.{value, sums}
use Rattle.dtx_laws.proofs.correcting.syndromes.value_of_sum.Given as goal

abbrev pub invariant-loop-i : goal.invariant-loop-i
invariant-loop-i l = l.sum.0 ≡ value (take l.i (sums l.fn.word l.fn.other)) l.at.0
