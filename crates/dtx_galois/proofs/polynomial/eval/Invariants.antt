use Rattle.std.proofs.Common.{◌≡◌, take}
use Rattle.dtx_galois.specs.Field.{value}
use Rattle.dtx_galois.proofs.polynomial.eval.Given as goal

abbrev pub invariant-loop-byte : goal.invariant-loop-byte
invariant-loop-byte l = l.sum.0 ≡ value (take l.byte-index l.word) l.at.0
