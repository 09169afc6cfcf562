use Rattle.std.proofs.Common.{◌≡◌, ◌-◌, ◌++◌, replicate}
use Rattle.dtx_galois.specs.Field.{pow}
use Rattle.dtx_laws.specs.Register.{generator}
use Rattle.dtx_rs.proofs.divisor.divisor_of.Given as goal

abbrev pub invariant-loop-degree : goal.invariant-loop-degree
invariant-loop-degree l = record {
  divisor : l.divisor ≡ generator l.degree ++ replicate (256 - l.degree) 0;
  root : l.root.0 ≡ pow 2 l.degree;
}
