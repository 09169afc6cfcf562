use Rattle.std.proofs.Common.{◌≡◌, length, replicate, drop}
use Rattle.dtx_laws.specs.Register.{register}
use Rattle.dtx_rs.proofs.register.divide.Given as goal

abbrev pub invariant-loop-byte : goal.invariant-loop-byte
invariant-loop-byte l = register l.divisor l.rest (drop l.byte-index l.head)
    ≡ register l.divisor (replicate (length l.divisor) 0) l.head
