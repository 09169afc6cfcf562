use Rattle.std.proofs.Common.{◌≡◌, drop}
use Rattle.dtx_ops.specs.Reading.{has_twice}
use Rattle.dtx_ops.proofs.rules.has_twice.Given as goal

abbrev pub invariant-loop-i : goal.invariant-loop-i
invariant-loop-i l = has_twice (drop l.i l.entries) ≡ has_twice l.entries
