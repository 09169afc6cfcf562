use Rattle.std.proofs.Common.{◌≡◌}
use Rattle.dtx_dvb.specs.Randomizer.{sequence}
use Rattle.dtx_dvb.proofs.randomizer.period_bits.Given as goal

abbrev pub invariant-loop-t : goal.invariant-loop-t
invariant-loop-t l = l.bits.items ≡ sequence l.t
