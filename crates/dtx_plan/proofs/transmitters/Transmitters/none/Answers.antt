use Rattle.dtx_plan.proofs.Places.{none_placed}
use Rattle.std.proofs.Common.{rules}
use Rattle.dtx_plan.proofs.transmitters.Transmitters.none.Goals as goal

pub invariant_of-result : goal.invariant_of-result
invariant_of-result c = none_placed c.new-2.result c.new.result.items c.new-2.ensures.empty (search rules)
