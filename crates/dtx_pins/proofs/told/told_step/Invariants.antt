use Rattle.dtx_pins.specs.Told.{lane_at}
use Rattle.dtx_pins.proofs.ToldLanes.{AreLanesAfter}
use Rattle.dtx_pins.proofs.told.told_step.Given as goal

abbrev pub invariant-loop-e : goal.invariant-loop-e
invariant-loop-e l = AreLanesAfter l.scale l.pins l.symbols l.e (lane_at l.fn.told) (lane_at l.told)
