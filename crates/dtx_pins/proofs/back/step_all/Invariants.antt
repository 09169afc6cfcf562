use Rattle.dtx_pins.specs.Walks.{sums_of}
use Rattle.dtx_pins.proofs.PinnedWalks.{AreStepped}
use Rattle.dtx_pins.proofs.back.step_all.Given as goal

abbrev pub invariant-loop-e : goal.invariant-loop-e
invariant-loop-e l = AreStepped l.weights.scale l.symbols l.pins l.e (sums_of l.fn.sums) (sums_of l.sums) l.marks
