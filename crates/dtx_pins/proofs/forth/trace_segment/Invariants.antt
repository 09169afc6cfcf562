use Rattle.dtx_pins.specs.Trace.{AreTraced}
use Rattle.dtx_pins.proofs.forth.trace_segment.Given as goal

abbrev pub invariant-loop-r : goal.invariant-loop-r
invariant-loop-r l = AreTraced l.scale l.turn l.r l.marks l.heard l.path l.fn.stands l.stands
