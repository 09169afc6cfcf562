use Rattle.std.proofs.Common.{arith}
use Rattle.dtx_outer.proofs.Runs.{whole_packets}
use Rattle.dtx_outer.proofs.inner.Inner.new.Goals as goal

pub invariant_of-inner : goal.invariant_of-inner
invariant_of-inner g c = (
  c.requires,
  whole_packets g.row.N g.row.K g.row.B g.W.Whitener.PERIOD (omega (arith, c.known.ensures.some)) c.requires,
)
