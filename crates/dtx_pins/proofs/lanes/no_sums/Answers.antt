use Rattle.std.proofs.Common.{zero, suc, arith}
use Rattle.dtx_pins.proofs.lanes.no_sums.Goals as goal

pub returns : goal.returns
returns c e zero s l f m = c.no_lanes.ensures e s l m
returns c e (suc zero) s l f m = c.no_lanes-2.ensures e s l m
returns c e (suc (suc p)) s l f m = absurd (omega arith)
