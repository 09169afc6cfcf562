use Rattle.std.proofs.Common.{arith}
use Rattle.dtx_engine.proofs.carrying.with_room.Goals as goal

pub returns : goal.returns
returns g c = grind arith
