use Rattle.std.proofs.Common.{leb, ap}
use Rattle.dtx_frame.specs.Detection.{looks_second}
use Rattle.dtx_frame.proofs.detection.is_second.Goals as goal

pub returns : goal.returns
unfolding looks_second
returns c = ap (λ n. leb 32 n) c.opposites.ensures
