use Rattle.std.proofs.Common.{leb, ap}
use Rattle.dtx_frame.specs.Detection.{looks_like}
use Rattle.dtx_frame.proofs.detection.looks.Goals as goal

pub returns : goal.returns
unfolding looks_like
returns c = ap (λ n. leb n 32) c.differing.ensures
