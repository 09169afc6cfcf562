use Rattle.std.proofs.Common.{rules}
use Rattle.dtx_slice.proofs.walk.laid_out.Goals as goal

pub loop-p-preserved : goal.loop-p-preserved
loop-p-preserved c = search rules
