use Rattle.std.proofs.Common.{rules}
use Rattle.dtx_fast.proofs.wrong_byte.one_gives.Goals as goal

pub loop-i-preserved : goal.loop-i-preserved
loop-i-preserved c = search rules
