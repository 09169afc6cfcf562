use Rattle.std.proofs.Common.{refl}
use Rattle.dtx_top.proofs.performing.nameless.Goals as goal

pub returns : goal.returns
returns c = refl
