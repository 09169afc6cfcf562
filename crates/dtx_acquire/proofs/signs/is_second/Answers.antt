use Rattle.std.proofs.Common.{ap, leb}
use Rattle.dtx_acquire.specs.Agreement.{is_second}
use Rattle.dtx_acquire.proofs.Windows.{middle_unlike}
use Rattle.dtx_acquire.proofs.signs.is_second.Goals as goal

pub returns : goal.returns
unfolding is_second
returns c =
    ap (leb 32) (middle_unlike c.args.segment.now c.pack-word.result c.told-segment c.pack-word.ensures)
