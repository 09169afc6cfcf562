use Rattle.std.proofs.Common.{refl}
use Rattle.dtx_cadence.specs.Anchor.{lock, anchor, anchor_to}
use Rattle.dtx_cadence.proofs.anchor.Anchor.new.Goals as goal

pub returns : goal.returns
unfolding lock anchor anchor_to
returns c = refl
