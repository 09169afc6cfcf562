use Rattle.std.proofs.Common.{ap₂, ◌∙◌}
use Rattle.dtx_frame.specs.Segments.{field_sync}
use Rattle.dtx_acquire.specs.Acquired.{restored_sync}
use Rattle.dtx_acquire.proofs.restoring.restore_sync.Goals as goal

pub returns : goal.returns
unfolding restored_sync
returns c = c.field_sync.ensures ∙ ap₂ field_sync c.is_second-second.ensures c.last-last.ensures
