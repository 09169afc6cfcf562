use Rattle.dtx_slice.proofs.Slices.{level_is}
use Rattle.dtx_slice.proofs.slicing.level.Goals as goal

pub returns-clause-level : goal.returns-clause-level
returns-clause-level c =
    level_is c.args.symbol c.saturating_add.result c.max.result c.ranges.symbol c.saturating_add.ensures
    c.max.ensures.value
