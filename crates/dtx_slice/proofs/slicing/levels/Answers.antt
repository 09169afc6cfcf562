use Rattle.std.proofs.Common.{ℕ, ◌<◌, length, get_or, sym, subst, List}
use Rattle.dtx_slice.specs.Slicing.{sliced_data}
use Rattle.dtx_slice.proofs.Slices.{sliced_all_small}
use Rattle.dtx_slice.proofs.slicing.levels.Goals as goal

pub returns-clause-small : goal.returns-clause-small
unfolding sliced_data
returns-clause-small c =
    rw c.slice_data.ensures (sliced_all_small 4 c.args.segment.now)
