use Rattle.std.proofs.Common.{◌+◌, ◌-◌, ◌*◌, arith}
use Rattle.dtx_slice.specs.Slicing.{sliced_data}
use Rattle.dtx_slice.proofs.Slices.{placed_small}
use Rattle.dtx_slice.proofs.slicing.put_levels.Goals as goal

pub returns-clause-small : goal.returns-clause-small
unfolding sliced_data
returns-clause-small c =
    placed_small (828 * c.args.at) (828 * c.args.at + 828 - 828 * c.args.at) c.args.segment.now c.args.group.now
    c.slice_data.new.out (omega (arith, c.requires, c.told-group)) c.slice_data.ensures
