use Rattle.std.proofs.Common.{arith}
use Rattle.dtx_slice.specs.Slicing.{sliced_data}
use Rattle.dtx_slice.proofs.Slices.{sliced_from}
use Rattle.dtx_slice.proofs.slicing.slice_data.Goals as goal

pub returns : goal.returns
unfolding sliced_data
returns c =
    sliced_from 4 828 c.args.segment.now c.slice_vector-2.new.out c.told-segment c.slice_vector-2.ensures.long
    (c.slice_vector-2.ensures.levels
    (λ k l. c.loop-part.invariant.written k (omega (arith, c.loop-part-test.false))))
