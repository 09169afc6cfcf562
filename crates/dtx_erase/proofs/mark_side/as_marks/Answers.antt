use Rattle.std.proofs.Common.{pos, arith}
use Rattle.dtx_erase.specs.Marks.{shown}
use Rattle.dtx_erase.proofs.Mendings.{map_by}
use Rattle.dtx_erase.proofs.mark_side.as_marks.Goals as goal

pub returns : goal.returns
returns c = map_by shown 832 c.args.segment.now c.loop-i.marks (pos 0) (pos 0) c.told-segment c.loop-i.invariant.long
    (λ j l. c.loop-i.invariant.done j (omega (arith, l, c.loop-i-test.false)))
