use Rattle.std.proofs.Common.{false, arith}
use Rattle.dtx_erase.specs.Marks.{is_set}
use Rattle.dtx_erase.proofs.Mendings.{map_by}
use Rattle.dtx_erase.proofs.words.marks_of.Goals as goal

pub returns : goal.returns
returns c = map_by is_set 207 c.args.flags.now c.loop-i.marks 0 false c.told-flags c.loop-i.invariant.long
    (λ j l. c.loop-i.invariant.done j (omega (arith, l, c.loop-i-test.false)))
