use Rattle.std.proofs.Common.{◌∙◌, arith}
use Rattle.dtx_spread.proofs.ShortCalls.{flat_more}
use Rattle.dtx_spread.proofs.few.put_flat.Goals as goal

pub loop-c-preserved : goal.loop-c-preserved
loop-c-preserved c = λ d r l m.
    flat_more c.loop-c.c d r c.loop-c.bytes c.args.tile.now c.loop-c-test.true (c.loop-c.auto.bytes ∙ c.requires.long)
    (c.requires.tile.long c.loop-c.c (omega (arith, c.loop-c-test.true))) c.loop-c.invariant l m
