use Rattle.dtx_spread.proofs.Shuffling.{two_rows}
use Rattle.dtx_spread.proofs.tiles.shuffled.Goals as goal

pub loop-i-preserved : goal.loop-i-preserved
loop-i-preserved c =
    two_rows c.loop-i.i c.args.tile.now c.loop-i.rows c.low.result c.high.result c.loop-i-test.true c.loop-i.invariant
    c.low.ensures.long c.high.ensures.long c.low.ensures.low c.high.ensures.high
