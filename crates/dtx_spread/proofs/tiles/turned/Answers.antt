use Rattle.dtx_spread.proofs.Shuffling.{turned_at}
use Rattle.dtx_spread.proofs.tiles.turned.Goals as goal

pub returns-clause-turned : goal.returns-clause-turned
returns-clause-turned c =
    turned_at c.args.tile.now c.shuffled.result c.shuffled-2.result c.shuffled-3.result c.shuffled-4.result
    c.shuffled.ensures.shuffled c.shuffled-2.ensures.shuffled c.shuffled-3.ensures.shuffled
    c.shuffled-4.ensures.shuffled
