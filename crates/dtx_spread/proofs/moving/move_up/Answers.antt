use Rattle.dtx_spread.proofs.Moves.{all_moved}
use Rattle.dtx_spread.proofs.moving.move_up.Goals as goal

pub returns : goal.returns
returns c = λ k l.
    all_moved c.args.count c.args.items.now c.move_pairs.new.items c.requires.rows c.requires.long
    c.move_pairs.auto.items c.move_pairs.ensures k l
