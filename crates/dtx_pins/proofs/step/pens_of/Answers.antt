use Rattle.dtx_pins.proofs.PinnedSteps.{first_pens, second_pens}
use Rattle.dtx_pins.proofs.step.pens_of.Goals as goal

pub returns-clause-first : goal.returns-clause-first
returns-clause-first c =
    (first_pens c.args.pin c.pen_of_all-all.result c.pen_by-first.result c.pen_of_all-all.ensures
    c.pen_by-first.ensures.pen).0

pub returns-clause-second : goal.returns-clause-second
returns-clause-second c =
    (first_pens c.args.pin c.pen_of_all-all.result c.pen_by-first.result c.pen_of_all-all.ensures
    c.pen_by-first.ensures.pen).1

pub returns-clause-near : goal.returns-clause-near
returns-clause-near c =
    (second_pens c.args.pin c.pen_of_all-all.result c.pen_by-near.result c.pen_of_all-all.ensures
    c.pen_by-near.ensures.pen).0

pub returns-clause-far : goal.returns-clause-far
returns-clause-far c =
    (second_pens c.args.pin c.pen_of_all-all.result c.pen_by-near.result c.pen_of_all-all.ensures
    c.pen_by-near.ensures.pen).1
