use Rattle.std.proofs.Common.{◌+◌, sym, ◌∙◌}
use Rattle.dtx_exciter.specs.Step.{order_in}
use Rattle.dtx_exciter.proofs.GroupOrder.{order_is, first_some, first_none}
use Rattle.dtx_exciter.proofs.orders.order_in.Goals as goal

pub returns-in-Some-clause-order : goal.returns-in-Some-clause-order
unfolding order_in
returns-in-Some-clause-order c =
    first_some c.in-Some.ops _ _
    (sym (order_is c.args.packets.now c.args.first 0 c.order_of.result c.order_of.ensures.order) ∙ c.in-Some.is)

pub returns-in-Some-order_of-clause-order : goal.returns-in-Some-order_of-clause-order
unfolding order_in
returns-in-Some-order_of-clause-order c =
    first_none _ _ _ (sym (order_is c.args.packets.now c.args.first 0 c.order_of.result c.order_of.ensures.order)
    ∙ c.in-None.is)
    (first_some c.in-Some-order_of.ops _ _
    (sym (order_is c.args.packets.now (c.args.first + 1) 1 c.order_of-in-None.result c.order_of-in-None.ensures.order)
    ∙ c.in-Some-order_of.is))

pub returns-in-Some-order_of-2-clause-order : goal.returns-in-Some-order_of-2-clause-order
unfolding order_in
returns-in-Some-order_of-2-clause-order c =
    first_none _ _ _ (sym (order_is c.args.packets.now c.args.first 0 c.order_of.result c.order_of.ensures.order)
    ∙ c.in-None.is)
    (first_none _ _ _
    (sym (order_is c.args.packets.now (c.args.first + 1) 1 c.order_of-in-None.result c.order_of-in-None.ensures.order)
    ∙ c.in-None-order_of.is)
    (first_some c.in-Some-order_of-2.ops _ _
    (sym (order_is c.args.packets.now (c.args.first + 2) 2 c.order_of-in-None-order_of.result
    c.order_of-in-None-order_of.ensures.order) ∙ c.in-Some-order_of-2.is)))

pub returns-in-None-order_of-2-clause-order : goal.returns-in-None-order_of-2-clause-order
unfolding order_in
returns-in-None-order_of-2-clause-order c =
    first_none _ _ _ (sym (order_is c.args.packets.now c.args.first 0 c.order_of.result c.order_of.ensures.order)
    ∙ c.in-None.is)
    (first_none _ _ _
    (sym (order_is c.args.packets.now (c.args.first + 1) 1 c.order_of-in-None.result c.order_of-in-None.ensures.order)
    ∙ c.in-None-order_of.is)
    (first_none _ _ _
    (sym (order_is c.args.packets.now (c.args.first + 2) 2 c.order_of-in-None-order_of.result
    c.order_of-in-None-order_of.ensures.order) ∙ c.in-None-order_of-2.is)
    (order_is c.args.packets.now (c.args.first + 3) 3 c.order_of-in-None-order_of-2.result
    c.order_of-in-None-order_of-2.ensures.order)))
