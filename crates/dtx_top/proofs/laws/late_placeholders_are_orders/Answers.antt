use Rattle.std.proofs.Common.{◌-◌, ◌*◌, ◌/◌, ◌%◌, ◌≤◌, sym, ap, ◌∙◌, arith}
use Rattle.std.specs.Prelude.{is_some}
use Rattle.dtx_adapter.specs.Feed.{feed}
use Rattle.dtx_exciter.specs.Order.{counting_order}
use Rattle.dtx_exciter.specs.Packets.{readings}
use Rattle.dtx_exciter.proofs.UnderLemmas.{said_drop}
use Rattle.dtx_top.proofs.LateOrders.{held_order, order_from}
use Rattle.dtx_top.proofs.laws.late_placeholders_are_orders.Goals as goal

pub returns-clause-late : goal.returns-clause-late
returns-clause-late c = λ k far.
    let behind = c.groups_begin_late.ensures.late k far in omega (arith, behind)

pub returns-clause-order : goal.returns-clause-order
returns-clause-order c = λ plan stream k p s far placeholder.
    let found = c.orders_of_a_feed.ensures.some plan stream (4 * (k / 4)) p s (omega (arith, far)) (omega arith)
    (c.orders_of_a_feed.ensures.placeholders plan stream (4 * (k / 4)) p s ∙ held_order stream k placeholder) in
    ap is_some found.1

pub returns-clause-later : goal.returns-clause-later
returns-clause-later c = λ plan stream k mark p s far placeholder marked up.
    let group = 4 * (k / 4) in
    let late : 52 ≤ group % 312 = c.groups_begin_late.ensures.late k far in
    let ordered = returns-clause-order c plan stream k p s far placeholder in
    ap (λ said. is_some (counting_order said (group - mark))) (sym (said_drop mark (feed plan stream)))
    ∙ ap is_some (order_from (readings (feed plan stream)) mark (group - mark) group marked
    (omega (arith, late, marked, up)) (omega (arith, marked)) (omega (arith, marked, up)))
    ∙ ordered
