use Rattle.std.proofs.Common.{◌≡◌, ◌+◌, [], rules, Ok, Err, length, ap, sym, ◌∙◌, arith}
use Rattle.std.proofs.lemmas.List.{length_push}
use Rattle.toml.specs.View.{view, table_view, items_view}
use Rattle.dtx_plan.specs.Rows.{entries}
use Rattle.dtx_plan.specs.NetTable.{events_of}
use Rattle.dtx_plan.specs.EventTable.{event_after, event_at}
use Rattle.dtx_plan.proofs.Entries.{entries_next, entries_refused, entries_end}
use Rattle.dtx_plan.proofs.event_table.events.Goals as goal

pub loop-value-preserved : goal.loop-value-preserved
loop-value-preserved c =
    let ts = c.args.transmitters.now in
    let all = c.loop-value.all.items in
    let value = c.value-item.result in
    let next = c.in_ok-next.next in
    let old = c.loop-value.invariant in
    let number : length all ≡ c.len.result = omega arith in
    let read : event_after ts all (view value) ≡ Ok next =
    ap (λ n. event_at ts n (view value)) number ∙ sym c.in_ok-next.ensures in
    record {
      count = rw c.in_ok-push.ensures.items (length_push all next ∙ ap (λ n. n + 1) old.count);
      same = rw c.in_ok-push.ensures.items (entries_next (event_after ts) all c.in_ok-values.values.now
          c.loop-value.value-index value next c.loop-value-test.true c.value-item.is read ∙ old.same);
    }

pub returns-in_err-next : goal.returns-in_err-next
returns-in_err-next c =
    let told : events_of c.args.transmitters.now (table_view c.args.net.now)
    ≡ entries (event_after c.args.transmitters.now) [] (items_view c.in_ok-values.values.now) = search rules in
    let ts = c.args.transmitters.now in
    let all = c.loop-value.all.items in
    let value = c.value-item.result in
    let refusal = c.in_err-next.field-0.0 in
    let number : length all ≡ c.len.result = omega arith in
    let refused : event_after ts all (view value) ≡ Err refusal =
    ap (λ n. event_at ts n (view value)) number ∙ sym c.in_err-next.ensures in
    let all_refused : events_of c.args.transmitters.now (table_view c.args.net.now) ≡ Err refusal =
    told ∙ sym c.loop-value.invariant.same
    ∙ entries_refused (event_after ts) all c.in_ok-values.values.now c.loop-value.value-index value refusal
    c.loop-value-test.true c.value-item.is refused in
    search (rules, all_refused)

pub returns : goal.returns
returns c =
    let told : events_of c.args.transmitters.now (table_view c.args.net.now)
    ≡ entries (event_after c.args.transmitters.now) [] (items_view c.in_ok-values.values.now) = search rules in
    told ∙ sym c.loop-value.invariant.same
    ∙ entries_end (event_after c.args.transmitters.now) c.loop-value.all.items c.in_ok-values.values.now
    c.loop-value.value-index c.loop-value-test.false
