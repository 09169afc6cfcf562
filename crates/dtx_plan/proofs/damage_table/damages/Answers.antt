use Rattle.std.proofs.Common.{◌≡◌, ◌+◌, [], rules, Ok, Err, length, ap, sym, ◌∙◌, arith}
use Rattle.std.proofs.lemmas.List.{length_push}
use Rattle.std.proofs.lemmas.List.Sums.{fold_push}
use Rattle.toml.specs.View.{view, table_view, items_view}
use Rattle.dtx_plan.specs.declared.damage.Damage.{Damage}
use Rattle.dtx_plan.specs.Rows.{entries}
use Rattle.dtx_plan.specs.NetTable.{damage_of}
use Rattle.dtx_plan.specs.DamageTable.{damage, damage_from}
use Rattle.dtx_plan.proofs.SoundDamage.{damage_is}
use Rattle.dtx_plan.proofs.Entries.{entries_next, entries_refused, entries_end}
use Rattle.dtx_plan.proofs.damage_table.damages.Goals as goal

pub overflow_add-end : goal.overflow_add-end
overflow_add-end c =
    let is = damage_is c.loop-value.end c.len.result (view c.value-item.result) c.in_ok-next.next
    (sym c.in_ok-next.ensures) in
    omega (arith, is.start, is.most)

pub loop-value-preserved : goal.loop-value-preserved
loop-value-preserved c =
    let all = c.loop-value.all.items in
    let value = c.value-item.result in
    let next = c.in_ok-next.next in
    let old = c.loop-value.invariant in
    let number : length all ≡ c.len.result = omega arith in
    let read : damage all (view value) ≡ Ok next =
    ap (λ n. damage_from n (length all) (view value)) old.end
    ∙ ap (λ n. damage_from c.loop-value.end n (view value)) number ∙ sym c.in_ok-next.ensures in
    record {
      count = rw c.in_ok-push.ensures.items (length_push all next ∙ ap (λ n. n + 1) old.count);
      end = rw c.in_ok-push.ensures.items (fold_push (λ _ (d : Damage). d.at + d.count) 0 all next);
      same = rw c.in_ok-push.ensures.items (entries_next damage all c.in_ok-values.values.now c.loop-value.value-index
          value next c.loop-value-test.true c.value-item.is read ∙ old.same);
    }

pub returns-in_err-next : goal.returns-in_err-next
returns-in_err-next c =
    let told : damage_of (table_view c.args.entry.now) ≡ entries damage [] (items_view c.in_ok-values.values.now) =
    search rules in
    let all = c.loop-value.all.items in
    let value = c.value-item.result in
    let refusal = c.in_err-next.field-0.0 in
    let number : length all ≡ c.len.result = omega arith in
    let refused : damage all (view value) ≡ Err refusal =
    ap (λ n. damage_from n (length all) (view value)) c.loop-value.invariant.end
    ∙ ap (λ n. damage_from c.loop-value.end n (view value)) number ∙ sym c.in_err-next.ensures in
    let all_refused : damage_of (table_view c.args.entry.now) ≡ Err refusal =
    told ∙ sym c.loop-value.invariant.same ∙ entries_refused damage all c.in_ok-values.values.now
    c.loop-value.value-index value refusal c.loop-value-test.true c.value-item.is refused in
    search (rules, all_refused)

pub returns : goal.returns
returns c =
    let told : damage_of (table_view c.args.entry.now) ≡ entries damage [] (items_view c.in_ok-values.values.now) =
    search rules in
    told ∙ sym c.loop-value.invariant.same
    ∙ entries_end damage c.loop-value.all.items c.in_ok-values.values.now c.loop-value.value-index
    c.loop-value-test.false
