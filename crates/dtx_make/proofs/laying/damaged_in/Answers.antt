use Rattle.std.proofs.Common.{◌≡◌, ℕ, ◌+◌, ◌-◌, ◌<◌, Some, List, slice_get, ◌∷◌, [], sym, ◌∙◌, ap, ap₂, take, length}
use Rattle.std.proofs.Common.{arith}
use Rattle.std.proofs.lemmas.Option.{get_or_from_slice_get}
use Rattle.dtx_plan.specs.declared.damage.Damage.{Damage}
use Rattle.dtx_make.specs.Hurt.{AreInOrder, IsCovered, damaged_from}
use Rattle.dtx_make.proofs.EntriesLemmas.{entry_at_before, entry_at_behind}
use Rattle.dtx_make.proofs.DamagedPlacesLemmas.{damaged_from_none, damaged_from_same, damaged_from_more}
use Rattle.dtx_make.proofs.DamagedPlacesLemmas.{damaged_from_one, damaged_from-le-count}
use Rattle.dtx_make.proofs.laying.damaged_in.Goals as goal

one_more : (ds : List Damage) (e : Damage) (i place n before from to : ℕ) → AreInOrder ds → i < length ds
    → slice_get ds i ≡ Some e
    → before ≡ damaged_from (take i ds) place n → IsCovered e place (place + n) from to
    → before + (to - from) ≡ damaged_from (take (i + 1) ds) place n
one_more ds e i place n before from to o l is so_far c =
    ap₂ (λ (x y : ℕ). x + y) so_far (sym (damaged_from_one e place n from to c)
    ∙ ap (λ d. damaged_from (d ∷ []) place n) (sym (get_or_from_slice_get ds i e e is)))
    ∙ sym (damaged_from_more ds e i place n o l)

pub loop-i-init : goal.loop-i-init
loop-i-init c =
    let first = c.first_behind-i.ensures in
    record {
      within = first.within;
      damaged = sym (damaged_from_none (take c.first_behind-i.result c.args.damage.now) c.args.place c.args.count
          (λ k l m. entry_at_before c.args.damage.now c.first_behind-i.result c.args.place k first.within first.before
          l));
    }

pub overflow_add-damaged : goal.overflow_add-damaged
overflow_add-damaged c =
    let entry = c.get-entry.result in
    let more = one_more c.args.damage.now entry c.loop-i.i c.args.place c.args.count c.loop-i.damaged _ _
    c.requires.in_order (omega arith) c.get-entry.ensures c.loop-i.invariant.damaged c.covered-from.ensures in
    omega (arith, more, damaged_from-le-count (take (c.loop-i.i + 1) c.args.damage.now) c.args.place c.args.count)

pub loop-i-preserved : goal.loop-i-preserved
loop-i-preserved c = record {
  within = omega arith;
  damaged = one_more c.args.damage.now c.get-entry.result c.loop-i.i c.args.place c.args.count c.loop-i.damaged _ _
      c.requires.in_order (omega arith) c.get-entry.ensures c.loop-i.invariant.damaged c.covered-from.ensures;
}

pub returns-then-entry-end : goal.returns-then-entry-end
returns-then-entry-end c =
    c.loop-i.invariant.damaged
    ∙ sym (damaged_from_same c.args.damage.now (take c.loop-i.i c.args.damage.now) c.args.place c.args.count
    (λ k l m. entry_at_behind c.args.damage.now c.get-entry.result c.loop-i.i
    (c.args.place + c.args.count) k c.requires.in_order c.get-entry.ensures (omega arith) m))
