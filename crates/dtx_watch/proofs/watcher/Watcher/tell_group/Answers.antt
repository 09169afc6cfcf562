use Rattle.std.proofs.Common.{◌≡◌, ◌++◌, ◌+◌, ◌-◌, [], rules, ◌<◌, length, Some, option_map, get_or, sym, ap, ap₂, ◌∙◌}
use Rattle.std.proofs.Common.{arith, append_assoc, append-nil}
use Rattle.dtx_ops.specs.declared.fields.Ops.{Ops}
use Rattle.dtx_ops.specs.Reading.{reading}
use Rattle.dtx_exciter.specs.Order.{either, ordered}
use Rattle.dtx_exciter.specs.Packets.{reads}
use Rattle.dtx_exciter.specs.Step.{bytes_of}
use Rattle.dtx_watch.specs.declared.watcher.Watcher.{Watcher}
use Rattle.dtx_watch.specs.Clock.{stamp_in}
use Rattle.dtx_watch.specs.Notes.{packet_note, one_or_none}
use Rattle.dtx_watch.specs.Step.{Group, group_at_hand, order_of, earliest, stamped_in, note_in, notes_in, lock_notes}
use Rattle.dtx_watch.proofs.GroupsLemmas.{notes_none, notes_more, stamped_none, stamped_more, earliest_more, map_either}
use Rattle.dtx_watch.proofs.Counting.{few_in_all}
use Rattle.dtx_watch.proofs.watcher.Watcher.tell_group.Goals as goal

pub loop-m-init : goal.loop-m-init
loop-m-init c =
    let w : Watcher = c.args.self.now in
    let g : Group = group_at_hand w c.args.expected.now in
    record {
      told = c.tell_lock.ensures ∙ ap (λ ns. ns ++ lock_notes w) c.requires.notes
          ∙ sym (ap (λ ns. lock_notes w ++ ns) (notes_none g) ∙ append-nil (lock_notes w));
      latest = ap (λ s. record w { latest = s }) (sym (stamped_none g));
      order = search rules;
    }

pub tell-states-requires-clause-room : goal.tell-states-requires-clause-room
tell-states-requires-clause-room c =
    let w : Watcher = c.args.self.now in
    let g : Group = group_at_hand w c.args.expected.now in
    let h : length c.loop-m.notes.items < 5 =
    omega (
      arith,
      ap length c.loop-m.invariant.told,
      few_in_all w g c.loop-m.m,
      c.loop-m-test.true,
      c.requires.part,
    ) in
    h

pub loop-m-preserved : goal.loop-m-preserved
unfolding note_in
loop-m-preserved c =
    let w : Watcher = c.args.self.now in
    let e = c.args.expected.now in
    let g : Group = group_at_hand w e in
    let m = c.loop-m.m in
    record {
      told =
          c.tell-states.ensures.told
          ∙ ap₂ ◌++◌ c.loop-m.invariant.told
          (ap (λ (x : Watcher). one_or_none (packet_note (x.count - x.part + m) (Some (x.first + m)) e x.latest
          (reading (get_or (bytes_of x.packets) m [])))) c.loop-m.invariant.latest)
          ∙ append_assoc (lock_notes w) (notes_in g m) (one_or_none (note_in g m))
          ∙ ap (λ ns. lock_notes w ++ ns) (sym (notes_more g m));
      latest =
          c.tell-states.ensures.latest
          ∙ ap (λ (x : Watcher). record x {
            latest = either (option_map stamp_in (ordered (x.first + m)
                (reads (get_or (bytes_of x.packets) m [])))) x.latest;
          }) c.loop-m.invariant.latest
          ∙ ap (λ s. record w { latest = s }) (sym (stamped_more g m));
      order =
          c.first_of-order.ensures
          ∙ ap₂ either c.loop-m.invariant.order
          (c.tell-states.ensures.order
          ∙ ap (λ (x : Watcher). option_map (λ (o : Ops). o.states) (ordered (x.first + m)
          (reads (get_or (bytes_of x.packets) m [])))) c.loop-m.invariant.latest)
          ∙ sym (map_either (λ (o : Ops). o.states) (earliest (order_of g) m) (order_of g m))
          ∙ ap (option_map (λ (o : Ops). o.states)) (sym (earliest_more (order_of g) m));
    }

pub returns-clause-told : goal.returns-clause-told
returns-clause-told c =
    let w : Watcher = c.args.self.now in
    let g : Group = group_at_hand w c.args.expected.now in
    let e : c.loop-m.m ≡ w.part = omega (arith, c.loop-m-test.false, c.loop-m.auto.m-end) in
    c.loop-m.invariant.told ∙ ap (λ n. lock_notes w ++ notes_in g n) e

pub returns-clause-latest : goal.returns-clause-latest
returns-clause-latest c =
    let w : Watcher = c.args.self.now in
    let g : Group = group_at_hand w c.args.expected.now in
    let e : c.loop-m.m ≡ w.part = omega (arith, c.loop-m-test.false, c.loop-m.auto.m-end) in
    c.loop-m.invariant.latest ∙ ap (λ n. record w { latest = stamped_in g n }) e

pub returns-clause-order : goal.returns-clause-order
returns-clause-order c =
    let w : Watcher = c.args.self.now in
    let g : Group = group_at_hand w c.args.expected.now in
    let e : c.loop-m.m ≡ w.part = omega (arith, c.loop-m-test.false, c.loop-m.auto.m-end) in
    c.loop-m.invariant.order ∙ ap (λ n. option_map (λ (o : Ops). o.states) (earliest (order_of g) n)) e
