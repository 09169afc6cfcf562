use Rattle.std.proofs.Common.{◌+◌, ◌/◌, ◌%◌, true, ap, ◌∙◌, arith}
use Rattle.dtx_cadence.specs.Mark.{sync_at, marked}
use Rattle.dtx_clock.specs.Clock.{stamp_of}
use Rattle.dtx_ops.specs.Spelling.{spelling}
use Rattle.dtx_adapter.specs.Filling.{Filling, filled_ops}
use Rattle.dtx_adapter.proofs.MakingLemmas.{at_hand_differ}
use Rattle.dtx_adapter.proofs.filler.Filler.fill.Goals as goal

pub write-requires-clause-differ : goal.write-requires-clause-differ
write-requires-clause-differ c =
    at_hand_differ c.self.inside.entries.items c.self.inside.ops.offsets.items c.self.inside.ops.paging
    c.self.invariant.at_hand c.self.invariant.differ

pub invariant_of-self : goal.invariant_of-self
invariant_of-self c = record {
  start = c.self.invariant.start;
  max_delay = c.self.invariant.max_delay;
  counter = omega arith;
  differ = c.self.invariant.differ;
  paged = c.self.invariant.paged;
  at_hand = c.self.invariant.at_hand;
}

pub returns-clause-filled : goal.returns-clause-filled
unfolding filled_ops spelling
returns-clause-filled c =
    let ops = c.self.inside.ops in
    c.mark.ensures
    ∙ ap (marked c.args.index) c.write.ensures.spelling
    ∙ ap
    (λ stamp. spelling (record ops {
      stamp = stamp;
      frame = c.args.index / 624;
      index = c.args.index % 624;
    }) c.self.inside.counter (sync_at c.args.index))
    c.stamp-self-inside.ensures.stamp
    ∙ ap
    (λ items. spelling (record ops {
      stamp = stamp_of c.self.inside.start (c.args.index / 624);
      frame = c.args.index / 624;
      index = c.args.index % 624;
      offsets = record { items = items };
    }) c.self.inside.counter (sync_at c.args.index))
    c.self.invariant.at_hand
    ∙ ap (λ (filling : Filling). spelling (filled_ops filling c.args.index) filling.counter (sync_at c.args.index))
    c.self.view_is

pub returns-clause-counted : goal.returns-clause-counted
returns-clause-counted c =
    ap (λ (f : Filling). record f { counter = (f.counter + 1) % 16; filled = true }) c.self.view_is
