use Rattle.std.proofs.Common.{◌≡◌, ◌++◌, option_map}
use Rattle.dtx_watch.specs.Step.{group_at_hand, order_of, earliest, stamped_in, notes_in, lock_notes}
use Rattle.dtx_watch.proofs.watcher.Watcher.tell_group.Given as goal

abbrev pub invariant-loop-m : goal.invariant-loop-m
invariant-loop-m l = record {
  told : l.notes.items ≡ lock_notes l.fn.self ++ notes_in (group_at_hand l.fn.self l.expected) l.m;
  latest : l.self ≡ record l.fn.self { latest = stamped_in (group_at_hand l.fn.self l.expected) l.m };
  order : l.order ≡ option_map (λ o. o.states) (earliest (order_of (group_at_hand l.fn.self l.expected)) l.m);
}
