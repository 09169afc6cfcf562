use Rattle.std.proofs.Common.{◌≡◌, drop, length, []}
use Rattle.toml.specs.View.{items_view}
use Rattle.dtx_plan.specs.Rows.{entries}
use Rattle.dtx_plan.specs.EventTable.{event_after}
use Rattle.dtx_plan.proofs.event_table.events.Given as goal

abbrev pub invariant-loop-value : goal.invariant-loop-value
invariant-loop-value l = record {
  count : length l.all.items ≡ l.value-index;
  same : entries (event_after l.transmitters) l.all.items (items_view (drop l.value-index l.values))
      ≡ entries (event_after l.transmitters) [] (items_view l.values);
}
