use Rattle.std.proofs.Common.{◌≡◌, drop, length, []}
use Rattle.toml.specs.View.{items_view}
use Rattle.dtx_plan.specs.Rows.{entries}
use Rattle.dtx_plan.specs.TransmitterTable.{transmitter}
use Rattle.dtx_plan.proofs.transmitter_table.transmitters.Given as goal

abbrev pub invariant-loop-value : goal.invariant-loop-value
invariant-loop-value l = record {
  count : length l.found ≡ l.value-index;
  same : entries transmitter l.found (items_view (drop l.value-index l.values))
      ≡ entries transmitter [] (items_view l.values);
}
