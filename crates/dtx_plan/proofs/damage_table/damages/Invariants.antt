use Rattle.std.proofs.Common.{◌≡◌, drop, length, []}
use Rattle.toml.specs.View.{items_view}
use Rattle.dtx_plan.specs.Rows.{entries}
use Rattle.dtx_plan.specs.DamageTable.{damage, last_end}
use Rattle.dtx_plan.proofs.damage_table.damages.Given as goal

abbrev pub invariant-loop-value : goal.invariant-loop-value
invariant-loop-value l = record {
  count : length l.all.items ≡ l.value-index;
  end : last_end l.all.items ≡ l.end;
  same : entries damage l.all.items (items_view (drop l.value-index l.values))
      ≡ entries damage [] (items_view l.values);
}
