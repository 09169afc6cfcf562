use Rattle.std.proofs.Common.{rules}
use Rattle.dtx_plan.specs.DamageTable.{damage_from}
use Rattle.dtx_plan.proofs.damage_table.damage.Goals as goal

pub returns-then-at-end : goal.returns-then-at-end
unfolding damage_from
returns-then-at-end c = search rules
