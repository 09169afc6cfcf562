use Rattle.std.proofs.Common.{◌≡◌, map}
use Rattle.toml.specs.View.{members_view}
use Rattle.dtx_plan.specs.Rows.{known}
use Rattle.dtx_plan.proofs.rows.known.Given as goal

abbrev pub invariant-loop-name : goal.invariant-loop-name
invariant-loop-name l =
    (goal.iterator-loop-name).can_next l.name-iterator ×
    (goal.iterator-loop-name).is_finite l.name-iterator ×
    (known (map (λ n. n.now) l.names) (members_view l.name-iterator) l.key l.item
    ≡ known (map (λ n. n.now) l.names) (members_view l.table.entries) l.key l.item)
