use Rattle.std.proofs.Common.{drop, length, sym, subst, take_at, rules, ◌≡◌}
use Rattle.dtx_soft.specs.Nearest.{IsTable}
use Rattle.dtx_soft.proofs.table.Table.new.Goals as goal

pub invariant_of-result-clause-right : goal.invariant_of-result-clause-right
invariant_of-result-clause-right c = subst (IsTable c.args.scale) (sym (take_at c.fill.new.rows
    (drop (length c.fill.new.rows) c.in_ok-rows.rows.items) c.in_ok-rows.rows.len whole)) c.fill.ensures
  where
    whole : length c.fill.new.rows ≡ c.in_ok-rows.rows.len
    whole = search rules
