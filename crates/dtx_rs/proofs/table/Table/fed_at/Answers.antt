use Rattle.std.proofs.Common.{replicate, arith}
use Rattle.dtx_rs.proofs.Rows.{step_along}
use Rattle.dtx_rs.proofs.table.Table.fed_at.Goals as goal

pub returns : goal.returns
returns c =
    step_along c.args.self.now.divisor (replicate 20 0) c.args.head.now _ _ c.args.at (omega (arith, c.requires.bytes))
    c.requires.before c.fed.ensures
