use Rattle.std.proofs.Common.{Err, ap, sym, ◌∙◌, arith, rules}
use Rattle.toml.specs.View.{table_view}
use Rattle.dtx_plan.proofs.Documents.{root_of-read, root_of-refused}
use Rattle.dtx_plan.proofs.read.root.Goals as goal

pub returns-in-Ok : goal.returns-in-Ok
returns-in-Ok c =
    root_of-read c.args.bytes.now (table_view c.in-Ok.root) (omega arith) c.in-Ok.ensures.ok.0 c.in-Ok.ensures.ok.1

pub returns-in-Err-2 : goal.returns-in-Err-2
returns-in-Err-2 c =
    root_of-refused c.args.bytes.now (omega arith)
    (c.in-Err.ensures.refused (search (rules, c.is_memory.ensures, c.if-is_memory.false)))
    ∙ ap Err (sym c.new-in-Err-2.ensures)
