use Rattle.dtx_top.proofs.NetProgresses.{file_untouched}
use Rattle.dtx_top.proofs.net_command.net_file.Goals as goal

pub returns-in-Err-clause-progress : goal.returns-in-Err-clause-progress
returns-in-Err-clause-progress g c =
    file_untouched c.args.name.now _ (g.S.Shelf.files c.args.shelf.now) (g.S.Shelf.files c.plan_in.new.shelf)
    c.plan_in.ensures.kept

pub returns-in-Ok-clause-stages : goal.returns-in-Ok-clause-stages
returns-in-Ok-clause-stages g c = λ none. absurd (c.in-Ok.ensures.foreseen none)
