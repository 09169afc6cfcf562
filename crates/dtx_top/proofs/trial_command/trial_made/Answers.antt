use Rattle.std.proofs.Common.{refl}
use Rattle.dtx_meaning.specs.declared.status.Status.TheVariants.{Memory}
use Rattle.dtx_top.proofs.Trials.{wanting_come}
use Rattle.dtx_top.proofs.trial_command.trial_made.Goals as goal

pub returns-in-Err-clause-progress : goal.returns-in-Err-clause-progress
returns-in-Err-clause-progress g c =
    rw (c.ended.ensures, c.from.ensures) (wanting_come c.args.seed c.args.count (g.S.Shelf.files c.args.shelf.now) _
    Memory refl tt)
