use Rattle.std.proofs.Common.{sym}
use Rattle.dtx_top.specs.Ends.{HasHeadlineOf}
use Rattle.dtx_top.specs.Jobs.{means_of}
use Rattle.dtx_top.proofs.ByWords.{words_told}
use Rattle.dtx_top.proofs.Ending.{all_done_then, done_told, ended_of, unprinted_told}
use Rattle.dtx_top.proofs.LineLeft.{line_told, line_untold}
use Rattle.dtx_top.proofs.NetProgresses.{progress_told}
use Rattle.dtx_top.proofs.Stages.{stages_told}
use Rattle.dtx_top.proofs.top.run.Goals as goal

pub returns-clause-carried : goal.returns-clause-carried
returns-clause-carried g c =
    rw (c.finish.ensures, ← c.command-command.ensures)
    (done_told (means_of c.command-command.result c.args.words.now) _ _ _ _ _ _
    c.perform-performed.ensures.performed.carried
    c.line-printed.ensures.gone)

pub returns-clause-line : goal.returns-clause-line
returns-clause-line g c = rw (c.finish.ensures, ← c.command-command.ensures)
    (line_told c.command-command.result c.args.words.now _ _ _ _ _ _ _ _ _ c.perform-performed.ensures.performed.carried
    c.perform-performed.ensures.performed.name
    (rw (← c.name_of-name.ensures) c.line-printed.ensures.written) c.line-printed.ensures.gone)

pub returns-clause-untold_line : goal.returns-clause-untold_line
returns-clause-untold_line g c = rw (c.finish.ensures, ← c.command-command.ensures)
    (line_untold c.command-command.result c.args.words.now c.perform-performed.result.outcome
    c.perform-performed.result.name.bytes _ _ _ _ _ c.perform-performed.ensures.performed.untold_name
    c.perform-performed.ensures.performed.answer c.perform-performed.ensures.performed.shown
    (rw (← c.name_of-name.ensures) c.line-printed.ensures.written) c.line-printed.ensures.gone)

pub returns-clause-headline : goal.returns-clause-headline
returns-clause-headline g c = rw (c.finish.ensures, ← c.command-command.ensures)
    (all_done_then (λ held. HasHeadlineOf c.command-command.result c.args.words.now held _) _ _ _ _ _
    c.perform-performed.ensures.performed.gone c.perform-performed.ensures.performed.headline)

pub returns-clause-gone : goal.returns-clause-gone
returns-clause-gone g c = rw c.finish.ensures
    (ended_of _ _ _ _ _ _ c.perform-performed.ensures.performed.gone c.line-printed.ensures.gone)

pub returns-clause-unprinted : goal.returns-clause-unprinted
returns-clause-unprinted g c = rw (c.finish.ensures, ← c.command-command.ensures)
    (unprinted_told (means_of c.command-command.result c.args.words.now) _ _ _ _ _ _ _ _
    c.perform-performed.ensures.performed.carried c.perform-performed.ensures.performed.gone
    c.line-printed.ensures.gone)

pub returns-clause-words : goal.returns-clause-words
returns-clause-words g c = rw (c.finish.ensures, ← c.command-command.ensures)
    (words_told c.command-command.result c.args.words.now _ _ (sym c.command-command.ensures)
    c.perform-performed.ensures.performed.answer)

pub returns-clause-progress : goal.returns-clause-progress
returns-clause-progress g c = rw (c.finish.ensures, ← c.command-command.ensures)
    (progress_told c.command-command.result c.args.words.now _ _ _ _ c.perform-performed.ensures.performed.progress)

pub returns-clause-stages : goal.returns-clause-stages
returns-clause-stages g c = rw (c.finish.ensures, ← c.command-command.ensures)
    (stages_told g.S.Shelf.foreseen c.command-command.result c.args.words.now _ _ _ _ _ _
    c.perform-performed.ensures.stages)
