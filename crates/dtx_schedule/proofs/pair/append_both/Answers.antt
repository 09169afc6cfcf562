use Rattle.std.proofs.Common.{sym, ap, subst, ◌∙◌, arith}
use Rattle.std.specs.Prelude.{Err}
use Rattle.std.proofs.lemmas.Result.{err_from_is_err_and}
use Rattle.dtx_schedule.specs.Playout.{IsPairOf}
use Rattle.dtx_schedule.proofs.PairLeft.{symbols_not_appended, both_appended}
use Rattle.dtx_schedule.proofs.pair.append_both.Goals as goal

pub returns-in_err-append_some-clause-appended : goal.returns-in_err-append_some-clause-appended
returns-in_err-append_some-clause-appended g c = λ address sent logged held named there has.
    let now = g.S.Shelf.files c.append_some.new.shelf in
    let why = c.in_err-append_some.field-0.0 in
    let p = err_from_is_err_and c.from_residual.result c.from_residual.ensures.1 in
    subst (λ r. IsPairOf address sent logged c.args.symbols.now c.args.line.now held r now) (sym (p.1 ∙ ap Err p.2))
    (symbols_not_appended address sent logged c.args.symbols.now c.args.line.now held now why why has (grind arith))

pub returns-clause-appended : goal.returns-clause-appended
returns-clause-appended g c = grind (arith, both_appended)
