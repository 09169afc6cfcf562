use Rattle.std.proofs.Common.{◌∙◌, [], ◌∷◌, ap, arith}
use Rattle.std.specs.Prelude.{Err}
use Rattle.std.proofs.lemmas.Result.{err_from_is_err_and}
use Rattle.dtx_engine.proofs.Outlets.{all_unput, one_unwritten}
use Rattle.dtx_engine.proofs.Nearly.{whole_one}
use Rattle.dtx_engine.proofs.outlet.OneOutputOutlet.flush.Goals as goal

pub returns-in_err-flush-clause-flushed : goal.returns-in_err-flush-clause-flushed
returns-in_err-flush-clause-flushed g c = λ start given held.
    let name = c.args.self.now.name.now in
    let now = g.S.Shelf.files c.flush.new.shelf in
    let p = err_from_is_err_and c.from_residual.result c.from_residual.ensures.1 in
    all_unput (name ∷ []) start given c.in_err-flush.field-0.0 c.from_residual.result now (p.1 ∙ ap Err p.2)
    (one_unwritten name start given now (c.in_err-flush.ensures.flushed start given.first held))

pub returns-clause-nearly : goal.returns-clause-nearly
returns-clause-nearly g c = grind (arith, whole_one, c.in_ok-flush.ensures.flushed)
