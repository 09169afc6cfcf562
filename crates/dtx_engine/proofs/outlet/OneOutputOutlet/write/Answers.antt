use Rattle.std.proofs.Common.{◌∙◌, [], ◌∷◌, ap}
use Rattle.std.specs.Prelude.{Err}
use Rattle.std.proofs.lemmas.Result.{err_from_is_err_and}
use Rattle.dtx_engine.specs.Made.{both, joined}
use Rattle.dtx_engine.proofs.Outlets.{one_unwritten, put_unwritten}
use Rattle.dtx_engine.proofs.outlet.OneOutputOutlet.write.Goals as goal

pub returns-in_err-write-clause-written : goal.returns-in_err-write-clause-written
returns-in_err-write-clause-written g c = λ start given held.
    let name = c.args.self.now.name.now in
    let made = joined given (both c.args.first.now c.args._second.now) in
    let now = g.S.Shelf.files c.write.new.shelf in
    let p = err_from_is_err_and c.from_residual.result c.from_residual.ensures.1 in
    put_unwritten (name ∷ []) start made c.in_err-write.field-0.0 c.from_residual.result _ now (p.1 ∙ ap Err p.2)
    (one_unwritten name start made now (c.in_err-write.ensures.written start given.first held))
