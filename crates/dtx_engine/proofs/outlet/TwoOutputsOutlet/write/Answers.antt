use Rattle.std.proofs.Common.{◌++◌, ◌∙◌, [], ◌∷◌, ap, arith}
use Rattle.std.specs.Prelude.{Err}
use Rattle.std.proofs.lemmas.Result.{err_from_is_err_and}
use Rattle.dtx_engine.specs.Made.{both, joined}
use Rattle.dtx_engine.proofs.Outlets.{view_first, view_after, both_written, first_unwritten, second_unwritten}
use Rattle.dtx_engine.proofs.Outlets.{put_unwritten}
use Rattle.dtx_engine.proofs.outlet.TwoOutputsOutlet.write.Goals as goal

pub returns-in_err-write-clause-written : goal.returns-in_err-write-clause-written
returns-in_err-write-clause-written g c = λ start given gathered.
    let w = c.args.self.now in
    let one = w.first.now in
    let other = w.second.now in
    let apart = gathered.0 in
    let is = gathered.1 in
    let m = c.args.first.now in
    let n = c.args.second.now in
    let before = g.S.Shelf.files c.args.shelf.now in
    let now = g.S.Shelf.files c.write.new.shelf in
    let p = err_from_is_err_and c.from_residual.result c.from_residual.ensures.1 in
    let part = c.in_err-write.ensures.written _ _
    (view_first one other start given w.first_output w.second_output before apart is) in
    put_unwritten (one ∷ other ∷ []) start (joined given (both m n)) c.in_err-write.field-0.0 c.from_residual.result _
    now (p.1 ∙ ap Err p.2)
    (first_unwritten one other start given w.first_output w.second_output before apart is m n now part)

pub returns-in_err-write-2-clause-written : goal.returns-in_err-write-2-clause-written
returns-in_err-write-2-clause-written g c = λ start given gathered.
    let w = c.args.self.now in
    let one = w.first.now in
    let other = w.second.now in
    let apart = gathered.0 in
    let is = gathered.1 in
    let m = c.args.first.now in
    let n = c.args.second.now in
    let before = g.S.Shelf.files c.args.shelf.now in
    let between = g.S.Shelf.files c.write.new.shelf in
    let now = g.S.Shelf.files c.write-2.new.shelf in
    let p = err_from_is_err_and c.from_residual-in_err-write-2.result c.from_residual-in_err-write-2.ensures.1 in
    let more = c.in_ok-write.ensures.written _ _
    (view_first one other start given w.first_output w.second_output before apart is) in
    let part = c.in_err-write-2.ensures.written _ _ (view_after one other start (given.first ++ m) c.write.new.self
    given.second is.other_front w.second_output between apart is.second more) in
    put_unwritten (one ∷ other ∷ []) start (joined given (both m n)) c.in_err-write-2.field-0.0
    c.from_residual-in_err-write-2.result _ now (p.1 ∙ ap Err p.2)
    (second_unwritten one other start given is.other_front m n c.write.new.self between now more part)

pub returns-clause-written : goal.returns-clause-written
returns-clause-written g c = λ start given gathered.
    let w = c.args.self.now in
    let one = w.first.now in
    let other = w.second.now in
    let apart = gathered.0 in
    let is = gathered.1 in
    let m = c.args.first.now in
    let n = c.args.second.now in
    let before = g.S.Shelf.files c.args.shelf.now in
    let between = g.S.Shelf.files c.write.new.shelf in
    let now = g.S.Shelf.files c.write-2.new.shelf in
    let more = c.in_ok-write.ensures.written _ _
    (view_first one other start given w.first_output w.second_output before apart is) in
    let last = c.in_ok-write-2.ensures.written _ _ (view_after one other start (given.first ++ m) c.write.new.self
    given.second is.other_front w.second_output between apart is.second more) in
    (grind (arith, both_written))
