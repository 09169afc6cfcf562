use Rattle.std.proofs.Common.{◌∙◌, [], ◌∷◌, ap}
use Rattle.std.specs.Prelude.{Err}
use Rattle.std.proofs.lemmas.Result.{err_from_is_err_and}
use Rattle.dtx_engine.proofs.Outlets.{view_first, view_flushed, all_unput, first_unflushed, second_unflushed}
use Rattle.std.proofs.Common.{subst, sym, arith}
use Rattle.std.specs.Prelude.{Option}
use Rattle.std.specs.Option.{option_map}
use Rattle.dtx_outside.specs.Shelf.{Files, with_file, IsGathered}
use Rattle.dtx_engine.proofs.Nearly.{nearly_second, short_alone, whole_both}
use Rattle.dtx_engine.proofs.StagesLemmas.{calm_behind}
use Rattle.dtx_engine.proofs.outlet.TwoOutputsOutlet.flush.Goals as goal

pub returns-in_err-flush-clause-flushed : goal.returns-in_err-flush-clause-flushed
returns-in_err-flush-clause-flushed g c = λ start given gathered.
    let w = c.args.self.now in
    let one = w.first.now in
    let other = w.second.now in
    let before = g.S.Shelf.files c.args.shelf.now in
    let now = g.S.Shelf.files c.flush.new.shelf in
    let p = err_from_is_err_and c.from_residual.result c.from_residual.ensures.1 in
    let part = c.in_err-flush.ensures.flushed _ _
    (view_first one other start given w.first_output w.second_output before gathered.0 gathered.1) in
    all_unput (one ∷ other ∷ []) start given c.in_err-flush.field-0.0 c.from_residual.result now (p.1 ∙ ap Err p.2)
    (first_unflushed one other start given w.first_output w.second_output before gathered.0 gathered.1 now part)

pub returns-in_err-flush-2-clause-flushed : goal.returns-in_err-flush-2-clause-flushed
returns-in_err-flush-2-clause-flushed g c = λ start given gathered.
    let w = c.args.self.now in
    let one = w.first.now in
    let other = w.second.now in
    let is = gathered.1 in
    let before = g.S.Shelf.files c.args.shelf.now in
    let between = g.S.Shelf.files c.flush.new.shelf in
    let now = g.S.Shelf.files c.flush-2.new.shelf in
    let p = err_from_is_err_and c.from_residual-in_err-flush-2.result c.from_residual-in_err-flush-2.ensures.1 in
    let whole = c.in_ok-flush.ensures.flushed _ _
    (view_first one other start given w.first_output w.second_output before gathered.0 is) in
    let part = c.in_err-flush-2.ensures.flushed _ _ (grind (arith, view_flushed)) in
    all_unput (one ∷ other ∷ []) start given c.in_err-flush-2.field-0.0 c.from_residual-in_err-flush-2.result now
    (p.1 ∙ ap Err p.2) (second_unflushed one other start given now part)

pub returns-clause-flushed : goal.returns-clause-flushed
returns-clause-flushed g c = λ start given gathered.
    let w = c.args.self.now in
    let one = w.first.now in
    let other = w.second.now in
    let is = gathered.1 in
    let before = g.S.Shelf.files c.args.shelf.now in
    let between = g.S.Shelf.files c.flush.new.shelf in
    let whole = c.in_ok-flush.ensures.flushed _ _
    (view_first one other start given w.first_output w.second_output before gathered.0 is) in
    c.in_ok-flush-2.ensures.flushed _ _ (view_flushed one other start given.first given.second
    is.other_front w.second_output between gathered.0 is.second whole)

pub returns-in_err-flush-2-clause-nearly : goal.returns-in_err-flush-2-clause-nearly
returns-in_err-flush-2-clause-nearly g c = λ calm start given gathered.
    let w = c.args.self.now in
    let one = w.first.now in
    let other = w.second.now in
    let is = gathered.1 in
    let first = g.S.Shelf.counts c.args.shelf.now in
    let middle = g.S.Shelf.counts c.flush.new.shelf in
    let last = g.S.Shelf.counts c.flush-2.new.shelf in
    let before = g.S.Shelf.files c.args.shelf.now in
    let between = g.S.Shelf.files c.flush.new.shelf in
    let short = short_alone middle last c.in_err-flush-2.field-0.0 c.in_err-flush-2.ensures.gone
    (grind (arith, calm_behind, c.in_ok-flush.ensures.gone.write_faults)) in
    let whole = c.in_ok-flush.ensures.flushed _ _
    (view_first one other start given w.first_output w.second_output before gathered.0 is) in
    let rest = view_flushed one other start given.first given.second is.other_front w.second_output between gathered.0
    is.second whole in
    nearly_second one other start given w.second_output (g.S.Shelf.files c.flush-2.new.shelf)
    (subst (λ (f : Option Files). IsGathered (option_map (with_file one given.first) start) other given.second
    w.second_output f) (sym (c.in_err-flush-2.ensures.short short)) rest) (omega (arith, c.known-2.ensures))

pub returns-clause-nearly : goal.returns-clause-nearly
returns-clause-nearly g c = grind (arith, whole_both, returns-clause-flushed)
