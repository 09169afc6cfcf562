use Rattle.std.proofs.Common.{◌≡◌, ◌<◌, ℕ, List, pos, get_or, length, refl, sym, ap, subst, ◌∙◌, arith}
use Rattle.std.specs.Prelude.{Some, Ok, Err, slice_get}
use Rattle.std.proofs.lemmas.Grind.{common_steps}
use Rattle.std.proofs.lemmas.Option.{slice_get-get_or, slice_get_read}
use Rattle.std.proofs.lemmas.Result.{err_from_is_err_and}
use Rattle.dtx_outside.specs.Shelf.{IsBegun}
use Rattle.dtx_plan.specs.declared.transmitter.Transmitter.{Transmitter}
use Rattle.dtx_schedule.specs.Playout.{AreNamesOf, AreNames}
use Rattle.dtx_schedule.specs.Played.{IsBegunOf}
use Rattle.dtx_schedule.specs.declared.pair.FileNames.{FileNames}
use Rattle.dtx_schedule.proofs.Begun.{log_not_begun, next_begun, symbols_not_begun}
use Rattle.dtx_schedule.proofs.beginning.begin_files.Goals as goal

none : Transmitter
none = record { address = 0; offset = pos 0; delay = 0 }

-- the transmitter at a place, and the names of its files
record IsAt (ts : List Transmitter) (i : ℕ) (its : FileNames) : Type 0 where
  at_t : slice_get ts i ≡ Some (get_or ts i none)
  own : AreNamesOf (get_or ts i none).address its

here : (ts : List Transmitter) (names : List FileNames) (i : ℕ) (its : FileNames) → AreNames ts names → i < length names
    → its ≡ get_or names i its → IsAt ts i its
here ts names i its named within is =
    let at_t : slice_get ts i ≡ Some (get_or ts i none) = grind (arith, slice_get-get_or, none) in
    record {
      at_t = at_t;
      own = named.each i (get_or ts i none) its at_t (slice_get_read names (length names) i its refl within is);
    }

pub returns-in_err-begin-clause-begun : goal.returns-in_err-begin-clause-begun
returns-in_err-begin-clause-begun g c = λ ts named.
    let i = c.loop-its.its-index in
    let its = c.its-item.result in
    let is = here ts c.args.names.now i its named c.loop-its-test.true c.its-item.is in
    let start = g.S.Shelf.files c.args.shelf.now in
    let before = g.S.Shelf.files c.loop-its.shelf in
    let now = g.S.Shelf.files c.begin.new.self in
    let why = c.in_err-begin.field-0.0 in
    let p = err_from_is_err_and c.from_residual.result c.from_residual.ensures.1 in
    subst (λ r. IsBegunOf ts start r now) (sym (p.1 ∙ ap Err p.2)) (grind (arith, symbols_not_begun, none))

pub returns-in_err-begin-2-clause-begun : goal.returns-in_err-begin-2-clause-begun
returns-in_err-begin-2-clause-begun g c = λ ts named.
    let i = c.loop-its.its-index in
    let its = c.its-item.result in
    let is = here ts c.args.names.now i its named c.loop-its-test.true c.its-item.is in
    let start = g.S.Shelf.files c.args.shelf.now in
    let before = g.S.Shelf.files c.loop-its.shelf in
    let mid = g.S.Shelf.files c.begin.new.self in
    let now = g.S.Shelf.files c.begin-in-loop-its.new.self in
    let why = c.in_err-begin-2.field-0.0 in
    let p = err_from_is_err_and c.from_residual-in_err-begin-2.result c.from_residual-in_err-begin-2.ensures.1 in
    subst (λ r. IsBegunOf ts start r now) (sym (p.1 ∙ ap Err p.2)) (grind (arith, log_not_begun, none))

pub loop-its-preserved : goal.loop-its-preserved
loop-its-preserved g c = record {
  begun = λ ts named.
      let i = c.loop-its.its-index in
      let its = c.its-item.result in
      let is = here ts c.args.names.now i its named c.loop-its-test.true c.its-item.is in
      let before = g.S.Shelf.files c.loop-its.shelf in
      let mid = g.S.Shelf.files c.begin.new.self in
      let now = g.S.Shelf.files c.begin-in-loop-its.new.self in
      next_begun ts i (get_or ts i none) (g.S.Shelf.files c.args.shelf.now) before mid now is.at_t
      (c.loop-its.invariant.begun ts named) (grind (arith, c.as_str.ensures.value, c.in_ok-begin.ensures.files))
      (subst (λ n. IsBegun n mid (Ok c.in_ok-begin-2.field-0) now) (c.as_str-in-loop-its.ensures.value
      ∙ is.own.log) c.in_ok-begin-2.ensures.files);
  gone = grind (arith, common_steps);
}
