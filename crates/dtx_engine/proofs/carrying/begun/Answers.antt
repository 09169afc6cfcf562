use Rattle.std.proofs.Common.{ℕ, List, subst, sym, arith}
use Rattle.dtx_meaning.proofs.MeaningLemmas.{fault_of_input}
use Rattle.dtx_meaning.specs.Status.{blame_of}
use Rattle.dtx_engine.proofs.AnswersLemmas.{fault_answers}
use Rattle.dtx_engine.specs.Made.{IsNoneOf}
use Rattle.dtx_engine.proofs.Gone.{gone_behind}
use Rattle.std.specs.Prelude.{Err, Some, refl}
use Rattle.dtx_meaning.specs.Status.{outcome_of}
use Rattle.dtx_engine.specs.Stages.{IsStopOf}
use Rattle.dtx_engine.proofs.StagesLemmas.{stop_before}
use Rattle.dtx_engine.proofs.Turns.{unbegun}
use Rattle.dtx_engine.proofs.carrying.begun.Goals as goal

pub returns-in-Err : goal.returns-in-Err
returns-in-Err g c = record {
  carried = λ apart held file told there.
      let names = g.W.Outlet.names c.args.outlet.now in
      let part = c.in-Err.ensures.begun _ told in
      unbegun c.args.place.shape (g.E.Engine.recipe c.args.engine.now) names held file
      (g.S.Shelf.files c.begin.new.shelf) c.in-Err.status (outcome_of (Err c.in-Err.status))
      (g.met.W.Outlet.some c.args.outlet.now) refl part.0 part.1;
  input = fault_of_input c.args.place.input.number c.in-Err.status c.in-Err.ensures.fault;
  answer = fault_answers (g.E.Engine.recipe c.args.engine.now) c.in-Err.status c.in-Err.ensures.fault;
  gone = c.in-Err.ensures.gone;
  stages = λ apart held file told there n readable calm fault. absurd (c.in-Err.ensures.writes fault);
}

pub returns-in-Ok : goal.returns-in-Ok
returns-in-Ok g c = record {
  carried = λ apart held file told there. grind arith;
  input = c.carry.ensures.input;
  answer = c.carry.ensures.answer;
  gone = gone_behind (blame_of c.carry.result.status) (g.S.Shelf.counts c.args.shelf.now)
      (g.S.Shelf.counts c.begin.new.shelf)
      (g.S.Shelf.counts c.carry.new.shelf) c.in-Ok.ensures.gone c.carry.ensures.gone;
  stages = λ apart held file told there.
      let place = c.args.place in
      let input = place.input.name.now in
      let recipe = g.E.Engine.recipe c.args.engine.now in
      let now = g.S.Shelf.files c.carry.new.shelf in
      let here = subst (λ (n : List (List ℕ)). IsNoneOf input n) (sym c.begin.ensures.kept) apart in
      let before = g.S.Shelf.counts c.args.shelf.now in
      let between = g.S.Shelf.counts c.begin.new.shelf in
      let after = g.S.Shelf.counts c.carry.new.shelf in
      let foreseen = g.S.Shelf.foreseen in
      stop_before foreseen place.shape recipe input (g.W.Outlet.names c.args.outlet.now) held file before between after
      c.carry.result.status now c.in-Ok.ensures.gone.write_faults
      (subst (λ (n : List (List ℕ)). IsStopOf foreseen place.shape recipe input n held file between after
      c.carry.result.status now) c.begin.ensures.kept
      (c.carry.ensures.stages here held file (c.in-Ok.ensures.begun (Some held) told) there));
}
