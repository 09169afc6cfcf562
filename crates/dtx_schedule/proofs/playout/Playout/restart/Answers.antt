use Rattle.std.proofs.Common.{◌∷◌, [], ◌++◌, refl, sym, ap, subst, ◌∙◌, arith}
use Rattle.std.specs.Prelude.{Err}
use Rattle.std.proofs.lemmas.Result.{err_from_is_err_and}
use Rattle.dtx_net.specs.Steps.{Step, restart_step}
use Rattle.dtx_schedule.specs.PlayedSoFar.{IsDoneOf}
use Rattle.dtx_schedule.proofs.SoFar.{unwritten}
use Rattle.dtx_schedule.proofs.playout.Playout.restart.Goals as goal

pub write-requires-clause-within : goal.write-requires-clause-within
write-requires-clause-within g c =
    let playing = c.renew.ensures.playing c.requires.there.ts c.requires.there.steps c.requires.there.playing in
    let long = playing.names.long in
    omega (arith, long, c.requires.there.within)

pub returns-in_err-write-clause-done : goal.returns-in_err-write-clause-done
returns-in_err-write-clause-done g c = λ ts held before is.
    let step : Step = restart_step c.args.who in
    let after = c.renew.ensures.playing ts before is.playing in
    let now = g.S.Shelf.files c.write.new.shelf in
    let p = err_from_is_err_and c.from_residual.result c.from_residual.ensures.1 in
    subst (λ r. IsDoneOf ts (before ++ step ∷ []) held r c.renew.new.self now) (sym (p.1 ∙ ap Err p.2))
    (grind (arith, unwritten))

pub returns-clause-done : goal.returns-clause-done
returns-clause-done g c = λ ts held before is.
    let after = c.renew.ensures.playing ts before is.playing in
    record {
      playing = after;
      files = c.in_ok-write.ensures.written ts held before (restart_step c.args.who) refl after.transmitters after.names
          (c.renew.ensures.brings ts before is.playing) is.files;
    }

pub returns-clause-there : goal.returns-clause-there
returns-clause-there g c = λ _.
    record {
      ts = c.requires.there.ts;
      steps = c.requires.there.steps ++ restart_step c.args.who ∷ [];
      playing = c.renew.ensures.playing c.requires.there.ts c.requires.there.steps c.requires.there.playing;
      within = c.requires.there.within;
    }
