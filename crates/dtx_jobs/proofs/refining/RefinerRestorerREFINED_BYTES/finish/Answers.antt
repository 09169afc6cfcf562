use Rattle.std.proofs.Common.{ap₂}
use Rattle.dtx_recipes.specs.Refine.{with_refiner}
use Rattle.dtx_jobs.proofs.refining.RefinerRestorerREFINED_BYTES.finish.Goals as goal

pub returns-clause-rest : goal.returns-clause-rest
returns-clause-rest c = λ symbols is. (c.finish_all.ensures.finished symbols is).rest

pub returns-clause-answer : goal.returns-clause-answer
returns-clause-answer c = λ symbols is.
    let all = c.finish_all.ensures.finished symbols is in
    rw (← all.known_are) (rw (← all.moved_are) (rw (← all.cost_is) (rw (← all.segments_are) (rw (← all.runs_are)
    (rw (← is.count) (rw (← all.count) c.answer.ensures.outcome))))))

pub returns-clause-kept : goal.returns-clause-kept
returns-clause-kept c = ap₂ with_refiner c.finish_all.ensures.scale c.finish_all.ensures.rounds
