use Rattle.std.proofs.Common.{[], ◌∷◌, false, refl, ap, ◌∙◌, arith}
use Rattle.std.specs.Prelude.{Some}
use Rattle.dtx_meaning.proofs.MeaningLemmas.{of_inputs}
use Rattle.dtx_meaning.specs.Status.{ended}
use Rattle.dtx_meaning.specs.declared.status.Status.{Status}
use Rattle.dtx_meaning.specs.declared.status.Status.TheVariants.{Memory}
use Rattle.dtx_forms.specs.Shapes.{packets}
use Rattle.dtx_forms.specs.Stages.{stages_of}
use Rattle.dtx_forms.proofs.StagesLemmas.{ended_staged, loop_staged}
use Rattle.dtx_recipes.specs.Adapt.{feeding}
use Rattle.dtx_packet_jobs.proofs.AnswersLemmas.{adapt_knows}
use Rattle.dtx_packet_jobs.proofs.adapt_command.adapt_under.Goals as goal

pub returns-in-Ok-clause-performed : goal.returns-in-Ok-clause-performed
returns-in-Ok-clause-performed g c = record {
  carried = rw (← c.in-Ok.ensures.recipe) c.carry_to_one.ensures.carried;
  words = of_inputs false 1 2 _ refl (omega arith) c.carry_to_one.ensures.input;
  answers = adapt_knows c.args.plan.now _ (rw (← c.in-Ok.ensures.recipe) c.carry_to_one.ensures.answer);
  gone = c.carry_to_one.ensures.gone;
}

pub returns-in-Ok-clause-stages : goal.returns-in-Ok-clause-stages
returns-in-Ok-clause-stages g c =
    loop_staged g.S.Shelf.foreseen packets (feeding c.args.plan.now) c.args.input.now (c.args.output.now ∷ [])
    c.carry_to_one.result.status (g.S.Shelf.files c.args.shelf.now) (g.S.Shelf.files c.carry_to_one.new.shelf)
    (g.S.Shelf.counts c.args.shelf.now) (g.S.Shelf.counts c.carry_to_one.new.shelf)
    (rw (← c.in-Ok.ensures.recipe) c.carry_to_one.ensures.stages)

pub returns-in-Err-clause-stages : goal.returns-in-Err-clause-stages
returns-in-Err-clause-stages g c =
    ended_staged g.S.Shelf.foreseen
    (Some (stages_of packets (feeding c.args.plan.now) c.args.input.now (c.args.output.now ∷ []))) c.ended.result Memory
    (g.S.Shelf.files c.args.shelf.now) (g.S.Shelf.counts c.args.shelf.now)
    (c.ended.ensures ∙ ap (λ (s : Status). ended s) c.from.ensures) tt
