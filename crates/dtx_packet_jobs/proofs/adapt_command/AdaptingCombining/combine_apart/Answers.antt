use Rattle.std.proofs.Common.{[], ◌∷◌, arith}
use Rattle.std.specs.FinMap.{get}
use Rattle.dtx_plan.specs.Plan.{plan_of}
use Rattle.dtx_engine.specs.Recipe.{meaning}
use Rattle.dtx_words.specs.declared.rows.Command.TheVariants.{Adapt}
use Rattle.dtx_forms.specs.Shapes.{packets}
use Rattle.dtx_forms.proofs.PerformedLemmas.{read_performed, unread_performed}
use Rattle.dtx_forms.proofs.StagesLemmas.{read_staged, unread_staged}
use Rattle.dtx_recipes.specs.Adapt.{feeding}
use Rattle.dtx_packet_jobs.proofs.adapt_command.AdaptingCombining.combine_apart.Goals as goal

pub returns-in-Ok-clause-performed : goal.returns-in-Ok-clause-performed
returns-in-Ok-clause-performed g c =
    read_performed Adapt plan_of 0 c.args.plan.now c.in-Ok.said
    (λ held said. meaning packets (feeding said) 1 (c.args.output.now ∷ []) (get held c.args.input.now)) 2
    c.adapt_under.result (g.S.Shelf.files c.args.shelf.now) _ _ (g.S.Shelf.counts c.args.shelf.now) _ _
    c.plan_in.ensures.kept c.in-Ok.ensures.told c.in-Ok.ensures.gone c.adapt_under.ensures.performed

pub returns-in-Err-clause-performed : goal.returns-in-Err-clause-performed
returns-in-Err-clause-performed g c =
    unread_performed Adapt plan_of 0 c.args.plan.now c.in-Err.status
    (λ held said. meaning packets (feeding said) 1 (c.args.output.now ∷ []) (get held c.args.input.now)) 2
    c.ended.result (g.S.Shelf.files c.args.shelf.now) _ (g.S.Shelf.counts c.args.shelf.now) _
    c.plan_in.ensures.kept c.in-Err.ensures.told
    c.in-Err.ensures.refusal (omega arith) (λ refusal. tt) c.in-Err.ensures.gone c.ended.ensures

pub returns-in-Ok-clause-stages : goal.returns-in-Ok-clause-stages
returns-in-Ok-clause-stages g c =
    read_staged g.S.Shelf.foreseen plan_of 0 c.args.plan.now c.in-Ok.said packets feeding c.args.input.now
    (c.args.output.now ∷ []) c.adapt_under.result.status (g.S.Shelf.files c.args.shelf.now) _ _
    (g.S.Shelf.counts c.args.shelf.now) _ _ c.plan_in.ensures.kept c.in-Ok.ensures.told c.in-Ok.ensures.foreseen
    c.in-Ok.ensures.gone c.adapt_under.ensures.stages

pub returns-in-Err-clause-stages : goal.returns-in-Err-clause-stages
returns-in-Err-clause-stages g c =
    unread_staged g.S.Shelf.foreseen plan_of c.args.plan.now c.in-Err.status packets feeding c.args.input.now
    (c.args.output.now ∷ []) c.ended.result (g.S.Shelf.files c.args.shelf.now) _ (g.S.Shelf.counts c.args.shelf.now) _
    c.plan_in.ensures.kept c.in-Err.ensures.foreseen c.ended.ensures
