use Rattle.std.proofs.Common.{[], ◌∷◌, false, refl, arith}
use Rattle.std.specs.FinMap.{get}
use Rattle.dtx_plan.specs.Plan.{changes_of}
use Rattle.dtx_meaning.proofs.MeaningLemmas.{of_inputs}
use Rattle.dtx_engine.specs.Recipe.{meaning}
use Rattle.dtx_words.specs.declared.rows.Command.TheVariants.{Hurt}
use Rattle.dtx_forms.specs.Shapes.{single_bytes}
use Rattle.dtx_forms.proofs.PerformedLemmas.{read_performed, unread_performed}
use Rattle.dtx_forms.proofs.StagesLemmas.{loop_staged, read_staged, unread_staged}
use Rattle.dtx_packet_jobs.proofs.AnswersLemmas.{hurt_knows}
use Rattle.dtx_recipes.specs.Hurt.{hurting}
use Rattle.dtx_packet_jobs.proofs.hurt_command.HurtingCombining.combine_apart.Goals as goal

pub returns-in-Ok-clause-performed : goal.returns-in-Ok-clause-performed
returns-in-Ok-clause-performed g c =
    read_performed Hurt changes_of 1 c.args.changes.now c.in-Ok.damage
    (λ held damage. meaning single_bytes (hurting damage) 0 (c.args.output.now ∷ []) (get held c.args.input.now)) 2
    c.carry_to_one.result (g.S.Shelf.files c.args.shelf.now) _ _ (g.S.Shelf.counts c.args.shelf.now) _ _
    c.changes_in.ensures.kept c.in-Ok.ensures.told c.in-Ok.ensures.gone
    (record {
      carried = rw (← c.new-laying.ensures.recipe) c.carry_to_one.ensures.carried;
      words = of_inputs false 0 2 _ refl (omega arith) c.carry_to_one.ensures.input;
      answers = hurt_knows c.in-Ok.damage _ (rw (← c.new-laying.ensures.recipe) c.carry_to_one.ensures.answer);
      gone = c.carry_to_one.ensures.gone;
    })

pub returns-in-Err-clause-performed : goal.returns-in-Err-clause-performed
returns-in-Err-clause-performed g c =
    unread_performed Hurt changes_of 1 c.args.changes.now c.in-Err.status
    (λ held damage. meaning single_bytes (hurting damage) 0 (c.args.output.now ∷ []) (get held c.args.input.now)) 2
    c.ended.result (g.S.Shelf.files c.args.shelf.now) _ (g.S.Shelf.counts c.args.shelf.now) _
    c.changes_in.ensures.kept c.in-Err.ensures.told
    c.in-Err.ensures.refusal (omega arith) (λ refusal. tt) c.in-Err.ensures.gone c.ended.ensures

pub returns-in-Ok-clause-stages : goal.returns-in-Ok-clause-stages
returns-in-Ok-clause-stages g c =
    let told = g.S.Shelf.files c.args.shelf.now in
    let outputs = c.args.output.now ∷ [] in
    let status = c.carry_to_one.result.status in
    read_staged g.S.Shelf.foreseen changes_of 1 c.args.changes.now c.in-Ok.damage single_bytes hurting c.args.input.now
    outputs status told _ _ (g.S.Shelf.counts c.args.shelf.now) _ _ c.changes_in.ensures.kept c.in-Ok.ensures.told
    c.in-Ok.ensures.foreseen c.in-Ok.ensures.gone
    (loop_staged g.S.Shelf.foreseen single_bytes (hurting c.in-Ok.damage) c.args.input.now outputs status _
    (g.S.Shelf.files c.carry_to_one.new.shelf) _ (g.S.Shelf.counts c.carry_to_one.new.shelf)
    (rw (← c.new-laying.ensures.recipe) c.carry_to_one.ensures.stages))

pub returns-in-Err-clause-stages : goal.returns-in-Err-clause-stages
returns-in-Err-clause-stages g c =
    unread_staged g.S.Shelf.foreseen changes_of c.args.changes.now c.in-Err.status single_bytes hurting c.args.input.now
    (c.args.output.now ∷ []) c.ended.result (g.S.Shelf.files c.args.shelf.now) _ (g.S.Shelf.counts c.args.shelf.now) _
    c.changes_in.ensures.kept c.in-Err.ensures.foreseen c.ended.ensures
