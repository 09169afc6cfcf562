-- Which answers the commands of packets and of plain bytes know: of how their making answers, and of faults of
-- writing.
use Rattle.std.specs.Prelude.{ℕ, List, Option, Some, None}
use Rattle.std.proofs.Common.{refl, arith}
use Rattle.dtx_outside.specs.declared.shelf.WriteNo.{WriteNo}
use Rattle.dtx_outside.specs.declared.shelf.WriteNo.TheVariants as write
use Rattle.dtx_plan.specs.declared.damage.Damage.{Damage}
use Rattle.dtx_plan.specs.declared.plan.Plan as plans
use Rattle.dtx_meaning.specs.Status.{ended, of_write}
use Rattle.dtx_meaning.specs.declared.status.Outcome.{Outcome}
use Rattle.dtx_engine.specs.Recipe.{IsAnswerOf}
use Rattle.dtx_words.specs.declared.rows.Command.TheVariants.{Adapt, Make, Hurt}
use Rattle.dtx_forms.specs.Answers.{IsKnown}
use Rattle.dtx_forms.proofs.AnswersLemmas.{knows_by, none_refused}
use Rattle.dtx_recipes.specs.Adapt.{feeding}
use Rattle.dtx_recipes.specs.Hurt.{hurting, hurt_end}

-- a stream that is adapted
pub adapt_knows : (plan : plans.Plan) (outcome : Outcome) → IsAnswerOf (feeding plan) outcome → IsKnown Adapt outcome
adapt_knows plan = knows_by (feeding plan) Adapt tt (λ k unit. tt) (λ given loose. refl)

past_or_not : (damage : List Damage) (bytes : ℕ) (past : Option ℕ) → IsKnown Hurt (hurt_end damage bytes past)
past_or_not damage bytes (Some entry) = tt
past_or_not damage bytes None = refl

-- a file over which damage is laid
pub hurt_knows : (damage : List Damage) (outcome : Outcome) → IsAnswerOf (hurting damage) outcome → IsKnown Hurt outcome
hurt_knows damage = grind (arith, knows_by, none_refused, past_or_not)

-- a fault of writing
pub write_known : (cause : WriteNo) → IsKnown Make (ended (of_write cause))
write_known write.Failed = tt
write_known write.Memory = tt
