-- Laws of what `refine` makes.
use Rattle.std.proofs.Common.{refl, ◌≡◌, ℕ, [], arith}
use Rattle.dtx_acquire.proofs.AcquiredLemmas.{none_so_far}
use Rattle.dtx_rounds.specs.Rounds.{refined_so_far, settled_count}
use Rattle.dtx_rounds.proofs.SoFarLemmas.{refined_grows}
use Rattle.dtx_engine.specs.Recipe.{IsAnswerOf}
use Rattle.dtx_meaning.specs.declared.status.Outcome.{Outcome}
use Rattle.dtx_words.specs.declared.rows.Command.TheVariants.{Refine}
use Rattle.dtx_forms.specs.Answers.{IsKnown}
use Rattle.dtx_forms.proofs.AnswersLemmas.{knows_by, none_refused}
use Rattle.dtx_recipes.proofs.AnswersLemmas.{synced_known}
use Rattle.dtx_recipes.specs.Refine.{refining, with_refiner}
use Rattle.dtx_recipes.specs.Restoring.{IsRestoring}

none_refined : (scale rounds : ℕ) → refined_so_far scale [] rounds ≡ []
unfolding refined_so_far settled_count
none_refined scale rounds = grind (arith, none_so_far)

-- what is made grows
pub refines : (scale rounds : ℕ) → IsRestoring (with_refiner scale rounds)
refines scale rounds = record { starts = none_refined scale rounds; grows = refined_grows scale rounds }

-- each answer is one that the command may give
pub refine_knows : (scale rounds : ℕ) (outcome : Outcome) → IsAnswerOf (refining scale rounds) outcome
    → IsKnown Refine outcome
refine_knows scale rounds =
    knows_by (refining scale rounds) Refine tt (λ k unit. none_refused unit)
    (λ given loose. synced_known Refine _ _ tt refl)
