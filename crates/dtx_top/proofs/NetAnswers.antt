-- What an answer of one input says of a network.
use Rattle.std.specs.Prelude.{◌≡◌, ◌≢◌, ℕ, ◌<◌, ◌≤◌, List, [], Option, Some, None}
use Rattle.std.proofs.Common.{arith, inl, inr, refl, subst}
use Rattle.dtx_plan.specs.declared.damage.Damage.{Damage}
use Rattle.dtx_plan.specs.declared.plan.Plan as plans
use Rattle.dtx_plan.specs.declared.plan.ReceivePlan.{ReceivePlan}
use Rattle.dtx_meaning.specs.Status.{IsOfInput}
use Rattle.dtx_meaning.specs.declared.status.Outcome.{Outcome}
use Rattle.dtx_meaning.specs.declared.status.Status.{Status}
use Rattle.dtx_meaning.specs.declared.status.Status.TheVariants.{Done, Usage, Same, Absent, Plan, Packet, TooLong}
use Rattle.dtx_meaning.specs.declared.status.Status.TheVariants.{OutOfFeed, OutOfAir, NoSync, ReadFault, WriteFault}
use Rattle.dtx_meaning.specs.declared.status.Status.TheVariants.{Memory}
use Rattle.dtx_engine.specs.Recipe.{IsAnswerOf}
use Rattle.dtx_words.specs.Rows as rows
use Rattle.dtx_words.specs.declared.rows.Command.{Command}
use Rattle.dtx_words.specs.declared.rows.Command.TheVariants.{Code, Receive}
use Rattle.dtx_forms.specs.Answers.{IsKnown, Knows, MayRefuse}
use Rattle.dtx_forms.proofs.AnswersLemmas.{knows_by, none_refused}
use Rattle.dtx_forms.proofs.OfWordsLemmas.{refusal_of_input}
use Rattle.dtx_forms.specs.PlanFile.{IsPlanRefusal}
use Rattle.dtx_forms.specs.Damaged.{damaged_making}
use Rattle.dtx_recipes.specs.Hurt.{first_past}
use Rattle.dtx_recipes.proofs.AnswersLemmas.{synced_known}
use Rattle.dtx_recipes.specs.Receive.{receiving}
use Rattle.dtx_schedule.specs.PlayedSoFar.{IsOfFeed}
use Rattle.dtx_top.specs.NetAnswers.{HasCount, IsOfNetwork, IsOfReplay, ShowsNetwork, count_of}
use Rattle.dtx_recipes.specs.Adapt.{feeding}
use Rattle.dtx_top.proofs.ByWords.{known_status}

-- a refusal to read the plan
pub plan_of_network : (status : Status) → IsPlanRefusal 0 status → IsOfNetwork status
plan_of_network status is = grind (arith, refusal_of_input)

-- ---- where the plan is read, and no two names are equal

pub network_of_replay : (receive : Option ReceivePlan) (status : Status) → IsOfReplay receive status
    → IsOfNetwork status
network_of_replay receive Usage is = is
network_of_replay receive Same is = tt
network_of_replay receive (Absent input) is = is.1
network_of_replay receive Done is = tt
network_of_replay receive (Plan refusal) is = tt
network_of_replay receive (Packet k) is = tt
network_of_replay receive TooLong is = tt
network_of_replay receive (OutOfFeed event) is = tt
network_of_replay receive (OutOfAir entry) is = tt
network_of_replay receive NoSync is = tt
network_of_replay receive ReadFault is = tt
network_of_replay receive WriteFault is = tt
network_of_replay receive Memory is = tt

-- a refusal while the schedule is played
pub feed_of_replay : (receive : Option ReceivePlan) (status : Status) → IsOfFeed status → IsOfReplay receive status
feed_of_replay receive Usage is = is
feed_of_replay receive (Absent input) is = (omega (arith, is), omega (arith, is))
feed_of_replay receive Done is = tt
feed_of_replay receive Same is = is
feed_of_replay receive (Plan refusal) is = is
feed_of_replay receive (Packet k) is = tt
feed_of_replay receive TooLong is = tt
feed_of_replay receive (OutOfFeed event) is = tt
feed_of_replay receive (OutOfAir entry) is = absurd is
feed_of_replay receive NoSync is = tt
feed_of_replay receive ReadFault is = tt
feed_of_replay receive WriteFault is = tt
feed_of_replay receive Memory is = tt

-- is none of `Done`
pub feed_not_done : (status : Status) → IsOfFeed status → status ≡ Done → ⊥
feed_not_done status is done = let P : Status → Type 0 = λ s. IsOfFeed s in subst P done is

-- an answer of one input, by an engine that refuses neither a plan nor damage
of_replay : (command : Command) (receive : Option ReceivePlan) (number : ℕ) (status : Status) → 1 ≤ number → number < 4
    → (MayRefuse command rows.plan → ⊥) → (MayRefuse command rows.out_of_air → ⊥) → IsOfInput number status
    → Knows command status → IsOfReplay receive status
of_replay command receive number (Absent input) least most no_plan no_air is known = grind arith
of_replay command receive number (Plan refusal) least most no_plan no_air is known = absurd (no_plan known)
of_replay command receive number (OutOfAir entry) least most no_plan no_air is known = absurd (no_air known)
of_replay command receive number Usage least most no_plan no_air is known = is
of_replay command receive number Same least most no_plan no_air is known = is
of_replay command receive number status least most no_plan no_air is known = tt

-- the answer of the stream that is adapted: such a stream is refused as `code` refuses one
pub stream_knows : (plan : plans.Plan) (outcome : Outcome) → IsAnswerOf (feeding plan) outcome → IsKnown Code outcome
stream_knows plan = knows_by (feeding plan) Code tt (λ k unit. tt) (λ given loose. refl)

pub stream_of_replay : (plan : plans.Plan) (receive : Option ReceivePlan) (outcome : Outcome)
    → IsOfInput 1 outcome.status → IsAnswerOf (feeding plan) outcome → IsOfReplay receive outcome.status
stream_of_replay plan receive outcome is answer = grind (arith, of_replay, known_status, stream_knows)

-- the answer of the symbols that are received
pub symbols_know : (damage : List Damage) (outcome : Outcome) → IsAnswerOf (damaged_making damage receiving) outcome
    → IsKnown Receive outcome
symbols_know damage = grind (arith, knows_by, none_refused, synced_known)

pub symbols_of_replay : (receiver : ReceivePlan) (outcome : Outcome) → IsOfInput 3 outcome.status
    → IsAnswerOf (damaged_making receiver.damage receiving) outcome → IsOfReplay (Some receiver) outcome.status
symbols_of_replay receiver outcome is answer = grind (arith, of_replay, known_status, symbols_know)

-- a network has three numbers or six
pub shows_network : (receive : Option ReceivePlan) (outcome : Outcome) → HasCount (count_of receive) outcome
    → ShowsNetwork outcome.status outcome
shows_network None outcome count = λ done. inl (count done)
shows_network (Some receiver) outcome count = λ done. inr (count done)

-- an entry of damage ends behind the symbols only where there is one
pub damage_of_replay : (damage : List Damage) (symbols entry : ℕ) → first_past damage symbols ≡ Some entry → damage ≢ []
unfolding first_past
damage_of_replay damage symbols entry past none = grind arith
