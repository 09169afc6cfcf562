-- The name in the line of a network whose names are all different.
use Rattle.std.specs.Prelude.{◌≡◌, ℕ, List, [], Option, Some, None, IfSome, refl, unwrap_or}
use Rattle.std.proofs.Common.{sym, ap, arith, ◌∙◌}
use Rattle.std.specs.Option.{option_map}
use Rattle.std.proofs.lemmas.Bool.{cases_lt}
use Rattle.dtx_meaning.specs.declared.status.Status.{Status}
use Rattle.dtx_meaning.specs.declared.status.Status.TheVariants.{Absent, Same}
use Rattle.dtx_outside.specs.Shelf.{Files}
use Rattle.dtx_plan.specs.declared.plan.NetPlan.{NetPlan}
use Rattle.dtx_plan.specs.declared.plan.Plan.{Plan}
use Rattle.dtx_words.specs.Names.{line_name, repeated}
use Rattle.dtx_top.specs.NetAnswers.{IsOfNetwork}
use Rattle.dtx_top.specs.NetNames.{kept_name, names_for, told_name}
use Rattle.dtx_top.specs.Networks.{network_names}

-- the name that is kept, or that of the plan, is the one in the line
abbrev IsTold : List ℕ → Plan → NetPlan → Status → Type 0
IsTold name plan network status =
    told_name name status (kept_name network status) ≡ line_name status (names_for status name plan network)

pub name_replayed : (name : List ℕ) (plan : Plan) (network : NetPlan) (status : Status) → IsOfNetwork status
    → repeated (network_names name plan network) ≡ None → IsTold name plan network status
name_replayed name plan network Same is none = sym (ap (λ (o : Option (List ℕ)). unwrap_or o []) none)
name_replayed name plan network (Absent input) below none = grind (arith, cases_lt)
name_replayed name plan network status is none = refl

-- no name is repeated, as no name was found
pub none_again : {X : Type 0} (f : X → List ℕ) (found : Option X) (again : Option (List ℕ))
    → option_map f found ≡ again → found ≡ None → again ≡ None
none_again f found again is none = sym is ∙ ap (option_map f) none

-- what holds of all files holds of those that are told
pub of_told : (told : Option Files) (P : Type 0) → P → IfSome told (λ _. P)
of_told None P is = tt
of_told (Some held) P is = is
