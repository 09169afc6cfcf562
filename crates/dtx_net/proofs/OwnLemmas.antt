-- A transmitter's own steps among all.
use Rattle.std.proofs.Common.{◌≡◌, ◌≢◌, ℕ, List, [], ◌∷◌, ◌++◌, arith}
use Rattle.std.proofs.lemmas.Bool.{cond-true, cond-false, eq-eqb, ne_eqb}
use Rattle.std.proofs.lemmas.List.{append-nil, map-append}
use Rattle.std.proofs.lemmas.List.Elements.{filter-append}
use Rattle.dtx_net.specs.Steps.{Step}
use Rattle.dtx_net.specs.Lives.{own_steps}

pub own_steps-append : (who : ℕ) (xs ys : List Step) → own_steps who (xs ++ ys) ≡ own_steps who xs ++ own_steps who ys
own_steps-append who xs ys = grind (arith, filter-append, map-append)

pub own_here : (who : ℕ) (step : Step) (steps : List Step) → step.who ≡ who
    → own_steps who (step ∷ steps) ≡ step.packet ∷ own_steps who steps
own_here who step steps e = grind (arith, cond-true, eq-eqb)

pub own_elsewhere : (who : ℕ) (step : Step) (steps : List Step) → step.who ≢ who
    → own_steps who (step ∷ steps) ≡ own_steps who steps
own_elsewhere who step steps n = grind (arith, cond-false, ne_eqb)

-- a step of another anywhere among the steps
pub own_without : (who : ℕ) (before after : List Step) (step : Step) → step.who ≢ who
    → own_steps who (before ++ step ∷ after) ≡ own_steps who (before ++ after)
own_without who before after step n = grind (arith, own_steps-append, own_elsewhere)

-- one step more
pub own_push : (who : ℕ) (steps : List Step) (step : Step) → step.who ≡ who
    → own_steps who (steps ++ step ∷ []) ≡ own_steps who steps ++ step.packet ∷ []
own_push who steps step e = grind (arith, own_steps-append, own_here)

pub own_push_elsewhere : (who : ℕ) (steps : List Step) (step : Step) → step.who ≢ who
    → own_steps who (steps ++ step ∷ []) ≡ own_steps who steps
own_push_elsewhere who steps step n = grind (arith, own_steps-append, own_elsewhere, append-nil)
