-- How the lives of an exciter that is fed by a receiver go on with more segments.
use Rattle.std.specs.Prelude.{ℕ, ◌≡◌, List, [], ◌∷◌, ◌++◌}
use Rattle.dtx_receiver.specs.declared.batch.Received.{Received}
use Rattle.dtx_receiver.specs.declared.tracking.Tracking.{Tracking}
use Rattle.dtx_receiver.specs.declared.tracking.Tracking.TheVariants.{Began}
use Rattle.dtx_repeat.specs.Lives.{packets_in}

-- the last of some lives, or no packets if there is no life
abbrev pub last_life : List (List (List ℕ)) → List (List ℕ)
last_life [] = []
last_life (life ∷ []) = life
last_life (life ∷ (next ∷ more)) = last_life (next ∷ more)

-- these lives, the last of which is given these packets too
abbrev pub longer : List (List (List ℕ)) → List (List ℕ) → List (List (List ℕ))
longer [] packets = []
longer (life ∷ []) packets = (life ++ packets) ∷ []
longer (life ∷ (next ∷ more)) packets = life ∷ longer (next ∷ more) packets

-- These packets are given to the last life, where there is one.
abbrev pub AreGiven : List (List (List ℕ)) → List (List (List ℕ)) → List Received → Type 0
AreGiven before after packets = (after ≡ longer before (packets_in packets)) × (before ≡ [] → packets ≡ [])

-- these lives, and an empty one more if the segment begins a run
abbrev pub with_begun : Tracking → List (List (List ℕ)) → List (List (List ℕ))
with_begun Began lives = lives ++ [] ∷ []
with_begun tracking lives = lives
