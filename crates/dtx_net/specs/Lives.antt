-- The lives of a transmitter: what it is given between its restarts, what it sends, and what is logged (the profile's
-- own).
use Rattle.std.specs.Prelude.{ℕ, ◌-◌, ◌==◌, Option, Some, None, List, [], ◌∷◌, ◌++◌, map, filter, length, take}
use Rattle.std.specs.Prelude.{slice_index_or, ℤ}
use Rattle.dtx_net.specs.Steps.{Step}
use Rattle.dtx_plan.specs.declared.transmitter.Transmitter.{Transmitter}
use Rattle.dtx_exciter.specs.Log.{Line, log, emission_over}

-- the steps of the transmitter at a place alone: the packets that it is given, and its restarts
abbrev pub own_steps : ℕ → List Step → List (Option (List ℕ))
own_steps who steps = map (λ step. step.packet) (filter (λ step. step.who == who) steps)

-- packets and restarts, cut at the restarts: the first life begins with these packets
abbrev pub lives_from : List (List ℕ) → List (Option (List ℕ)) → List (List (List ℕ))
lives_from life [] = life ∷ []
lives_from life (Some packet ∷ steps) = lives_from (life ++ packet ∷ []) steps
lives_from life (None ∷ steps) = life ∷ lives_from [] steps

-- the lives of the transmitter at a place, of which there is at least one
unfoldable pub lives_of : ℕ → List Step → List (List (List ℕ))
lives_of who steps = lives_from [] (own_steps who steps)

-- the last life, which goes on
unfoldable pub last_life : ℕ → List Step → List (List ℕ)
last_life who steps = slice_index_or (lives_of who steps) (length (lives_of who steps) - 1) []

-- the lives before the last one, each of which ended with a restart
unfoldable pub ended_lives : ℕ → List Step → List (List (List ℕ))
ended_lives who steps = take (length (lives_of who steps) - 1) (lives_of who steps)

-- lives in a row, with a restart between any two
abbrev pub joined_steps : List (List (List ℕ)) → List (Option (List ℕ))
joined_steps [] = []
joined_steps (life ∷ []) = map Some life
joined_steps (life ∷ next ∷ more) = map Some life ++ None ∷ joined_steps (next ∷ more)

-- what the transmitter t, which stands at a place of the list, sends over the steps of all
unfoldable pub sent_segments : Transmitter → ℕ → List Step → List (List ℤ)
sent_segments t who steps = emission_over t.address t.delay (lives_of who steps)

-- the lines of its log
unfoldable pub lines_of : Transmitter → ℕ → List Step → List Line
lines_of t who steps = log t.address t.delay 0 (lives_of who steps)
