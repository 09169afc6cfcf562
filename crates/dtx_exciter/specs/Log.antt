-- The log of a transmitter (the profile's own).
use Rattle.std.specs.Prelude.{ℕ, ℤ, ◌+◌, ◌-◌, Some, None, List, [], ◌∷◌, ◌++◌, length, take, flat_map}
use Rattle.std.specs.List.{range_with_len}
use Rattle.dtx_exciter.specs.declared.answers.Why.{Why}
use Rattle.dtx_exciter.specs.declared.answers.Told.{Told}
use Rattle.dtx_exciter.specs.declared.answers.Told.TheVariants.{Quiet, Sent, Muted}
use Rattle.dtx_exciter.specs.Packets.{last_answer}
use Rattle.dtx_exciter.specs.Emission.{last_segments, emission}

-- A line names a segment by the number of segments before it.
pub data Line : Type 0 where
  -- the segment, the frame and the packet's place in it, and the moment's tick and grain
  preset : ℕ → ℕ → ℕ → ℕ → ℕ → Line
  mute : ℕ → Why → Line
  restart : ℕ → Line

-- The line of an answer, where n segments were given before it and m with it. A preset names the group's first data
-- segment, which a field sync may precede.
abbrev pub line_of : ℕ → ℕ → Told → List Line
line_of n m Quiet = []
line_of n m (Sent None) = []
line_of n m (Sent (Some p)) = preset (n + m - 4) p.frame p.packet p.moment.tick p.moment.grain ∷ []
line_of n m (Muted why) = mute n why ∷ []

-- the lines of one life, which is all that is given between two restarts; n segments were given before it
unfoldable pub life_lines : ℕ → ℕ → ℕ → List (List ℕ) → List Line
life_lines address delay n life =
    flat_map
    (λ i. line_of (n + length (emission address delay (take i life))) (length (last_segments address delay (take
    (i + 1) life)))
    (last_answer address delay (take (i + 1) life)))
    (range_with_len 0 (length life))

-- the lines of lives, with a restart between any two
unfoldable pub log : ℕ → ℕ → ℕ → List (List (List ℕ)) → List Line
log address delay n [] = []
log address delay n (life ∷ []) = life_lines address delay n life
log address delay n (life ∷ next ∷ more) =
    life_lines address delay n life ++ restart (n + length (emission address delay life))
    ∷ log address delay (n + length (emission address delay life)) (next ∷ more)

-- the lines of lives that each end with a restart
unfoldable pub restarted_lines : ℕ → ℕ → ℕ → List (List (List ℕ)) → List Line
restarted_lines address delay n [] = []
restarted_lines address delay n (life ∷ more) =
    life_lines address delay n life ++ restart (n + length (emission address delay life)) ∷ restarted_lines address
    delay (n + length (emission address delay life)) more

-- the lines of lives that each begin with a restart
unfoldable pub restarting_lines : ℕ → ℕ → ℕ → List (List (List ℕ)) → List Line
restarting_lines address delay n [] = []
restarting_lines address delay n (life ∷ more) =
    restart n ∷ (life_lines address delay n life ++ restarting_lines address delay
    (n + length (emission address delay life)) more)

-- the segments that lives give, in order
abbrev pub emission_over : ℕ → ℕ → List (List (List ℕ)) → List (List ℤ)
emission_over address delay lives = flat_map (emission address delay) lives
