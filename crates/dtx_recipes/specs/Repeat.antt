-- What `repeat` makes of a symbol file (the profile's own, over ATSC A/53 Part 2 and in the manner of ATSC A/110).
use Rattle.std.specs.Prelude.{ℕ, ℤ, true, List, [], ◌∷◌, length, drop, nat_lt, ◌&&◌, if◌then◌else◌}
use Rattle.dtx_receiver.specs.Runs.{runs}
use Rattle.dtx_repeat.specs.Lives.{lives, lives_so_far}
use Rattle.dtx_meaning.specs.declared.status.Outcome.{Outcome}
use Rattle.dtx_engine.specs.Made.{Made}
use Rattle.dtx_engine.specs.Recipe.{Recipe}
use Rattle.dtx_words.specs.declared.rows.Command.TheVariants.{Repeat}
use Rattle.dtx_forms.specs.Job.{Job}
use Rattle.dtx_forms.specs.Shapes.{segments}
use Rattle.dtx_forms.specs.Logged.{transmit_job}
use Rattle.dtx_recipes.specs.Life.{sent_over, logged_over, lives_tally}
use Rattle.dtx_recipes.specs.SymbolFile.{file_segments}
use Rattle.dtx_recipes.specs.Synced.{synced}
use Rattle.dtx_recipes.specs.declared.life_tally.LifeTally.{LifeTally}
use Rattle.dtx_exciter.specs.Log.{Line, restart}

-- the symbols that the transmitter with this address and delay sends in these lives, and the transmitter's log
abbrev pub sent_in : ℕ → ℕ → List (List (List ℕ)) → Made
sent_in address delay lives = record {
  first = sent_over address delay lives;
  second = logged_over address delay lives;
}

-- what the transmitter sends and logs for a symbol file: each run is one life
abbrev pub repeated_files : ℕ → ℕ → List ℕ → Made
repeated_files address delay file = sent_in address delay (lives (file_segments file))

-- what it sends and logs while the segments come
abbrev pub repeated_so_far : ℕ → ℕ → List ℕ → Made
repeated_so_far address delay file = sent_in address delay (lives_so_far (file_segments file))

-- for each output, what stands behind a prefix of it
abbrev pub behind_in : Made → Made → Made
behind_in front whole = record {
  first = drop (length front.first) whole.first;
  second = drop (length front.second) whole.second;
}

-- the line's numbers: of segments, of runs and of the lives, and the loose bytes
abbrev pub repeated_numbers : ℕ → ℕ → LifeTally → ℕ → List ℕ
repeated_numbers segments runs tally loose =
    segments ∷ runs ∷ tally.packets ∷ tally.segments ∷ tally.presets ∷ tally.mutes ∷ loose ∷ []

-- the answer: `NoSync` where there is no run, since no segment looks like a field sync
abbrev pub repeat_answer : ℕ → ℕ → List (List ℤ) → ℕ → Outcome
repeat_answer address delay list loose = synced (length (runs list))
    (repeated_numbers (length list) (length (runs list)) (lives_tally address delay (lives list)) loose)

-- the recipe
abbrev pub repeating : ℕ → ℕ → Recipe
repeating address delay = record {
  allows = λ _ _. true;
  made = λ bytes. repeated_so_far address delay bytes;
  rest = λ bytes. behind_in (repeated_so_far address delay bytes) (repeated_files address delay bytes);
  answer = λ bytes loose. repeat_answer address delay (file_segments bytes) loose;
}

-- the command `repeat IN ADDRESS DELAY OUT LOG`
abbrev pub repeat_job : Job
repeat_job = transmit_job Repeat segments repeating

-- The restart line that some segments bring, or none. `begins` runs begin with them, one or none. `runs` runs began
-- before them, and `sent` segments were sent before them. They bring a restart where a run begins other than the first.
abbrev pub restart_with : ℕ → ℕ → ℕ → List Line
restart_with begins runs sent = if nat_lt 0 begins && nat_lt 0 runs then restart sent ∷ [] else []
