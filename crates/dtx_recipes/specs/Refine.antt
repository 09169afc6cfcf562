-- What `refine SCALE ROUNDS IN OUT` means: it writes the segments of a capture after so many rounds (the profile's
-- own).
use Rattle.std.specs.Prelude.{ℕ, ℤ, ◌-◌, ◌*◌, List, [], ◌∷◌, length}
use Rattle.dtx_receiver.specs.Bytes.{bytes_in}
use Rattle.dtx_acquire.specs.Acquired.{acquired, acquired_runs}
use Rattle.dtx_rounds.specs.Known.{known_count}
use Rattle.dtx_rounds.specs.Rounds.{heard_of, refined, refined_rest, refined_so_far, round_cost, round_moved}
use Rattle.dtx_engine.specs.Recipe.{Recipe}
use Rattle.dtx_meaning.specs.declared.status.Outcome.{Outcome}
use Rattle.dtx_words.specs.declared.rows.Command.TheVariants.{Refine}
use Rattle.dtx_forms.specs.Capture.{rounds_job}
use Rattle.dtx_forms.specs.Job.{Job}
use Rattle.dtx_forms.specs.Shapes as shapes
use Rattle.dtx_recipes.specs.Restoring.{Restoring, restoring_by}
use Rattle.dtx_recipes.specs.Synced.{synced}

-- the line's numbers: the bytes, the runs of which something is left, the segments, what the least paths of the last
-- round cost, how many words it knew and how many symbols it moved, and the bytes in no segment
abbrev pub refined_numbers : ℕ → ℕ → ℕ → ℕ → ℕ → ℕ → List ℕ
refined_numbers symbols runs segments cost known moved =
    symbols ∷ runs ∷ segments ∷ cost ∷ known ∷ moved ∷ (symbols - 832 * segments) ∷ []

-- the answer: `NoSync` where there is no run
abbrev pub refined_answer : ℕ → ℕ → ℕ → ℕ → ℕ → ℕ → Outcome
refined_answer symbols runs segments cost known moved =
    synced runs (refined_numbers symbols runs segments cost known moved)

-- what the last round was given
abbrev pub before_last : ℕ → ℕ → List ℤ → List (List ℤ)
before_last scale rounds symbols = refined scale symbols (rounds - 1)

abbrev pub refine_answer : ℕ → ℕ → List ℤ → Outcome
refine_answer scale rounds symbols =
    refined_answer (length symbols) (acquired_runs symbols) (length (acquired scale symbols))
    (round_cost scale (heard_of symbols) (before_last scale rounds symbols))
    (known_count (bytes_in (before_last scale rounds symbols)))
    (round_moved scale (heard_of symbols) (before_last scale rounds symbols))

-- what is made of a capture at a scale in so many rounds
abbrev pub with_refiner : ℕ → ℕ → Restoring
with_refiner scale rounds = record {
  so_far = λ symbols. refined_so_far scale symbols rounds;
  rest = λ symbols. refined_rest scale symbols rounds;
  answer = refine_answer scale rounds;
}

abbrev pub refining : ℕ → ℕ → Recipe
refining scale rounds = restoring_by (with_refiner scale rounds)

-- the command `refine SCALE ROUNDS IN OUT`
abbrev pub refine_job : Job
refine_job = rounds_job Refine shapes.single_bytes refining
