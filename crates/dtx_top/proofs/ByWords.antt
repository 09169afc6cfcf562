-- What the words alone say of the answer: of the command that they fit, and behind its line.
use Rattle.std.specs.Prelude.{◌≡◌, ℕ, Bool, true, false, is_some, List, [], ◌∷◌, ◌++◌, length, Option, Some, None}
use Rattle.std.specs.Prelude.{Result, Ok, Err, refl}
use Rattle.std.specs.Option.{option_and}
use Rattle.std.proofs.Common.{subst, ◌∙◌, arith}
use Rattle.std.proofs.lemmas.Bool.{and_parts}
use Rattle.std.proofs.lemmas.List.{append-nil, append_assoc}
use Rattle.dtx_outside.specs.declared.sink.SinkNo.{SinkNo}
use Rattle.dtx_outside.specs.declared.sink.SinkNo.TheVariants as sink
use Rattle.dtx_meaning.specs.Status.{IsOfInputs}
use Rattle.dtx_meaning.specs.declared.status.Outcome.{Outcome}
use Rattle.dtx_meaning.specs.declared.status.Status.{Status}
use Rattle.dtx_meaning.specs.declared.status.Status.TheVariants.{Done, Memory}
use Rattle.dtx_forms.specs.Answers.{IsKnown, IsKnownAt, Knows, IsOfWords, same_behind}
use Rattle.dtx_words.specs.Fitting.{command_of, fit_fields, fits}
use Rattle.dtx_words.proofs.FittingLemmas.{command_fits}
use Rattle.dtx_words.specs.Line.{finished}
use Rattle.dtx_words.specs.Names.{names_at, repeated}
use Rattle.dtx_words.specs.Rows.{row_of}
use Rattle.dtx_words.specs.declared.rows.Command.{Command}
use Rattle.dtx_words.specs.declared.rows.Command.TheVariants.{Net, Trial}
use Rattle.dtx_words.specs.declared.rows.Field.{Field}
use Rattle.dtx_words.specs.declared.rows.Field.TheVariants.{Number, Within, Second}
use Rattle.dtx_top.specs.Ends.{IsByWords, IsOfCommand}
use Rattle.dtx_top.specs.NetAnswers.{IsOfNetwork}
use Rattle.dtx_top.proofs.Ending.{finished_failed}

-- ---- what a command knows

-- each label of its line has a number
pub known_numbers : (command : Command) (outcome : Outcome) → IsKnown command outcome → outcome.status ≡ Done
    → length outcome.numbers ≡ length (row_of command).labels
known_numbers command outcome is done = subst (λ (s : Status). IsKnownAt command s outcome.numbers) done is

known_at : (command : Command) (status : Status) (numbers : List ℕ) → IsKnownAt command status numbers
    → Knows command status
known_at command Done numbers is = tt
known_at command status numbers is = is

-- its status is known
pub known_status : (command : Command) (outcome : Outcome) → IsKnown command outcome → Knows command outcome.status
known_status command outcome is = known_at command outcome.status outcome.numbers is

-- ---- words that fit

-- a number that is there
some_told : (number : Option ℕ) (same : Option Bool) (inputs : ℕ) (status : Status) → is_some number ≡ true
    → IsOfWords (option_and number same) inputs status → IsOfWords same inputs status
some_told None same inputs status there is = let e : false ≡ true = there in cc
some_told (Some number) same inputs status there is = is

-- they can be read, and so it is the names that tell the answer
names_told : (names all : List (List ℕ)) (fields : List Field) (words : List (List ℕ)) (inputs : ℕ) (status : Status)
    → names ++ names_at fields words ≡ all → fit_fields fields words ≡ true
    → IsOfWords (same_behind names fields words) inputs status → IsOfInputs (is_some (repeated all)) inputs status
names_told names all [] [] inputs status same fit is = grind (arith, append-nil)
names_told names all [] (word ∷ words) inputs status same fit is = let e : false ≡ true = fit in cc
names_told names all (field ∷ fields) [] inputs status same fit is = let e : false ≡ true = fit in cc
names_told names all (Number most ∷ fields) (word ∷ words) inputs status same fit is =
    let parts = and_parts _ _ fit in
    names_told names all fields words inputs status same parts.1 (some_told _ _ inputs status parts.0 is)
names_told names all (Within least most ∷ fields) (word ∷ words) inputs status same fit is =
    let parts = and_parts _ _ fit in
    names_told names all fields words inputs status same parts.1 (some_told _ _ inputs status parts.0 is)
names_told names all (Second second ∷ fields) (word ∷ words) inputs status same fit is =
    names_told names all fields words inputs status same (and_parts _ _ fit).1 is
names_told names all (field ∷ fields) (word ∷ words) inputs status same fit is =
    names_told (names ++ word ∷ []) all fields words inputs status
    (append_assoc names (word ∷ []) (names_at fields words) ∙ same) (and_parts _ _ fit).1 is

-- words that fit a command
fitted_told : (command : Command) (words : List (List ℕ)) (outcome : Outcome) → fits command words ≡ true
    → IsOfCommand (Some command) words outcome → IsByWords (Some command) words outcome.status
fitted_told command [] outcome fit is = let e : false ≡ true = fit in cc
fitted_told Net (verb ∷ words) outcome fit is = grind (arith, and_parts)
fitted_told Trial (verb ∷ words) outcome fit is = grind (arith, names_told, and_parts, known_status)
fitted_told command (verb ∷ words) outcome fit is = (
  names_told [] _ (row_of command).fields words _ outcome.status refl (and_parts _ _ fit).1 is.0,
  known_status command outcome is.1,
)

-- ---- behind the line

-- the answer of a network, whose line was printed so
network_finished : (status : Status) (line : Result (Unit {0}) SinkNo) → IsOfNetwork status
    → IsOfNetwork (finished status line)
network_finished status (Ok u) is = is
network_finished status (Err sink.Memory) is = tt
network_finished status (Err sink.Failed) is = grind (arith, finished_failed)

by_words_finished : (command : Command) (words : List (List ℕ)) (status : Status) (line : Result (Unit {0}) SinkNo)
    → IsByWords (Some command) words status → IsByWords (Some command) words (finished status line)
by_words_finished Net words status line is = network_finished status line is
by_words_finished command words status line is = grind (arith, finished_failed)

-- the command that the words fit, behind its line
pub words_told : (command : Option Command) (words : List (List ℕ)) (outcome : Outcome)
    (line : Result (Unit {0}) SinkNo) → command_of words ≡ command → IsOfCommand command words outcome
    → IsByWords command words (finished outcome.status line)
words_told None words outcome line is answer = grind arith
words_told (Some command) words outcome line is answer = grind (arith, by_words_finished, fitted_told, command_fits)
