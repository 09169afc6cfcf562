-- Which answers a command can give (`IsKnown`): it refuses only what its row says, and its line is whole. Also what the
-- words alone say of an answer.
use Rattle.std.specs.Prelude.{◌≡◌, ℕ, Bool, true, false, List, length, is_some, [], ◌∷◌, ◌++◌, Option, Some, None}
use Rattle.std.specs.List.{list_any}
use Rattle.dtx_meaning.specs.declared.status.Outcome.{Outcome}
use Rattle.dtx_meaning.specs.declared.status.Status.{Status}
use Rattle.dtx_meaning.specs.declared.status.Status.TheVariants.{Done, Plan, Packet, TooLong, OutOfFeed, OutOfAir}
use Rattle.dtx_meaning.specs.declared.status.Status.TheVariants.{NoSync, Usage}
use Rattle.dtx_words.specs.Rows.{Refusal, plan, packet, too_long, out_of_feed, out_of_air, no_sync, row_of}
use Rattle.dtx_words.specs.declared.rows.Command.{Command}
use Rattle.std.specs.Option.{option_and}
use Rattle.dtx_meaning.specs.Status.{IsOfInputs}
use Rattle.dtx_words.specs.Names.{repeated}
use Rattle.dtx_words.specs.Fitting.{number_in, number_within}
use Rattle.dtx_words.specs.declared.rows.Field.{Field}
use Rattle.dtx_words.specs.declared.rows.Field.TheVariants.{Number, Within, Second}

-- the two are the same refusal
abbrev pub are_same : Refusal → Refusal → Bool
are_same plan plan = true
are_same packet packet = true
are_same too_long too_long = true
are_same out_of_feed out_of_feed = true
are_same out_of_air out_of_air = true
are_same no_sync no_sync = true
are_same first second = false

abbrev pub Where : Bool → Type 0
Where true = Unit {0}
Where false = ⊥

-- the row of the command says that it may refuse so
abbrev pub MayRefuse : Command → Refusal → Type 0
MayRefuse command refusal = Where (list_any (are_same refusal) (row_of command).refuses)

-- The command can answer this status, whatever the words and the files are. It refuses a plan only if it reads one, a
-- packet only if it judges packets, and so on. Every command can answer any other status. Its words say which input can
-- be absent (`IsOfWords`).
abbrev pub Knows : Command → Status → Type 0
Knows command (Plan refusal) = MayRefuse command plan
Knows command (Packet k) = MayRefuse command packet
Knows command TooLong = MayRefuse command too_long
Knows command (OutOfFeed event) = MayRefuse command out_of_feed
Knows command (OutOfAir entry) = MayRefuse command out_of_air
Knows command NoSync = MayRefuse command no_sync
Knows command status = Unit {0}

-- the same with these numbers
abbrev pub IsKnownAt : Command → Status → List ℕ → Type 0
IsKnownAt command Done numbers = length numbers ≡ length (row_of command).labels
IsKnownAt command status numbers = Knows command status

-- The command can give this answer. If it is done, each label of its line has a number.
abbrev pub IsKnown : Command → Outcome → Type 0
IsKnown command outcome = IsKnownAt command outcome.status outcome.numbers

-- whether two are equal among these names and those of the words, where the words can be read as these fields
abbrev pub same_behind : List (List ℕ) → List Field → List (List ℕ) → Option Bool
same_behind names [] [] = Some (is_some (repeated names))
same_behind names [] (word ∷ words) = None
same_behind names (field ∷ fields) [] = None
same_behind names (Number most ∷ fields) (word ∷ words) =
    option_and (number_in most word) (same_behind names fields words)
same_behind names (Within least most ∷ fields) (word ∷ words) =
    option_and (number_within least most word) (same_behind names fields words)
same_behind names (Second second ∷ fields) (word ∷ words) = same_behind names fields words
-- the others are names
same_behind names (field ∷ fields) (word ∷ words) = same_behind (names ++ word ∷ []) fields words

-- whether two of the names are equal, where the words behind the first one can be read as these fields
abbrev pub same_in : List Field → List (List ℕ) → Option Bool
same_in fields [] = None
same_in fields (verb ∷ words) = same_behind [] fields words

-- Words that can't be read are answered `Usage`, and no others are. Words that can be are answered `Same` exactly where
-- two names are equal, unless memory runs out. `Absent` has the number of an input that they name.
abbrev pub IsOfWords : Option Bool → ℕ → Status → Type 0
IsOfWords None inputs status = status ≡ Usage
IsOfWords (Some same) inputs status = IsOfInputs same inputs status
