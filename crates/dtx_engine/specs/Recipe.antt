-- Recipes: what is made of an input that is read in units. Also what a command means that follows one.
use Rattle.std.specs.Prelude.{◌≡◌, ℕ, ◌*◌, ◌/◌, ◌%◌, ◌<◌, ◌≤◌, ◌^◌, Bool, not, min, nat_lt, if◌then◌else◌, List, []}
use Rattle.std.specs.Prelude.{◌⊎◌, false, ◌∷◌, ◌++◌, length, take, drop, Option, Some, None}
use Rattle.std.specs.FinMap.{get}
use Rattle.std.specs.List.{find, range_with_len}
use Rattle.std.specs.Str.{bytes_eq}
use Rattle.dtx_outside.specs.Shelf.{Files}
use Rattle.dtx_meaning.specs.Meaning.{Meaning, refused, each}
use Rattle.dtx_meaning.specs.Status.{ended}
use Rattle.dtx_meaning.specs.declared.status.Outcome.{Outcome}
use Rattle.dtx_meaning.specs.declared.status.Status.{Status}
use Rattle.dtx_meaning.specs.declared.status.Status.TheVariants.{Absent, Packet, Same, TooLong, ReadFault, WriteFault}
use Rattle.dtx_meaning.specs.declared.status.Status.TheVariants.{Memory}
use Rattle.dtx_engine.specs.Made.{Made, joined, outputs_of, only}
use Rattle.dtx_engine.specs.declared.engine.Shape.{Shape}
use Rattle.dtx_engine.specs.declared.piece.Ending.{Ending}
use Rattle.dtx_engine.specs.declared.piece.Ending.TheVariants.{Whole, Refused}

-- Which units are allowed (by number and bytes), what is made of the bytes of whole units, and what the end adds to it.
-- Also the outcome when all units were read, given their bytes and how many loose bytes follow them.
pub record Recipe : Type 0 where
  pub allows : ℕ → List ℕ → Bool
  pub made : List ℕ → Made
  pub rest : List ℕ → Made
  pub answer : List ℕ → ℕ → Outcome

-- this is the recipe's answer at the end of some input
abbrev pub IsEndOf : Recipe → Outcome → Type 0
IsEndOf recipe outcome = (given : List ℕ) × (loose : ℕ) × (outcome ≡ recipe.answer given loose)

-- the outcome, with this status, is one that the recipe allows
abbrev pub IsAnswerAt : Recipe → Status → Outcome → Type 0
IsAnswerAt recipe (Packet k) outcome = ((unit : List ℕ) × (recipe.allows k unit ≡ false)) ⊎ IsEndOf recipe outcome
IsAnswerAt recipe TooLong outcome = Unit {0}
IsAnswerAt recipe (Absent input) outcome = Unit {0}
IsAnswerAt recipe ReadFault outcome = Unit {0}
IsAnswerAt recipe WriteFault outcome = Unit {0}
IsAnswerAt recipe Memory outcome = Unit {0}
IsAnswerAt recipe status outcome = IsEndOf recipe outcome

-- The answers that a recipe allows, whatever the input holds. A unit isn't allowed, there are too many units, or the
-- input isn't there. Or it is the recipe's own answer at the end, or there was an I/O error or out of memory.
abbrev pub IsAnswerOf : Recipe → Outcome → Type 0
IsAnswerOf recipe outcome = IsAnswerAt recipe outcome.status outcome

-- A shape in which an input can be read. A unit, a piece and a group aren't empty, and a piece is whole groups. A piece
-- has at most 2^24 bytes, and an input at most 2^62.
pub record IsSound (shape : Shape) : Type 0 where
  pub unit : 0 < shape.unit
  pub units : 0 < shape.units
  pub group : 0 < shape.group
  pub grouped : shape.units % shape.group ≡ 0
  pub piece : shape.unit * shape.units ≤ 2 ^ 24
  pub most : shape.unit * shape.limit ≤ 2 ^ 62

-- an engine that was given the bytes `given` was given `bytes` next, and has made `gives` of them
pub record IsFed (recipe : Recipe) (given bytes : List ℕ) (stands : List ℕ → Type 0) (gives : Made) : Type 0 where
  pub stand : stands (given ++ bytes)
  pub made : recipe.made (given ++ bytes) ≡ joined (recipe.made given) gives

-- some `count` bytes were given
abbrev pub AreSomeGiven : ℕ → (List ℕ → Type 0) → Type 0
AreSomeGiven count stands = (given : List ℕ) × (length given ≡ count) × stands given

-- some whole units were given, at most as many as the limit allows
abbrev pub AreUnitsGiven : Shape → (List ℕ → Type 0) → Type 0
AreUnitsGiven shape stands = (units : ℕ) × (units ≤ shape.limit) × AreSomeGiven (shape.unit * units) stands

-- ---- units of a file

-- how many whole units a file has
abbrev pub whole_units : Shape → List ℕ → ℕ
whole_units shape file = length file / shape.unit

-- unit k of a file
abbrev pub unit_at : Shape → List ℕ → ℕ → List ℕ
unit_at shape file k = take shape.unit (drop (shape.unit * k) file)

-- the first units of a file
abbrev pub first_units : Shape → List ℕ → ℕ → List ℕ
first_units shape file count = take (shape.unit * count) file

-- the number of the first unit that isn't allowed, among the units within the limit
unfoldable pub first_refused : Shape → Recipe → List ℕ → Option ℕ
first_refused shape recipe file = find (λ k. not (recipe.allows k (unit_at shape file k)))
    (range_with_len 0 (min (whole_units shape file) shape.limit))

-- ---- the meaning

-- how many units something is made of, and how the input ends
pub record Course : Type 0 where
  pub taken : ℕ
  pub ending : Ending

-- the input ends before the group of its first unit that isn't allowed, or at the limit, or with its last whole unit
abbrev pub course_from : Shape → List ℕ → Option ℕ → Course
course_from shape file (Some k) = record { taken = k / shape.group * shape.group; ending = Refused (Packet k) }
course_from shape file None =
    if nat_lt shape.limit (whole_units shape file) then record { taken = shape.limit; ending = Refused TooLong }
    else record { taken = whole_units shape file; ending = Whole (length file % shape.unit) }

abbrev pub course : Shape → Recipe → List ℕ → Course
course shape recipe file = course_from shape file (first_refused shape recipe file)

-- the answer, where these bytes were given and the input ended so
abbrev pub answer_at : Recipe → List ℕ → Ending → Outcome
answer_at recipe given (Whole loose) = recipe.answer given loose
answer_at recipe given (Refused status) = ended status

-- what is made then
abbrev pub made_at : Recipe → List ℕ → Ending → Made
made_at recipe given (Whole loose) = joined (recipe.made given) (recipe.rest given)
made_at recipe given (Refused status) = recipe.made given

-- the meaning then, with outputs of these names
abbrev pub meaning_at : Recipe → List (List ℕ) → List ℕ → Ending → Meaning
meaning_at recipe names given ending =
    record { outcome = answer_at recipe given ending; outputs = outputs_of names (made_at recipe given ending) }

-- the meaning over the bytes of an input: something is made of the units that its course takes
abbrev pub meaning_of_file : Shape → Recipe → List (List ℕ) → List ℕ → Meaning
meaning_of_file shape recipe names file =
    meaning_at recipe names (first_units shape file (course shape recipe file).taken) (course shape recipe file).ending

-- the meaning over an input that may be absent: `which` is its number, and the outputs have these names
abbrev pub meaning : Shape → Recipe → ℕ → List (List ℕ) → Option (List ℕ) → Meaning
meaning shape recipe which names None = refused (Absent which)
meaning shape recipe which names (Some file) = meaning_of_file shape recipe names file

-- what a command `.. IN OUT` means, where OUT is made of IN alone
abbrev pub transformed : Shape → Recipe → List ℕ → List ℕ → Files → Meaning
transformed shape recipe input output held =
    if bytes_eq input output then refused Same else meaning shape recipe 0 (output ∷ []) (get held input)

-- the recipe of an input whose units are each changed in place
abbrev pub each_making
    : Shape → (ℕ → List ℕ → Bool) → (List ℕ → List ℕ → List ℕ) → (List ℕ → ℕ → Outcome) → Recipe
each_making shape allowed changed answer = record {
  allows = allowed;
  made = λ bytes. only (each shape.unit changed [] (length bytes / shape.unit) bytes);
  rest = λ _. only [];
  answer = answer;
}
