-- What a command means, and when a meaning is carried out.
use Rattle.std.specs.Prelude.{◌≡◌, ◌≢◌, ◌⊎◌, ℕ, List, [], ◌∷◌, ◌++◌, Option, zero, suc, take, drop}
use Rattle.std.specs.Option.{option_map}
use Rattle.dtx_outside.specs.Shelf.{Files, with_file}
use Rattle.dtx_meaning.specs.Status.{IsFault, ended}
use Rattle.dtx_meaning.specs.declared.status.Outcome.{Outcome}
use Rattle.dtx_meaning.specs.declared.status.Status.{Status}
use Rattle.dtx_meaning.specs.declared.status.Status.TheVariants.{Done, WriteFault}

-- names and bytes of the files that a command writes, in the order in which it begins them
abbrev pub Outputs : Type 0
Outputs = List (List ℕ × List ℕ)

-- How a command answers and what it writes where nothing fails: a function of its words and of the files.
pub record Meaning : Type 0 where
  -- the status, and the numbers of its line
  pub outcome : Outcome
  pub outputs : Outputs

-- an answer that writes nothing
abbrev pub refused : Status → Meaning
refused status = record { outcome = ended status; outputs = [] }

-- one meaning and then another, with the second one's answer and the outputs of both
abbrev pub and_then : Meaning → Meaning → Meaning
and_then first second = record { outcome = second.outcome; outputs = first.outputs ++ second.outputs }

-- ---- the files

-- the files, in which each output holds its bytes
abbrev pub with_outputs : Outputs → Option Files → Option Files
with_outputs [] start = start
with_outputs (o ∷ rest) start = with_outputs rest (option_map (with_file o.0 o.1) start)

-- the first list is a prefix of the second
abbrev pub IsFrontOf : List ℕ → List ℕ → Type 0
IsFrontOf front whole = (rest : List ℕ) × (front ++ rest ≡ whole)

-- some of the first outputs were begun, each holds a prefix of its bytes, and no other file was touched
abbrev pub ArePartWritten : Outputs → Option Files → Option Files → Type 0
ArePartWritten [] start now = now ≡ start
ArePartWritten (o ∷ rest) start now =
    (now ≡ start) ⊎ ((front : List ℕ) × IsFrontOf front o.1
    × ArePartWritten rest (option_map (with_file o.0 front) start) now)

-- no output has this name
abbrev pub IsNoOutput : List ℕ → Outputs → Type 0
IsNoOutput name [] = Unit {0}
IsNoOutput name (o ∷ rest) = (name ≢ o.0) × IsNoOutput name rest

-- ---- carrying it out

-- the answer is the meaning's, each output is whole, and no other file was touched
pub record IsWhole (meaning : Meaning) (start : Option Files) (outcome : Outcome) (now : Option Files) : Type 0 where
  pub answer : outcome ≡ meaning.outcome
  pub files : now ≡ with_outputs meaning.outputs start

-- An I/O error or lack of memory was met, and some of the first outputs were begun, each with a prefix of its bytes. A
-- write error is met only if the meaning has outputs.
pub record IsBroken (meaning : Meaning) (start : Option Files) (outcome : Outcome) (now : Option Files) : Type 0 where
  pub fault : IsFault outcome.status
  pub writing : outcome.status ≡ WriteFault → meaning.outputs ≢ []
  pub files : ArePartWritten meaning.outputs start now

-- the meaning was carried out, whole or up to an I/O error or lack of memory
abbrev pub IsCarriedOut : Meaning → Option Files → Outcome → Option Files → Type 0
IsCarriedOut meaning start outcome now = IsWhole meaning start outcome now ⊎ IsBroken meaning start outcome now

-- ---- and with its line

-- the final status is the meaning's, each output is whole, and no other file was touched
pub record IsAnswered (meaning : Meaning) (start : Option Files) (status : Status) (now : Option Files) : Type 0 where
  pub answer : status ≡ meaning.outcome.status
  pub files : now ≡ with_outputs meaning.outputs start

-- The final status is an I/O error or out of memory, and some of the first outputs were begun, each with a prefix of
-- its bytes. The status is a write error only if the meaning has outputs.
pub record IsFaulted (meaning : Meaning) (start : Option Files) (status : Status) (now : Option Files) : Type 0 where
  pub fault : IsFault status
  pub writing : status ≡ WriteFault → meaning.outputs ≢ []
  pub files : ArePartWritten meaning.outputs start now

-- The meaning is done, each output is whole, and only the line could not be printed. `unprinted` is the evidence for
-- that.
pub record IsUnprinted (meaning : Meaning) (start : Option Files) (status : Status) (unprinted : Type 0)
    (now : Option Files) : Type 0 where
  pub answer : status ≡ WriteFault
  pub cause : unprinted
  pub done : meaning.outcome.status ≡ Done
  pub files : now ≡ with_outputs meaning.outputs start

-- How a call ends that carries out a meaning and prints its line. Either the status is the meaning's, with its outputs
-- whole. Or there was an I/O error or lack of memory, and the outputs hold prefixes. Or all was done and only the line
-- could not be printed. Lack of memory while a line is printed belongs to the second case, which says prefixes and no
-- more.
abbrev pub IsDone : Meaning → Option Files → Status → Type 0 → Option Files → Type 0
IsDone meaning start status unprinted now =
    IsAnswered meaning start status now
    ⊎ (IsFaulted meaning start status now ⊎ IsUnprinted meaning start status unprinted now)

-- n units of `unit` bytes, each changed in place, where the bytes `given` came before them
abbrev pub each : ℕ → (List ℕ → List ℕ → List ℕ) → List ℕ → ℕ → List ℕ → List ℕ
each unit changed given zero bytes = []
each unit changed given (suc n) bytes =
    changed given (take unit bytes) ++ each unit changed (given ++ take unit bytes) n (drop unit bytes)
