-- A call that is done over files that are told: what its words mean of the input's file is done, and its output is
-- whole.
use Rattle.std.proofs.Common.{◌≡◌, ◌⊎◌, ℕ, ◌≤◌, cond, Bool, true, false, List, [], ◌∷◌, refl, sym, ap, subst, ◌∙◌, inl}
use Rattle.std.proofs.Common.{inr, arith}
use Rattle.std.specs.Prelude.{Option, Some, None, IfSome}
use Rattle.std.specs.FinMap.{get}
use Rattle.std.proofs.lemmas.Bool.{ltb-false}
use Rattle.dtx_engine.specs.Recipe.{Recipe, first_refused, meaning, meaning_of_file, whole_units}
use Rattle.dtx_engine.specs.declared.engine.Shape.{Shape}
use Rattle.dtx_meaning.specs.Meaning.{IsAnswered, IsDone, Meaning, refused, with_outputs}
use Rattle.dtx_meaning.specs.Status.{IsFault}
use Rattle.dtx_meaning.proofs.MeaningLemmas.{status_of_done}
use Rattle.dtx_meaning.specs.declared.status.Status.{Status}
use Rattle.dtx_meaning.specs.declared.status.Status.TheVariants.{Done, Same}
use Rattle.dtx_outside.specs.Shelf.{Files}
use Rattle.dtx_outside.specs.Sink.{SinkCounts}
use Rattle.dtx_outside.proofs.FilesLemmas.{get-insert_same}
use Rattle.dtx_words.specs.Fitting.{command_of}
use Rattle.dtx_words.specs.declared.rows.Command.{Command}
use Rattle.dtx_words.specs.Line.{done_line}
use Rattle.dtx_words.specs.Printed.{printed}
use Rattle.dtx_top.specs.Lines.{HasLine, IsToldLine}
use Rattle.dtx_top.specs.Jobs.{means, means_of}
use Rattle.dtx_file_laws.specs.Back.{Holds}

-- ---- the answer

-- an answer that all is done is the meaning's, and its outputs are whole
pub answered_of : (m : Meaning) (start now : Option Files) (status : Status) (unprinted : Type 0)
    → IsDone m start status unprinted now → status ≡ Done → IsAnswered m start status now
answered_of m start now status unprinted is done = elim is [
  | inl answered ↦ answered
  | inr other ↦ grind arith
]

-- ---- the words

-- what is meant of an input, unless two names are equal
abbrev pub unless : Bool → Shape → Recipe → ℕ → List (List ℕ) → List ℕ → Files → Meaning
unless same shape recipe which names input held =
    cond same (refused Same) (meaning shape recipe which names (get held input))

-- The words fit that command, or none; and what they mean then is made of an input, unless two names are equal.
pub record IsRead (words : List (List ℕ)) (fit : Bool) (c : Command) (same : Bool) (shape : Shape) (recipe : Recipe)
    (which : ℕ) (names : List (List ℕ)) (input : List ℕ) (held : Files) : Type 0 where
  pub fits : command_of words ≡ cond fit (Some c) None
  pub reads : means_of (Some c) words held ≡ unless same shape recipe which names input held

-- where what words mean is done, they fit the command
means_fit : (words : List (List ℕ)) (held : Files) (fit : Bool) (c : Command)
    → command_of words ≡ cond fit (Some c) None → (means words held).outcome.status ≡ Done → fit ≡ true
means_fit words held fit c is done = grind arith

not_same : (same : Bool) (shape : Shape) (recipe : Recipe) (which : ℕ) (names : List (List ℕ)) (input : List ℕ)
    (held : Files) → (unless same shape recipe which names input held).outcome.status ≡ Done → same ≡ false
not_same true shape recipe which names input held d = let e : Same ≡ Done = d in absurd (let no : ⊥ = cc in no)
not_same false shape recipe which names input held d = refl

-- the command that the words fit
fitting : (words : List (List ℕ)) (fit : Bool) (c : Command) → command_of words ≡ cond fit (Some c) None → fit ≡ true
    → command_of words ≡ Some c
fitting words fit c is fits = is ∙ ap (λ (t : Bool). cond {A = Option Command} t (Some c) None) fits

-- what words mean that fit, whose names are different, and whose input is there
pub means_file : (words : List (List ℕ)) (fit : Bool) (c : Command) (same : Bool) (shape : Shape) (recipe : Recipe)
    (which : ℕ) (names : List (List ℕ)) (input file : List ℕ) (held : Files)
    → IsRead words fit c same shape recipe which names input held → fit ≡ true → same ≡ false
    → get held input ≡ Some file → means words held ≡ meaning_of_file shape recipe names file
means_file words fit c same shape recipe which names input file held read fits apart there = grind (arith, fitting)

-- and so where it is done
record IsFitting (words : List (List ℕ)) (fit same : Bool) : Type 0 where
  pub fits : fit ≡ true
  pub apart : same ≡ false

done_fits : (words : List (List ℕ)) (fit : Bool) (c : Command) (same : Bool) (shape : Shape) (recipe : Recipe)
    (which : ℕ) (names : List (List ℕ)) (input : List ℕ) (held : Files)
    → IsRead words fit c same shape recipe which names input held
    → (means words held).outcome.status ≡ Done → IsFitting words fit same
done_fits words fit c same shape recipe which names input held read done = grind (arith, means_fit, fitting, not_same)

-- ---- the call

-- it answers that all is done
pub answered : (words : List (List ℕ)) (fit : Bool) (c : Command) (same : Bool) (shape : Shape) (recipe : Recipe)
    (which : ℕ) (names : List (List ℕ)) (input file : List ℕ) (held : Files) (now : Option Files) (status : Status)
    (unprinted : Type 0) → IsRead words fit c same shape recipe which names input held → get held input ≡ Some file
    → status ≡ Done → IsDone (means words held) (Some held) status unprinted now
    → IsAnswered (meaning_of_file shape recipe names file) (Some held) status now
answered words fit c same shape recipe which names input file held now status unprinted read there done carried =
    grind (arith, answered_of, fitting, done_fits, means_file)

-- it answers what is meant, or a fault
pub ended_so : (words : List (List ℕ)) (fit : Bool) (c : Command) (same : Bool) (shape : Shape) (recipe : Recipe)
    (which : ℕ) (names : List (List ℕ)) (input file : List ℕ) (held : Files) (now : Option Files) (status : Status)
    (unprinted : Type 0) → IsRead words fit c same shape recipe which names input held → fit ≡ true → same ≡ false
    → get held input ≡ Some file → IsDone (means words held) (Some held) status unprinted now
    → (status ≡ (meaning_of_file shape recipe names file).outcome.status) ⊎ IsFault status
ended_so words fit c same shape recipe which names input file held now status unprinted read fits apart there carried =
    grind (arith, means_file, status_of_done)

-- and its line
pub lined : (words : List (List ℕ)) (fit : Bool) (c : Command) (same : Bool) (shape : Shape) (recipe : Recipe)
    (which : ℕ) (names : List (List ℕ)) (input file : List ℕ) (held : Files) (old new : Option (List ℕ))
    (status : Status) (first last : SinkCounts) → IsRead words fit c same shape recipe which names input held
    → get held input ≡ Some file
    → status ≡ Done → HasLine (IsToldLine (command_of words) words held) status first last old new
    → new ≡ printed (done_line (Some c) (meaning_of_file shape recipe names file).outcome) old
lined words fit c same shape recipe which names input file held old new status first last read there done line =
    grind (arith, done_fits, means_file, fitting)

-- ---- the input

-- all units of an input were allowed, and were not too many
pub record IsReadWhole (shape : Shape) (recipe : Recipe) (file : List ℕ) : Type 0 where
  pub allowed : first_refused shape recipe file ≡ None
  pub few : whole_units shape file ≤ shape.limit

pub read_whole : (shape : Shape) (recipe : Recipe) (names : List (List ℕ)) (file : List ℕ)
    → (meaning_of_file shape recipe names file).outcome.status ≡ Done → IsReadWhole shape recipe file
read_whole shape recipe names file done = grind (arith, ltb-false)

-- ---- the output

pub one_holds : (m : Meaning) (name bytes : List ℕ) (held : Files) (now : Option Files) (status : Status)
    → m.outputs ≡ (name, bytes) ∷ [] → IsAnswered m (Some held) status now → Holds now name bytes
one_holds m name bytes held now status is answered =
    let P : Option Files → Type 0 = λ (o : Option Files). Holds o name bytes in
    subst P (sym (answered.files ∙ ap (λ outputs. with_outputs outputs (Some held)) is))
    (get-insert_same held name bytes)

-- what holds of the files of a shelf that tells them
pub if_so : {X : Type 0} (o : Option X) (P Q : X → Type 0) → ((x : X) → P x → Q x) → IfSome o P → IfSome o Q
if_so None P Q f h = h
if_so (Some x) P Q f h = f x h
