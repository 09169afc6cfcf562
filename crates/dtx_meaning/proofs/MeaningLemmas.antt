-- Lemmas of meanings that are carried out: what a refusal and a fault leave, what is whole and what is a part, and one
-- meaning after the other.
use Rattle.std.specs.Prelude.{◌≡◌, ◌≢◌, ◌⊎◌, ℕ, ◌<◌, Bool, false, List, [], ◌∷◌, ◌++◌, Option, Some, None, IfSome, refl}
use Rattle.std.specs.Option.{option_map}
use Rattle.std.specs.FinMap.{get}
use Rattle.std.proofs.Common.{arith, sym, ap, ◌∙◌, subst, inl, inr}
use Rattle.std.proofs.lemmas.List.{append-nil}
use Rattle.dtx_outside.specs.Counts.{Blame, Counts, HasGone}
use Rattle.dtx_outside.specs.Shelf.{Files, with_file, IsSameAt}
use Rattle.dtx_outside.proofs.WrittenLemmas.{IsSameAt-written}
use Rattle.dtx_outside.specs.declared.shelf.WriteNo.{WriteNo}
use Rattle.dtx_outside.specs.declared.shelf.WriteNo.TheVariants as write
use Rattle.dtx_meaning.specs.Meaning.{Outputs, Meaning, refused, and_then, with_outputs, ArePartWritten, IsNoOutput}
use Rattle.dtx_meaning.specs.Meaning.{IsWhole, IsBroken, IsCarriedOut, IsDone}
use Rattle.dtx_meaning.specs.Status.{IsFault, IsOfBytes, IsOfInput, IsOfInputs, IsPresent, blame_of, ended, of_write}
use Rattle.dtx_meaning.specs.Status.{refused_behind}
use Rattle.dtx_meaning.specs.declared.status.Outcome.{Outcome}
use Rattle.dtx_meaning.specs.declared.status.Status.{Status}
use Rattle.dtx_meaning.specs.declared.status.Status.TheVariants.{Done, Usage, Same, Absent, Plan, Packet, TooLong}
use Rattle.dtx_meaning.specs.declared.status.Status.TheVariants.{OutOfFeed, OutOfAir, NoSync, ReadFault, WriteFault}
use Rattle.dtx_meaning.specs.declared.status.Status.TheVariants.{Memory}

-- ---- outputs

-- nothing was begun
pub part_of_none : (outputs : Outputs) (start now : Option Files) → now ≡ start → ArePartWritten outputs start now
part_of_none [] start now same = same
part_of_none (o ∷ rest) start now same = inl same

-- whole outputs are front parts of themselves
pub part_of_whole : (outputs : Outputs) (start : Option Files)
    → ArePartWritten outputs start (with_outputs outputs start)
part_of_whole [] start = refl
part_of_whole (o ∷ rest) start =
    inr (o.1, ([], append-nil o.1), part_of_whole rest (option_map (with_file o.0 o.1) start))

pub part_of_files : (outputs : Outputs) (start now : Option Files) → now ≡ with_outputs outputs start
    → ArePartWritten outputs start now
part_of_files outputs start now is =
    subst (λ (f : Option Files). ArePartWritten outputs start f) (sym is) (part_of_whole outputs start)

-- first some outputs, then the others
pub with_outputs-append : (a b : Outputs) (start : Option Files)
    → with_outputs (a ++ b) start ≡ with_outputs b (with_outputs a start)
with_outputs-append [] b start = refl
with_outputs-append (o ∷ a) b start = with_outputs-append a b (option_map (with_file o.0 o.1) start)

-- the first outputs whole, and a front part of the others
pub part_behind : (a b : Outputs) (start now : Option Files) → ArePartWritten b (with_outputs a start) now
    → ArePartWritten (a ++ b) start now
part_behind [] b start now part = part
part_behind (o ∷ a) b start now part =
    inr (o.1, ([], append-nil o.1), part_behind a b (option_map (with_file o.0 o.1) start) now part)

-- a front part of the first outputs
pub part_before : (a b : Outputs) (start now : Option Files) → ArePartWritten a start now
    → ArePartWritten (a ++ b) start now
part_before [] b start now part = part_of_none b start now part
part_before (o ∷ a) b start now part = elim part [
  | inl same ↦ inl same
  | inr begun ↦ inr (begun.0, begun.1, part_before a b (option_map (with_file o.0 begun.0) start) now begun.2)
]

same_at_begun : (o : List ℕ × List ℕ) (rest : Outputs) (name : List ℕ) (start now : Option Files) → name ≢ o.0
    → (front : List ℕ) → ((begun : Option Files) → ArePartWritten rest begun now → IsSameAt name begun now)
    → ArePartWritten rest (option_map (with_file o.0 front) start) now → IsSameAt name start now
same_at_begun o rest name start now apart front further part =
    further (option_map (with_file o.0 front) start) part
    ∙ IsSameAt-written start (option_map (with_file o.0 front) start) o.0 front name apart refl

-- every other file stands as it stood
pub same_at_part : (outputs : Outputs) (name : List ℕ) (start now : Option Files) → IsNoOutput name outputs
    → ArePartWritten outputs start now → IsSameAt name start now
same_at_part [] name start now apart part = ap (option_map (λ held. get held name)) part
same_at_part (o ∷ rest) name start now apart part = elim part [
  | inl same ↦ ap (option_map (λ held. get held name)) same
  | inr begun ↦ same_at_begun o rest name start now apart.0 begun.0
      (λ s p. same_at_part rest name s now apart.1 p) begun.2
]

-- ---- refusals and faults

-- a refusal that touched nothing
pub carried_refused : (status : Status) (start now : Option Files) (outcome : Outcome) → now ≡ start
    → outcome ≡ ended status → IsCarriedOut (refused status) start outcome now
carried_refused status start now outcome same is = inl (record { answer = is; files = same })

-- a fault that was met before anything was touched, and is none of writing
pub carried_fault : (m : Meaning) (start now : Option Files) (outcome : Outcome) → now ≡ start
    → IsFault outcome.status → outcome.status ≢ WriteFault → IsCarriedOut m start outcome now
carried_fault m start now outcome same fault other = inr (record {
  fault = fault;
  writing = λ writing. absurd (other writing);
  files = part_of_none m.outputs start now same;
})

-- a fault, and front parts of some outputs
pub carried_part : (m : Meaning) (start now : Option Files) (outcome : Outcome) → IsFault outcome.status
    → m.outputs ≢ [] → ArePartWritten m.outputs start now → IsCarriedOut m start outcome now
carried_part m start now outcome fault some part =
    inr (record { fault = fault; writing = λ writing. some; files = part })

-- one meaning under another name
pub carried_as : (a b : Meaning) (start now : Option Files) (outcome : Outcome) → a ≡ b
    → IsCarriedOut b start outcome now → IsCarriedOut a start outcome now
carried_as a b start now outcome same is =
    subst (λ (m : Meaning). IsCarriedOut m start outcome now) (sym same) is

-- ---- the same over files that are told

-- a refusal that touched nothing, where that is what the meaning of the files is
pub refused_told : (means : Files → Meaning) (told now : Option Files) (status : Status) (outcome : Outcome)
    → ((held : Files) → told ≡ Some held → means held ≡ refused status) → now ≡ told → outcome ≡ ended status
    → IfSome told (λ held. IsCarriedOut (means held) (Some held) outcome now)
refused_told means None now status outcome same left is = tt
refused_told means (Some held) now status outcome same left is =
    carried_as (means held) (refused status) (Some held) now outcome (same held refl)
    (carried_refused status (Some held) now outcome left is)

-- one meaning under another name
pub carried_told : (means other : Files → Meaning) (told now : Option Files) (outcome : Outcome)
    → ((held : Files) → told ≡ Some held → means held ≡ other held)
    → IfSome told (λ held. IsCarriedOut (other held) (Some held) outcome now)
    → IfSome told (λ held. IsCarriedOut (means held) (Some held) outcome now)
carried_told means other None now outcome same is = tt
carried_told means other (Some held) now outcome same is =
    carried_as (means held) (other held) (Some held) now outcome (same held refl) is

-- ---- what follows of every meaning that is carried out

-- after every answer front parts of the outputs are written
pub part_of_carried : (m : Meaning) (start now : Option Files) (outcome : Outcome) → IsCarriedOut m start outcome now
    → ArePartWritten m.outputs start now
part_of_carried m start now outcome is = elim is [
  | inl whole ↦ part_of_files m.outputs start now whole.files
  | inr broken ↦ broken.files
]

-- where the meaning's own answer is a fault, a fault is met
pub fault_of_carried : (m : Meaning) (start now : Option Files) (outcome : Outcome) → IsFault m.outcome.status
    → IsCarriedOut m start outcome now → IsFault outcome.status
fault_of_carried m start now outcome fault is = elim is [
  | inl whole ↦ subst (λ (o : Outcome). IsFault o.status) (sym whole.answer) fault
  | inr broken ↦ broken.fault
]

-- an answer that is no fault is the meaning's, and its outputs are whole
pub whole_of_carried : (m : Meaning) (start now : Option Files) (outcome : Outcome) → IsCarriedOut m start outcome now
    → (IsFault outcome.status → ⊥) → IsWhole m start outcome now
whole_of_carried m start now outcome is sound = elim is [
  | inl whole ↦ whole
  | inr broken ↦ absurd (sound broken.fault)
]

-- every file but the outputs stands as it stood
pub same_at_carried : (m : Meaning) (name : List ℕ) (start now : Option Files) (outcome : Outcome)
    → IsNoOutput name m.outputs → IsCarriedOut m start outcome now → IsSameAt name start now
same_at_carried m name start now outcome apart is =
    same_at_part m.outputs name start now apart (part_of_carried m start now outcome is)

-- ---- one meaning after the other

-- first some outputs, then the others: there is one where either has one
some_behind : (a b : Outputs) → b ≢ [] → a ++ b ≢ []
some_behind [] b some = some
some_behind (o ∷ a) b some = λ none. cc

pub some_before : (a b : Outputs) → a ≢ [] → a ++ b ≢ []
some_before [] b some = absurd (some refl)
some_before (o ∷ a) b some = λ none. cc

-- the first was done, and then the second carried out
pub carried_then : (first second : Meaning) (start between now : Option Files) (outcome : Outcome)
    → between ≡ with_outputs first.outputs start → IsCarriedOut second between outcome now
    → IsCarriedOut (and_then first second) start outcome now
carried_then first second start between now outcome done is = elim is [
  | inl whole ↦ inl (record {
    answer = whole.answer;
    files = whole.files ∙ ap (with_outputs second.outputs) done
        ∙ sym (with_outputs-append first.outputs second.outputs start);
  })
  | inr broken ↦ inr (record {
    fault = broken.fault;
    writing = λ writing. some_behind first.outputs second.outputs (broken.writing writing);
    files = part_behind first.outputs second.outputs start now
        (subst (λ (s : Option Files). ArePartWritten second.outputs s now) done broken.files);
  })
]

-- the first met a fault
pub carried_before : (first second : Meaning) (start now : Option Files) (outcome : Outcome)
    → IsBroken first start outcome now → IsCarriedOut (and_then first second) start outcome now
carried_before first second start now outcome broken = inr (record {
  fault = broken.fault;
  writing = λ writing. some_before first.outputs second.outputs (broken.writing writing);
  files = part_before first.outputs second.outputs start now broken.files;
})

-- ---- the line

-- the answer's line was printed
pub done_printed : (m : Meaning) (start now : Option Files) (outcome : Outcome) (unprinted : Type 0)
    → IsCarriedOut m start outcome now → IsDone m start outcome.status unprinted now
done_printed m start now outcome unprinted is = elim is [
  | inl whole ↦ inl (record { answer = ap (λ (o : Outcome). o.status) whole.answer; files = whole.files })
  | inr broken ↦ inr (inl (record { fault = broken.fault; writing = broken.writing; files = broken.files }))
]

-- memory was wanted while the line was printed
pub done_wanting : (m : Meaning) (start now : Option Files) (outcome : Outcome) (unprinted : Type 0)
    → IsCarriedOut m start outcome now → IsDone m start Memory unprinted now
done_wanting m start now outcome unprinted is = inr (inl (record {
  fault = tt;
  writing = λ writing. let e : Memory ≡ WriteFault = writing in absurd (let no : ⊥ = cc in no);
  files = part_of_carried m start now outcome is;
}))

-- all was done, and the line alone could not be printed
pub done_unprinted : (m : Meaning) (start now : Option Files) (outcome : Outcome) (unprinted : Type 0)
    → IsCarriedOut m start outcome now → outcome.status ≡ Done → unprinted → IsDone m start WriteFault unprinted now
done_unprinted m start now outcome unprinted is done cause =
    let whole = whole_of_carried m start now outcome is
    (λ fault. let P : Status → Type 0 = λ s. IsFault s in subst P done fault) in
    inr (inr (record {
      answer = refl;
      cause = cause;
      done = sym (ap (λ (o : Outcome). o.status) whole.answer) ∙ done;
      files = whole.files;
    }))

-- front parts of the outputs are written, whatever came of the line
pub part_of_done : (m : Meaning) (start now : Option Files) (status : Status) (unprinted : Type 0)
    → IsDone m start status unprinted now → ArePartWritten m.outputs start now
part_of_done m start now status unprinted is = elim is [
  | inl answered ↦ part_of_files m.outputs start now answered.files
  | inr other ↦ elim other [
    | inl faulted ↦ faulted.files
    | inr unprinted ↦ part_of_files m.outputs start now unprinted.files
  ]
]

-- the answer is the meaning's, or a fault
pub status_of_done : (m : Meaning) (start now : Option Files) (status : Status) (unprinted : Type 0)
    → IsDone m start status unprinted now → (status ≡ m.outcome.status) ⊎ IsFault status
status_of_done m start now status unprinted is = elim is [
  | inl answered ↦ inl answered.answer
  | inr other ↦ elim other [
    | inl faulted ↦ inr faulted.fault
    | inr alone ↦ inr (let P : Status → Type 0 = λ s. IsFault s in subst P (sym alone.answer) tt)
  ]
]

-- every file but the outputs stands as it stood
pub same_at_done : (m : Meaning) (name : List ℕ) (start now : Option Files) (status : Status) (unprinted : Type 0)
    → IsNoOutput name m.outputs → IsDone m start status unprinted now → IsSameAt name start now
same_at_done m name start now status unprinted apart is =
    same_at_part m.outputs name start now apart (part_of_done m start now status unprinted is)

-- a refusal to write is a fault
pub write_is_fault : (cause : WriteNo) → IsFault (of_write cause)
write_is_fault write.Failed = tt
write_is_fault write.Memory = tt

-- ---- counts

-- lack of memory that is met behind an answer is blamed as that answer is
blame_behind : (first : Status) → blame_of first ≡ blame_of (refused_behind first Memory)
blame_behind Done = refl
blame_behind Usage = refl
blame_behind Same = refl
blame_behind (Absent input) = refl
blame_behind (Plan refusal) = refl
blame_behind (Packet k) = refl
blame_behind TooLong = refl
blame_behind (OutOfFeed event) = refl
blame_behind (OutOfAir entry) = refl
blame_behind NoSync = refl
blame_behind ReadFault = refl
blame_behind WriteFault = refl
blame_behind Memory = refl

-- an error of reading or writing that is met behind an answer is answered
read_behind : (first : Status) → ReadFault ≡ refused_behind first ReadFault
read_behind (Absent input) = refl
read_behind ReadFault = refl
read_behind WriteFault = refl
read_behind _ = refl

write_behind : (first : Status) → WriteFault ≡ refused_behind first WriteFault
write_behind (Absent input) = refl
write_behind ReadFault = refl
write_behind WriteFault = refl
write_behind _ = refl

-- the counts of a fault that is met behind another answer, which has its own
pub gone_over : (first status : Status) (before between now : Counts) → IsFault status
    → HasGone before between (blame_of first) → HasGone between now (blame_of status)
    → HasGone before now (blame_of (refused_behind first status))
gone_over first ReadFault before between now fault was last =
    let P : Status → Type 0 = λ s. HasGone before now (blame_of s) in
    subst P (read_behind first) (record {
      read_faults = omega (arith, was.read_faults, last.read_faults);
      write_faults = omega (arith, was.write_faults, last.write_faults);
      misses = omega (arith, was.misses, last.misses);
      risen = λ below. omega (arith, was.read_faults, last.risen below);
    })
gone_over first WriteFault before between now fault was last =
    let P : Status → Type 0 = λ s. HasGone before now (blame_of s) in
    subst P (write_behind first) (record {
      read_faults = omega (arith, was.read_faults, last.read_faults);
      write_faults = omega (arith, was.write_faults, last.write_faults);
      misses = omega (arith, was.misses, last.misses);
      risen = λ below. omega (arith, was.write_faults, last.risen below);
    })
gone_over first Memory before between now fault was last =
    subst (λ (b : Blame). HasGone before now b) (blame_behind first)
    (subst (λ (k : Counts). HasGone before k (blame_of first)) (sym last.risen) was)
gone_over first _ before between now fault was last = absurd fault

-- the answer of a call that is refused behind another one is one of the two
pub one_behind : (P : Status → Type 0) (first refusal : Status) → P first → P refusal
    → P (refused_behind first refusal)
one_behind P (Absent input) Memory was is = was
one_behind P ReadFault Memory was is = was
one_behind P WriteFault Memory was is = was
one_behind P first refusal was is = is

-- a fault that is met behind an answer that tells of no absent input is a fault
pub fault_behind : (first refusal : Status) → IsPresent first → IsFault refusal
    → IsFault (refused_behind first refusal)
fault_behind (Absent input) refusal present fault = absurd present
fault_behind ReadFault Memory present fault = tt
fault_behind WriteFault Memory present fault = tt
fault_behind first refusal present fault = fault

-- an answer to the bytes, and a fault, tell of no absent input
pub bytes_present : (status : Status) → IsOfBytes status → IsPresent status
bytes_present (Absent input) is = absurd is
bytes_present _ is = tt

pub fault_present : (status : Status) → IsFault status → IsPresent status
fault_present (Absent input) is = absurd is
fault_present _ is = tt

-- ---- answers and words

-- a fault is an answer of each input
pub fault_of_input : (number : ℕ) (status : Status) → IsFault status → IsOfInput number status
fault_of_input number Done fault = elim fault [ ]
fault_of_input number Usage fault = elim fault [ ]
fault_of_input number Same fault = elim fault [ ]
fault_of_input number (Absent input) fault = elim fault [ ]
fault_of_input number (Plan refusal) fault = elim fault [ ]
fault_of_input number (Packet k) fault = elim fault [ ]
fault_of_input number TooLong fault = elim fault [ ]
fault_of_input number (OutOfFeed event) fault = elim fault [ ]
fault_of_input number (OutOfAir entry) fault = elim fault [ ]
fault_of_input number NoSync fault = elim fault [ ]
fault_of_input number ReadFault fault = tt
fault_of_input number WriteFault fault = tt
fault_of_input number Memory fault = tt

-- an answer to the bytes is one of each input
pub bytes_of_input : (number : ℕ) (status : Status) → IsOfBytes status → IsOfInput number status
bytes_of_input number Done is = tt
bytes_of_input number Usage is = elim is [ ]
bytes_of_input number Same is = elim is [ ]
bytes_of_input number (Absent input) is = elim is [ ]
bytes_of_input number (Plan refusal) is = tt
bytes_of_input number (Packet k) is = tt
bytes_of_input number TooLong is = tt
bytes_of_input number (OutOfFeed event) is = tt
bytes_of_input number (OutOfAir entry) is = tt
bytes_of_input number NoSync is = tt
bytes_of_input number ReadFault is = elim is [ ]
bytes_of_input number WriteFault is = elim is [ ]
bytes_of_input number Memory is = elim is [ ]

-- an answer of one of the inputs, where no two names are equal
pub of_inputs : (same : Bool) (number inputs : ℕ) (status : Status) → same ≡ false → number < inputs
    → IsOfInput number status → IsOfInputs same inputs status
of_inputs same number inputs Done apart within is = apart
of_inputs same number inputs Usage apart within is = elim is [ ]
of_inputs same number inputs Same apart within is = elim is [ ]
of_inputs same number inputs (Absent input) apart within is = (apart, rw is within)
of_inputs same number inputs (Plan refusal) apart within is = apart
of_inputs same number inputs (Packet k) apart within is = apart
of_inputs same number inputs TooLong apart within is = apart
of_inputs same number inputs (OutOfFeed event) apart within is = apart
of_inputs same number inputs (OutOfAir entry) apart within is = apart
of_inputs same number inputs NoSync apart within is = apart
of_inputs same number inputs ReadFault apart within is = apart
of_inputs same number inputs WriteFault apart within is = apart
of_inputs same number inputs Memory apart within is = tt
