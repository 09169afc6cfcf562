-- That a command was done follows from that a part of it was: behind names that were compared, and behind a small file
-- that was read.
use Rattle.std.proofs.Common.{◌≡◌, ℕ, ◌<◌, false, List, sym, subst, refl, arith}
use Rattle.std.specs.Prelude.{Option, Some, None, Result, Ok, Err, IfSome, is_some}
use Rattle.std.specs.FinMap.{get}
use Rattle.dtx_meaning.proofs.MeaningLemmas.{of_inputs, refused_told}
use Rattle.dtx_meaning.specs.Meaning.{Meaning}
use Rattle.dtx_meaning.specs.Status.{IsOfInputs, blame_of, ended}
use Rattle.dtx_meaning.specs.declared.status.Outcome.{Outcome}
use Rattle.dtx_meaning.specs.declared.status.Status.{Status}
use Rattle.dtx_meaning.specs.declared.status.Status.TheVariants.{Plan, Same}
use Rattle.dtx_outside.specs.Counts.{Counts, HasGone, Nothing}
use Rattle.dtx_outside.specs.Shelf.{Files}
use Rattle.dtx_plan.specs.declared.refusal.PlanNo.{PlanNo}
use Rattle.dtx_words.specs.Names.{repeated}
use Rattle.dtx_words.specs.declared.rows.Command.{Command}
use Rattle.dtx_forms.specs.Answers.{IsKnown, Knows}
use Rattle.dtx_forms.proofs.AnswersLemmas.{plan_refusal_known}
use Rattle.dtx_forms.specs.Job.{IsPerformed, unless_same}
use Rattle.dtx_forms.proofs.OfWordsLemmas.{refusal_of_input}
use Rattle.dtx_forms.specs.PlanFile.{IsPlanRefusal, IsReadAs, under_file}
use Rattle.dtx_forms.proofs.PlanFileLemmas.{read_told, unread_told}

-- ---- names that were compared

-- it was done, where one of the names was found to come twice, or none
abbrev pub IsUnlessSame : Command → Option (List ℕ) → (Files → Meaning) → ℕ → Outcome → Option Files → Option Files
    → Counts → Counts → Type 0
IsUnlessSame command twice means = IsPerformed command (λ held. unless_same twice (means held)) (Some (is_some twice))

stands : (counts : Counts) → HasGone counts counts Nothing
stands counts = record { read_faults = omega arith; write_faults = omega arith; misses = omega arith; risen = refl }

-- one comes twice
pub refused_same : (command : Command) (names : List (List ℕ)) (name : List ℕ) (means : Files → Meaning) (inputs : ℕ)
    (outcome : Outcome) (told : Option Files) (counts : Counts) → Some name ≡ repeated names → outcome ≡ ended Same
    → IsUnlessSame command (repeated names) means inputs outcome told told counts counts
refused_same command names name means inputs outcome told counts twice is = grind (arith, refused_told, stands)

-- none does
pub apart_performed : (command : Command) (names : List (List ℕ)) (means : Files → Meaning) (inputs : ℕ)
    (outcome : Outcome) (told now : Option Files) (before after : Counts) → None ≡ repeated names
    → IsPerformed command means (Some false) inputs outcome told now before after
    → IsUnlessSame command (repeated names) means inputs outcome told now before after
apart_performed command names means inputs outcome told now before after apart is = grind arith

-- ---- a small file that was read

-- counts that stood before
gone_on : (first before after : Counts) (status : Status) → before ≡ first → HasGone before after (blame_of status)
    → HasGone first after (blame_of status)
gone_on first before after status same gone = subst (λ (c : Counts). HasGone c after (blame_of status)) same gone

-- it says this, and what is meant then was done
pub read_performed : {T : Type 0} (command : Command) (said : List ℕ → Result T PlanNo) (number : ℕ) (name : List ℕ)
    (x : T) (means : Files → T → Meaning) (inputs : ℕ) (outcome : Outcome) (told between now : Option Files)
    (first before after : Counts) → between ≡ told → IfSome told (λ held. IsReadAs said (get held name) number (Ok x))
    → HasGone first before Nothing
    → IsPerformed command (λ held. means held x) (Some false) inputs outcome between now before after
    → IsPerformed command (λ held. under_file said number (get held name) (means held)) (Some false) inputs outcome told
    now first after
read_performed command said number name x means inputs outcome told between now first before after same read stood is =
    grind (arith, read_told, gone_on)

-- it wasn't read, or breaks a rule
pub unread_performed : {T : Type 0} (command : Command) (said : List ℕ → Result T PlanNo) (number : ℕ) (name : List ℕ)
    (status : Status) (means : Files → T → Meaning) (inputs : ℕ) (outcome : Outcome) (told now : Option Files)
    (before after : Counts) → now ≡ told → IfSome told (λ held. IsReadAs said (get held name) number (Err status))
    → IsPlanRefusal number status → number < inputs → ((refusal : PlanNo) → Knows command (Plan refusal))
    → HasGone before after (blame_of status) → outcome ≡ ended status
    → IsPerformed command (λ held. under_file said number (get held name) (means held)) (Some false) inputs outcome told
    now before after
unread_performed command said number name status means inputs outcome told now before after kept unread refusal within
    known gone is = record {
      carried = unread_told said number name status means told now outcome unread kept is;
      words = subst (λ (o : Outcome). IsOfInputs false inputs o.status) (sym is)
          (of_inputs false number inputs status refl within (refusal_of_input number status refusal));
      answers = subst (λ (o : Outcome). IsKnown command o) (sym is)
          (plan_refusal_known command number known status refusal);
      gone = subst (λ (o : Outcome). HasGone before after (blame_of o.status)) (sym is) gone;
    }
