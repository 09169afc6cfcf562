-- How a call ends, of how its command ended and how its line was printed.
use Rattle.std.specs.Prelude.{◌≡◌, ◌⊎◌, Option, Some, None, Result, Ok, Err, IfSome, refl}
use Rattle.std.proofs.Common.{inl, inr, arith}
use Rattle.dtx_outside.specs.Counts.{Counts, Rose, HasGone}
use Rattle.dtx_outside.specs.Shelf.{Files}
use Rattle.dtx_outside.specs.Sink.{IsCounted, HasRisenBy, SinkCounts}
use Rattle.dtx_outside.specs.declared.sink.SinkNo.{SinkNo}
use Rattle.dtx_outside.specs.declared.sink.SinkNo.TheVariants as sink
use Rattle.dtx_meaning.proofs.MeaningLemmas.{done_printed, done_wanting, done_unprinted, status_of_done}
use Rattle.dtx_meaning.proofs.MeaningLemmas.{whole_of_carried}
use Rattle.dtx_meaning.specs.Meaning.{Meaning, IsCarriedOut, IsDone, IsUnprinted}
use Rattle.dtx_meaning.specs.Status.{blame_of}
use Rattle.dtx_meaning.specs.declared.status.Outcome.{Outcome}
use Rattle.dtx_meaning.specs.declared.status.Status.{Status}
use Rattle.dtx_meaning.specs.declared.status.Status.TheVariants.{Done, Usage, Same, Absent, Plan, Packet, TooLong}
use Rattle.dtx_meaning.specs.declared.status.Status.TheVariants.{OutOfFeed, OutOfAir, NoSync, ReadFault, WriteFault}
use Rattle.dtx_meaning.specs.declared.status.Status.TheVariants.{Memory}
use Rattle.dtx_words.specs.Line.{finished}
use Rattle.dtx_top.specs.Ends.{HasCause, HasEnded, IsAllDone, IsFaultless}

-- a status after its line failed, but for `Done`
pub finished_failed : (status : Status) → (status ≡ Done) ⊎ (finished status (Err sink.Failed) ≡ status)
finished_failed Done = inl refl
finished_failed Usage = inr refl
finished_failed Same = inr refl
finished_failed (Absent input) = inr refl
finished_failed (Plan refusal) = inr refl
finished_failed (Packet k) = inr refl
finished_failed TooLong = inr refl
finished_failed (OutOfFeed event) = inr refl
finished_failed (OutOfAir entry) = inr refl
finished_failed NoSync = inr refl
finished_failed ReadFault = inr refl
finished_failed WriteFault = inr refl
finished_failed Memory = inr refl

-- ---- what is done

-- a meaning that was carried out, whose line was printed so
pub done_of : (m : Meaning) (start now : Option Files) (outcome : Outcome) (line : Result (Unit {0}) SinkNo)
    (first last : SinkCounts) → IsCarriedOut m start outcome now → IsCounted first line last
    → IsDone m start (finished outcome.status line) (Rose first.faults last.faults) now
done_of m start now outcome (Ok u) first last is counted =
    done_printed m start now outcome (Rose first.faults last.faults) is
done_of m start now outcome (Err sink.Memory) first last is counted =
    done_wanting m start now outcome (Rose first.faults last.faults) is
done_of m start now outcome (Err sink.Failed) first last is counted =
    grind (arith, finished_failed, done_unprinted, done_printed)

-- the same over files that are told
pub done_told : (means : Files → Meaning) (told now : Option Files) (outcome : Outcome)
    (line : Result (Unit {0}) SinkNo) (first last : SinkCounts)
    → IfSome told (λ held. IsCarriedOut (means held) (Some held) outcome now) → IsCounted first line last
    → IfSome told (λ held. IsDone (means held) (Some held) (finished outcome.status line)
    (Rose first.faults last.faults) now)
done_told means None now outcome line first last is counted = tt
done_told means (Some held) now outcome line first last is counted = grind (arith, done_of)

-- the same over files that are told
pub unprinted_told : (means : Files → Meaning) (told now : Option Files) (outcome : Outcome)
    (line : Result (Unit {0}) SinkNo) (before after : Counts) (first last : SinkCounts)
    → IfSome told (λ held. IsCarriedOut (means held) (Some held) outcome now)
    → HasGone before after (blame_of outcome.status) → IsCounted first line last
    → IfSome told (λ held. finished outcome.status line ≡ WriteFault → ¬ Rose before.write_faults after.write_faults
    → IsUnprinted (means held) (Some held) (finished outcome.status line) (Rose first.faults last.faults) now)
unprinted_told means None now outcome line before after first last is gone counted = tt
unprinted_told means (Some held) now outcome line before after first last is gone counted =
    grind (arith, finished_failed, whole_of_carried)

-- ---- counts

cause_of : (status : Status) (line : Result (Unit {0}) SinkNo) (before now : Counts) (first last : SinkCounts)
    → HasGone before now (blame_of status) → HasRisenBy line first last
    → HasCause (finished status line) before now first last
cause_of status (Ok u) before now first last gone risen = grind arith
cause_of status (Err sink.Memory) before now first last gone risen = inr risen.0
cause_of status (Err sink.Failed) before now first last gone risen = grind arith

-- how a call has ended, of how its command did and how its line was printed
pub ended_of : (status : Status) (line : Result (Unit {0}) SinkNo) (before now : Counts) (first last : SinkCounts)
    → HasGone before now (blame_of status) → IsCounted first line last
    → HasEnded before now first last (finished status line)
ended_of status line before now first last gone counted = grind (arith, cause_of)

pub complete_of : (m : Meaning) (start now : Option Files) (status : Status) (before after : Counts)
    (first last : SinkCounts) → IsDone m start status (Rose first.faults last.faults) now
    → HasEnded before after first last status → IsFaultless before after first last
    → (status ≡ m.outcome.status) ⊎ (status ≡ Memory)
complete_of m start now status before after first last is gone none = grind (arith, status_of_done)

-- ---- the headline

-- what holds where the command is done, holds where all was done
pub all_done_then : (P : Files → Type 0) (told : Option Files) (status : Status) (line : Result (Unit {0}) SinkNo)
    (before after : Counts) → HasGone before after (blame_of status) → IfSome told (λ held. status ≡ Done → P held)
    → IfSome told (λ held. IsAllDone (finished status line) before after → P held)
all_done_then P None status line before after gone is = tt
all_done_then P (Some held) status line before after gone is = grind (arith, finished_failed)
