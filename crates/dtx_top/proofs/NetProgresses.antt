-- How far a network came, part by part.
use Rattle.std.proofs.Common.{◌≡◌, ◌⊎◌, ℕ, ◌-◌, List, [], ◌∷◌, ◌++◌, refl, sym, ap, subst, ◌∙◌, inl, inr, arith}
use Rattle.std.specs.Prelude.{Option, Some, None, IfSome, IfOk, Result, Ok, Err}
use Rattle.std.specs.Option.{option_map}
use Rattle.std.proofs.lemmas.List.{append-nil}
use Rattle.dtx_make.specs.Made.{made_stream}
use Rattle.dtx_meaning.proofs.MeaningLemmas.{part_of_none, with_outputs-append}
use Rattle.dtx_meaning.specs.Meaning.{ArePartWritten, Outputs, with_outputs}
use Rattle.dtx_meaning.specs.Status.{IsFault, ended}
use Rattle.dtx_meaning.specs.declared.status.Outcome.{Outcome}
use Rattle.dtx_meaning.specs.declared.status.Status.{Status}
use Rattle.dtx_net.specs.Steps.{Step}
use Rattle.dtx_outside.specs.Shelf.{Files, with_file}
use Rattle.dtx_outside.specs.declared.sink.SinkNo.{SinkNo}
use Rattle.dtx_outside.specs.declared.sink.SinkNo.TheVariants as sink
use Rattle.dtx_packets.specs.Packets.{packets_of}
use Rattle.dtx_plan.specs.declared.plan.NetPlan.{NetPlan}
use Rattle.dtx_plan.specs.declared.plan.Plan as whole
use Rattle.dtx_plan.specs.declared.refusal.PlanNo.{PlanNo}
use Rattle.dtx_plan.specs.declared.transmitter.Transmitter.{Transmitter}
use Rattle.dtx_schedule.specs.PlayedSoFar.{Progress, begun_files}
use Rattle.dtx_schedule.proofs.ProgressLemmas.{all_files, all_played, only_begun}
use Rattle.dtx_schedule.specs.TransmitterFiles.{played, played_outputs}
use Rattle.dtx_words.specs.Line.{finished}
use Rattle.dtx_words.specs.declared.rows.Command.{Command}
use Rattle.dtx_top.specs.Ends.{HasProgressOf}
use Rattle.dtx_top.specs.NetProgress.{AreFirstParts, HasFileProgress, HasPlanProgress, HasStreamProgress, NetProgress}
use Rattle.dtx_top.specs.Trial.{HasMadeProgress, HasTrialNet}
use Rattle.dtx_top.proofs.Ending.{finished_failed}

-- ---- parts of outputs

pub first_parts : (outputs : Outputs) (start now : Option Files) → ArePartWritten outputs start now
    → (parts : Outputs) × AreFirstParts parts outputs × (now ≡ with_outputs parts start)
first_parts [] start now is = ([], tt, is)
first_parts (o ∷ rest) start now (inl same) = ([], tt, same)
first_parts (o ∷ rest) start now (inr (front, is, more)) =
    let behind = first_parts rest (option_map (with_file o.0 front) start) now more in
    ((o.0, front) ∷ behind.0, (refl, is, behind.1), behind.2)

whole_parts : (outputs : Outputs) → AreFirstParts outputs outputs
whole_parts [] = tt
whole_parts (o ∷ rest) = (refl, ([], append-nil o.1), whole_parts rest)

parts_of_none : (parts : Outputs) → AreFirstParts parts [] → parts ≡ []
parts_of_none [] is = refl
parts_of_none (part ∷ parts) is = absurd is

-- ---- before the schedule

-- no file of a transmitter was begun, and of the feed a part
pub only_fed : (fed : Outputs) (ts : List Transmitter) (steps : List Step) (got : Outputs) (status : Status)
    (held : Files) (now : Option Files) → ArePartWritten fed (Some held) now
    → NetProgress fed ts steps got status held now
only_fed fed ts steps got status held now part =
    let parts = first_parts fed (Some held) now part in record {
      feed = parts.0;
      feed_part = parts.1;
      schedule = only_begun ts steps 0 (omega arith);
      feed_first = λ some. absurd (omega (arith, some));
      reception = [];
      reception_part = tt;
      schedule_first = λ some. absurd (some refl);
      ends = inr (inl refl);
      files = parts.2 ∙ ap (λ outputs. with_outputs outputs (Some held)) (sym (append-nil parts.0));
    }

-- nothing was touched
pub nothing_fed : (fed : Outputs) (ts : List Transmitter) (steps : List Step) (got : Outputs) (status : Status)
    (held : Files) (now : Option Files) → now ≡ Some held → NetProgress fed ts steps got status held now
nothing_fed fed ts steps got status held now same = only_fed fed ts steps got status held now
    (part_of_none fed (Some held) now same)

-- ---- behind the feed

-- a fault in the midst of the schedule
pub broken_off : (ts : List Transmitter) (steps : List Step) (got : Outputs) (status : Status) (outcome : Outcome)
    (held : Files) (now : Option Files) (sent : Progress ts steps) → IsFault status → outcome ≡ ended status
    → now ≡ with_outputs (begun_files ts steps sent) (Some held) → NetProgress [] ts steps got outcome.status held now
broken_off ts steps got status outcome held now sent fault is left = record {
  feed = [];
  feed_part = tt;
  schedule = sent;
  feed_first = λ some. refl;
  reception = [];
  reception_part = tt;
  schedule_first = λ some. absurd (some refl);
  ends = inl (subst (λ (o : Outcome). IsFault o.status) (sym is) fault);
  files = left ∙ ap (λ outputs. with_outputs outputs (Some held)) (sym (append-nil (begun_files ts steps sent)));
}

-- the schedule is done, and of what is received a part is written
pub received_on : (ts : List Transmitter) (steps : List Step) (got : Outputs) (status : Status) (held : Files)
    (mid now : Option Files) → mid ≡ with_outputs (played_outputs ts steps) (Some held) → ArePartWritten got mid now
    → NetProgress [] ts steps got status held now
received_on ts steps got status held mid now is part =
    let parts = first_parts got mid now part in
    let sent : Progress ts steps = all_played ts steps in record {
      feed = [];
      feed_part = tt;
      schedule = sent;
      feed_first = λ some. refl;
      reception = parts.0;
      reception_part = parts.1;
      schedule_first = λ some. record { begun = refl; done = refl };
      ends = inr (inr (record { begun = refl; done = refl }));
      files = parts.2 ∙ ap (with_outputs parts.0) is
          ∙ ap (λ outputs. with_outputs parts.0 (with_outputs outputs (Some held))) (sym (all_files (played steps) ts))
          ∙ sym (with_outputs-append (begun_files ts steps sent) parts.0 (Some held));
    }

-- the feed is whole, and the schedule came so far behind it
pub fed_on : (fed : Outputs) (ts : List Transmitter) (steps : List Step) (got : Outputs) (status : Status)
    (held mid : Files) (now : Option Files) → Some mid ≡ with_outputs fed (Some held)
    → NetProgress [] ts steps got status mid now → NetProgress fed ts steps got status held now
fed_on fed ts steps got status held mid now whole is =
    let behind : Outputs = begun_files ts steps is.schedule ++ is.reception in
    record {
      feed = fed;
      feed_part = whole_parts fed;
      schedule = is.schedule;
      feed_first = λ some. refl;
      reception = is.reception;
      reception_part = is.reception_part;
      schedule_first = is.schedule_first;
      ends = is.ends;
      files = is.files ∙ ap (λ feed. with_outputs (feed ++ behind) (Some mid)) (parts_of_none is.feed is.feed_part)
          ∙ ap (with_outputs behind) whole ∙ sym (with_outputs-append fed behind (Some held));
    }

-- ---- over files that are told

-- nothing was touched
pub stream_untouched : (plan : whole.Plan) (network : NetPlan) (status : Status) (told now : Option Files)
    → now ≡ told → IfSome told (λ held. HasStreamProgress plan network status held now)
stream_untouched plan network status None now same = tt
stream_untouched plan network status (Some held) now same = grind (arith, nothing_fed)

net_untouched : (plan : whole.Plan) (net : Option NetPlan) (status : Status) (held : Files) (now : Option Files)
    → now ≡ Some held → HasPlanProgress plan net status held now
net_untouched plan None status held now same = tt
net_untouched plan (Some network) status held now same = stream_untouched plan network status (Some held) now same

pub file_untouched : (name : List ℕ) (status : Status) (told now : Option Files) → now ≡ told
    → IfSome told (λ held. HasFileProgress name status held now)
file_untouched name status None now same = tt
file_untouched name status (Some held) now same = grind (arith, net_untouched)

-- ---- behind the line

-- under another status, which is a fault where the first one is
pub answered_so : (fed : Outputs) (ts : List Transmitter) (steps : List Step) (got : Outputs) (status other : Status)
    (held : Files) (now : Option Files) → (IsFault status → IsFault other)
    → NetProgress fed ts steps got status held now → NetProgress fed ts steps got other held now
answered_so fed ts steps got status other held now faults is = record {
  feed = is.feed;
  feed_part = is.feed_part;
  schedule = is.schedule;
  feed_first = is.feed_first;
  reception = is.reception;
  reception_part = is.reception_part;
  schedule_first = is.schedule_first;
  ends = elim is.ends [ inl fault ↦ inl (faults fault) | inr come ↦ inr come ];
  files = is.files;
}

-- the same status, or a fault
stays_fault : (status other : Status) → (other ≡ status) ⊎ IsFault other → IsFault status → IsFault other
stays_fault status other (inl same) fault = let P : Status → Type 0 = λ s. IsFault s in subst P (sym same) fault
stays_fault status other (inr other_fault) fault = other_fault

plan_so : (status other : Status) (held : Files) (now : Option Files) → (other ≡ status) ⊎ IsFault other
    → (said : Result whole.Plan PlanNo) → IfOk said (λ plan. HasPlanProgress plan plan.net status held now)
    → IfOk said (λ plan. HasPlanProgress plan plan.net other held now)
plan_so status other held now same (Err refusal) is = tt
plan_so status other held now same (Ok plan) is = grind (arith, answered_so, stays_fault)

-- of a trial
made_so : (seed count : ℕ) (status other : Status) (held : Files) (now : Option Files)
    → (other ≡ status) ⊎ IsFault other → HasMadeProgress seed count status held now
    → HasMadeProgress seed count other held now
unfolding HasTrialNet
made_so seed count status other held now same (inl broken) = inl (stays_fault status other same broken.0, broken.1)
made_so seed count status other held now same (inr come) =
    let stream : List (List ℕ) = packets_of (made_stream seed count) in
    inr (grind (arith, answered_so, stays_fault))

pub progress_told : (command : Option Command) (words : List (List ℕ)) (told now : Option Files) (status : Status)
    (line : Result (Unit {0}) SinkNo) → IfSome told (λ held. HasProgressOf command words held status now)
    → IfSome told (λ held. HasProgressOf command words held (finished status line) now)
progress_told command words None now status line is = tt
progress_told command words (Some held) now status line is = grind (arith, plan_so, made_so, finished_failed)
