-- What `trial SEED COUNT` means: a made stream, and the network of the trial plan over it (the profile's own).
use Rattle.std.specs.Prelude.{◌≡◌, ◌⊎◌, ℕ, ◌-◌, ◌^◌, ◌≤◌, ℤ, pos, negsuc, Option, Some, None, IsSomeAnd}
use Rattle.std.specs.Prelude.{List, [], ◌∷◌}
use Rattle.std.specs.FinMap.{get}
use Rattle.dtx_recipes.specs.Make.{made_file}
use Rattle.dtx_forms.specs.Job.{Job}
use Rattle.dtx_make.specs.Made.{made_stream}
use Rattle.dtx_meaning.specs.Meaning.{ArePartWritten, Meaning, and_then, refused}
use Rattle.dtx_meaning.specs.Status.{IsFault}
use Rattle.dtx_meaning.specs.declared.status.Outcome.{Outcome}
use Rattle.dtx_meaning.specs.declared.status.Status.{Status}
use Rattle.dtx_meaning.specs.declared.status.Status.TheVariants.{Absent, Usage}
use Rattle.dtx_outside.specs.Shelf.{Files, with_file}
use Rattle.dtx_packets.specs.Packets.{packets_of}
use Rattle.dtx_plan.specs.declared.event.Event.{Event}
use Rattle.dtx_plan.specs.declared.event.Event.TheVariants.{Foreign, Send}
use Rattle.dtx_plan.specs.declared.plan.NetPlan.{NetPlan}
use Rattle.dtx_plan.specs.declared.plan.Plan as whole
use Rattle.dtx_plan.specs.declared.transmitter.Transmitter.{Transmitter}
use Rattle.dtx_words.specs.Names.{feed_name, symbol_name, trial_name}
use Rattle.dtx_words.specs.Fitting.{number_in, number_within}
use Rattle.dtx_words.specs.declared.rows.Command.TheVariants.{Trial}
use Rattle.dtx_words.specs.declared.rows.Field.TheVariants.{Number, Within}
use Rattle.dtx_top.specs.HeadlineOfFiles.{HeadlineOfFiles}
use Rattle.dtx_top.specs.NetMeaning.{answered, network_meaning}
use Rattle.dtx_top.specs.NetProgress.{HasNetProgress}

-- ---- the trial plan

-- a transmitter that the feed reaches without delay
abbrev pub near : ℕ → ℤ → Transmitter
near address offset = record { address = address; offset = offset; delay = 0 }

-- the transmitters 1, 2 and 3, with the offsets 0, 25 and -10
abbrev pub trial_transmitters : List Transmitter
trial_transmitters = near 1 (pos 0) ∷ near 2 (pos 25) ∷ near 3 (negsuc 9) ∷ []

-- Each transmitter is given the whole feed. Before it the third one is given the stream's own first 50 packets, which
-- have no mark.
abbrev pub trial_events : ℕ → ℕ → List Event
trial_events seed count = Send 1 0 count ∷ Send 2 0 count ∷ Foreign 3 seed 0 50 ∷ Send 3 0 count ∷ []

-- the third one is received, without damage
abbrev pub trial_network : ℕ → ℕ → NetPlan
trial_network seed count = record {
  stream = trial_name;
  events = trial_events seed count;
  receive = Some (record { from = 3; damage = [] });
}

-- the plan of a trial whose stream has `count` packets
abbrev pub trial_plan : ℕ → ℕ → whole.Plan
trial_plan seed count = record {
  start = 0;
  max_delay = 5000000;
  transmitters = trial_transmitters;
  net = Some (trial_network seed count);
}

-- the plan is that of a trial
pub record IsTrialPlan (plan : whole.Plan) : Type 0 where
  pub seed : ℕ
  pub count : ℕ
  pub small : seed ≤ 2 ^ 64 - 1
  pub least : 624 ≤ count
  pub most : count ≤ 1000000
  pub is : plan ≡ trial_plan seed count

-- ---- the answer

-- The inputs are those of a network without the plan: 0 is the stream, 1 the feed, 2 the symbols that are received.
abbrev pub of_trial : Status → Status
of_trial (Absent input) = Absent (input - 1)
of_trial status = status

abbrev pub trial_outcome : Outcome → Outcome
trial_outcome outcome = record { status = of_trial outcome.status; numbers = outcome.numbers }

-- the names of these inputs, in this order
abbrev pub trial_names : List (List ℕ)
trial_names = trial_name ∷ feed_name ∷ symbol_name 3 ∷ []

-- ---- what it means

-- what the network does over the stream, once that is made
unfoldable pub trial_played : ℕ → ℕ → Meaning
trial_played seed count =
    answered trial_outcome
    (network_meaning (trial_plan seed count) (trial_network seed count) (Some (made_stream seed count)))

-- `trial.ts` is made, and then the network is played
abbrev pub trial_made : ℕ → ℕ → Meaning
trial_made seed count = and_then (made_file seed count trial_name) (trial_played seed count)

-- what a trial means if both are numbers in their ranges, and otherwise a refusal
abbrev pub trial_of : Option ℕ → Option ℕ → Meaning
trial_of (Some seed) (Some count) = trial_made seed count
trial_of (Some seed) None = refused Usage
trial_of None count = refused Usage

-- what these words mean
abbrev pub trial_meaning : List (List ℕ) → Files → Meaning
trial_meaning (verb ∷ seed ∷ count ∷ []) held =
    trial_of (number_in (2 ^ 64 - 1) seed) (number_within 624 1000000 count)
trial_meaning words held = refused Usage

-- the job of `trial SEED COUNT`; the headline and the progress are no part of it
abbrev pub trial_job : Job
trial_job = record {
  command = Trial;
  fields = Number (2 ^ 64 - 1) ∷ Within 624 1000000 ∷ [];
  means = trial_meaning;
  inputs = 3;
  stages = λ words. None;
}

-- ---- how far a trial came

-- the files with the whole stream
abbrev pub with_trial : ℕ → ℕ → Files → Files
with_trial seed count held = with_file trial_name (made_stream seed count) held

-- How far the network came over the stream, from the files with the whole stream to the files `now`.
unfoldable pub HasTrialNet : ℕ → ℕ → Status → Files → Option Files → Type 0
HasTrialNet seed count status held now =
    HasNetProgress (trial_plan seed count) (trial_network seed count) (made_stream seed count) status
    (with_trial seed count held) now

-- How far a trial came. Either an I/O error or lack of memory was met while the stream was written: then `trial.ts`, if
-- it was begun, holds a prefix of it, and no other file was touched. Or the stream is whole, and the network came as
-- far as `HasTrialNet` says.
abbrev pub HasMadeProgress : ℕ → ℕ → Status → Files → Option Files → Type 0
HasMadeProgress seed count status held now =
    (IsFault status × ArePartWritten ((trial_name, made_stream seed count) ∷ []) (Some held) now)
    ⊎ HasTrialNet seed count status held now

-- how far a trial came, if both are numbers in their ranges
abbrev pub HasNumbersProgress : Option ℕ → Option ℕ → Status → Files → Option Files → Type 0
HasNumbersProgress (Some seed) (Some count) status held now = HasMadeProgress seed count status held now
HasNumbersProgress (Some seed) None status held now = Unit {0}
HasNumbersProgress None count status held now = Unit {0}

-- how far the trial of these words came
abbrev pub HasTrialProgress : List (List ℕ) → Files → Status → Option Files → Type 0
HasTrialProgress (verb ∷ seed ∷ count ∷ []) held status now =
    HasNumbersProgress (number_in (2 ^ 64 - 1) seed) (number_within 624 1000000 count) status held now
HasTrialProgress words held status now = Unit {0}

-- ---- the headline

-- The stream that was made is there, and the headline holds of the network over it.
pub record IsTrialDone (seed count : ℕ) (held now : Files) : Type 0 where
  pub stream : get now trial_name ≡ Some (made_stream seed count)
  pub network : HeadlineOfFiles (trial_plan seed count) (trial_network seed count)
      (packets_of (made_stream seed count)) (with_trial seed count held) now

-- the trial is done, and both are numbers in their ranges
abbrev pub HasNumbersHeadline : Option ℕ → Option ℕ → Files → Option Files → Type 0
HasNumbersHeadline (Some seed) (Some count) held now = IsSomeAnd now (IsTrialDone seed count held)
HasNumbersHeadline (Some seed) None held now = ⊥
HasNumbersHeadline None count held now = ⊥

-- The headline holds of the trial that these words ask for.
abbrev pub HasTrialHeadline : List (List ℕ) → Files → Option Files → Type 0
HasTrialHeadline (verb ∷ seed ∷ count ∷ []) held now =
    HasNumbersHeadline (number_in (2 ^ 64 - 1) seed) (number_within 624 1000000 count) held now
HasTrialHeadline words held now = ⊥
