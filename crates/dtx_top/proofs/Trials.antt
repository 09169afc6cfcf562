-- A trial: its plan is one that a network takes, and what is carried out of it.
use Rattle.std.proofs.Common.{◌≡◌, ◌≢◌, ℕ, ◌-◌, ◌^◌, ◌<◌, ◌≤◌, false, length, List, [], ◌∷◌, get_or, refl, sym, ap}
use Rattle.std.proofs.Common.{subst, ◌∙◌, inl, inr, arith, lit<}
use Rattle.std.specs.Prelude.{ℤ, unsigned_abs, Option, Some, None, IfSome, IsSomeAnd}
use Rattle.std.specs.FinMap.{get}
use Rattle.std.specs.Int.{w16}
use Rattle.std.specs.List.{IsDistinct}
use Rattle.std.proofs.lemmas.Int.{fits_signed_from_abs}
use Rattle.std.proofs.lemmas.List.Elements.{All-cons, All-nil}
use Rattle.std.proofs.lemmas.Option.{same_Some}
use Rattle.dtx_forms.specs.Answers.{IsKnown, IsKnownAt}
use Rattle.dtx_recipes.specs.Make.{made_file}
use Rattle.dtx_make.specs.Made.{made_stream}
use Rattle.dtx_meaning.proofs.MeaningLemmas.{carried_before, carried_then, part_of_carried, part_of_none}
use Rattle.dtx_meaning.proofs.MeaningLemmas.{whole_of_carried}
use Rattle.dtx_meaning.specs.Meaning.{IsCarriedOut}
use Rattle.dtx_meaning.specs.Status.{IsFault, IsOfInputs, blame_of}
use Rattle.dtx_meaning.specs.declared.status.Outcome.{Outcome}
use Rattle.dtx_meaning.specs.declared.status.Status.{Status}
use Rattle.dtx_meaning.specs.declared.status.Status.TheVariants.{Done, Usage, Same, Absent, Plan, OutOfAir, ReadFault}
use Rattle.dtx_meaning.specs.declared.status.Status.TheVariants.{WriteFault, Memory}
use Rattle.dtx_network.specs.Network.{steps_under}
use Rattle.dtx_network.specs.Plans.{IsPlan}
use Rattle.dtx_outside.proofs.FilesLemmas.{get-insert_same}
use Rattle.dtx_outside.specs.Shelf.{Files}
use Rattle.dtx_packets.specs.Packets.{packets_of}
use Rattle.dtx_plan.specs.Sound.{IsNet, IsSound, IsTransmitter}
use Rattle.dtx_plan.specs.declared.plan.NetPlan.{NetPlan}
use Rattle.dtx_plan.specs.declared.plan.Plan as whole
use Rattle.dtx_words.specs.Names.{feed_name, trial_name}
use Rattle.dtx_words.specs.Fitting.{number_in, number_within}
use Rattle.dtx_words.specs.declared.rows.Command.TheVariants.{Make, Trial}
use Rattle.dtx_top.specs.HeadlineOfFiles.{HeadlineOfFiles}
use Rattle.dtx_top.specs.NetAnswers.{HasCount, IsOfReplay, count_of}
use Rattle.dtx_top.specs.NetMeaning.{answered, network_meaning}
use Rattle.dtx_top.specs.NetProgress.{HasNetProgress, HasStreamProgress, feed_outputs, reception_outputs}
use Rattle.dtx_top.specs.Trial.{HasMadeProgress, HasNumbersHeadline, HasTrialNet, IsTrialDone, IsTrialPlan, near}
use Rattle.dtx_top.specs.Trial.{of_trial, trial_events, trial_made, trial_network, trial_outcome, trial_plan}
use Rattle.dtx_top.specs.Trial.{trial_played, trial_transmitters, with_trial}
use Rattle.dtx_top.proofs.FileNames.{any_of}
use Rattle.dtx_top.proofs.HeadlineLaw.{HeadlineLaw}
use Rattle.dtx_top.proofs.Headlines.{stream_done}
use Rattle.dtx_top.proofs.NetFiles.{letter}
use Rattle.dtx_top.proofs.NetProgresses.{answered_so}
use Rattle.dtx_top.proofs.TrialFed.{stream_bytes}

-- ---- the plan

plan_sound : (seed count : ℕ) → IsSound (trial_plan seed count)
unfolding IsDistinct
plan_sound seed count = grind arith

in_range : (address : ℕ) (offset : ℤ) → address < 2 ^ 16 → unsigned_abs offset < 2 ^ 15
    → IsTransmitter (near address offset)
in_range address offset small few =
    record { address = small; offset = fits_signed_from_abs w16 offset few; delay = lit< tt }

pub is_plan : (seed count : ℕ) → IsPlan (trial_plan seed count)
is_plan seed count = record { sound = plan_sound seed count; transmitters = grind (arith, All-cons, in_range, All-nil) }

-- the plan of a trial, with what it says of its network
pub record IsNetworkOf (plan : whole.Plan) (network : NetPlan) : Type 0 where
  pub sound : IsSound plan
  pub net : IsNet plan.transmitters network
  pub differ : network.stream ≢ feed_name

pub its_network : (plan : whole.Plan) (seed count : ℕ) (network : NetPlan) → plan ≡ trial_plan seed count
    → plan.net ≡ Some network → trial_network seed count ≡ network
its_network plan seed count network is has = same_Some (trial_network seed count) network
    (sym (ap (λ (p : whole.Plan). p.net) is) ∙ has)

pub network_of : (plan : whole.Plan) (network : NetPlan) → IsTrialPlan plan → plan.net ≡ Some network
    → IsNetworkOf plan network
network_of plan network x has = subst (λ (p : whole.Plan). IsNetworkOf p network) (sym x.is)
    (subst (λ (n : NetPlan). IsNetworkOf (trial_plan x.seed x.count) n)
    (its_network plan x.seed x.count network x.is has) (record {
      sound = plan_sound x.seed x.count;
      net = grind (arith, All-cons, All-nil, in_range);
      differ = (letter trial_name feed_name 0 116 110 refl refl (λ e. omega (arith, e)));
    }))

-- ---- the answer

fault_of_trial : (status : Status) → IsFault status → IsFault (of_trial status)
fault_of_trial ReadFault fault = tt
fault_of_trial WriteFault fault = tt
fault_of_trial Memory fault = tt
fault_of_trial status fault = absurd fault

pub blame_of_trial : (status : Status) → blame_of (of_trial status) ≡ blame_of status
blame_of_trial (Absent input) = refl
blame_of_trial status = refl

-- what the words alone say of it
abbrev pub IsOfTrial : Outcome → Type 0
IsOfTrial outcome = IsOfInputs false 3 outcome.status × IsKnown Trial outcome

pub replay_of_trial : (network : NetPlan) (outcome : Outcome) → IsOfReplay network.receive outcome.status
    → HasCount (count_of network.receive) outcome
    → (seed : ℕ) → (count : ℕ) → trial_network seed count ≡ network → IsOfTrial (trial_outcome outcome)
replay_of_trial network outcome is counted seed count same =
    by_status outcome.status refl (subst (λ (n : NetPlan). IsOfReplay n.receive outcome.status) (sym same) is)
  where
    all : HasCount 6 outcome
    all = subst (λ (n : NetPlan). HasCount (count_of n.receive) outcome) (sym same) counted

    by_status : (s : Status) → outcome.status ≡ s → IsOfReplay (trial_network seed count).receive s
        → IsOfInputs false 3 (of_trial s) × IsKnownAt Trial (of_trial s) outcome.numbers
    by_status Usage e is = absurd is
    by_status Same e is = absurd is
    by_status (Absent input) e is = ((refl, omega (arith, is.0, is.1)), tt)
    by_status Done e is = (refl, all e)
    by_status (Plan refusal) e is = absurd is
    by_status (OutOfAir entry) e is = absurd (is refl)
    by_status Memory e is = (tt, tt)
    by_status s e is = (refl, tt)

-- a stream that isn't made
pub make_of_trial : (outcome : Outcome) → outcome.status ≢ Done → IsOfInputs false 0 outcome.status
    → IsKnown Make outcome → IsOfTrial outcome
make_of_trial outcome other is known = by_status outcome.status other is known
  where
    by_status : (s : Status) → s ≢ Done → IsOfInputs false 0 s → IsKnownAt Make s outcome.numbers
        → IsOfInputs false 3 s × IsKnownAt Trial s outcome.numbers
    by_status Usage other is known = absurd is
    by_status Same other is known = cc
    by_status (Absent input) other is known = absurd (omega (arith, is.1))
    by_status Done other is known = absurd (other refl)
    by_status ReadFault other is known = (refl, tt)
    by_status WriteFault other is known = (refl, tt)
    by_status Memory other is known = (tt, tt)
    by_status s other is known = absurd known

-- ---- the network over the stream

-- a claim on the network of the plan and of what its stream's file holds is one on that of the trial
on_stream : (P : whole.Plan → NetPlan → Option (List ℕ) → Type 0) (plan : whole.Plan) (network : NetPlan)
    (seed count : ℕ) (held : Files) → plan ≡ trial_plan seed count → plan.net ≡ Some network
    → get held trial_name ≡ Some (made_stream seed count) → P plan network (get held network.stream)
    → P (trial_plan seed count) (trial_network seed count) (Some (made_stream seed count))
on_stream P plan network seed count held is has there holds =
    subst (λ (found : Option (List ℕ)). P (trial_plan seed count) (trial_network seed count) found) there
    (subst (λ (n : NetPlan). P (trial_plan seed count) n (get held n.stream))
    (sym (its_network plan seed count network is has))
    (subst (λ (p : whole.Plan). P p network (get held network.stream)) is holds))

pub played_carried : (plan : whole.Plan) (network : NetPlan) (seed count : ℕ) (held : Files) (told now : Option Files)
    (outcome : Outcome) → plan ≡ trial_plan seed count → plan.net ≡ Some network → told ≡ Some held
    → get held trial_name ≡ Some (made_stream seed count)
    → IfSome told (λ held. IsCarriedOut (network_meaning plan network (get held network.stream)) (Some held) outcome
    now) → IsCarriedOut (trial_played seed count) (Some held) (trial_outcome outcome) now
unfolding trial_played
played_carried plan network seed count held told now outcome is has tells there carried =
    grind (arith, fault_of_trial, on_stream)

pub played_progress : (plan : whole.Plan) (network : NetPlan) (seed count : ℕ) (held : Files) (told now : Option Files)
    (status : Status) → plan ≡ trial_plan seed count → plan.net ≡ Some network → told ≡ Some held
    → get held trial_name ≡ Some (made_stream seed count)
    → IfSome told (λ held. HasStreamProgress plan network status held now)
    → HasNetProgress (trial_plan seed count) (trial_network seed count) (made_stream seed count) (of_trial status) held
    now
played_progress plan network seed count held told now status is has tells there come =
    let here = subst (λ (t : Option Files). IfSome t (λ held. HasStreamProgress plan network status held now)) tells
    come in
    let stream : List (List ℕ) = packets_of (made_stream seed count) in
    answered_so (feed_outputs (trial_plan seed count) (made_stream seed count)) trial_transmitters
    (steps_under (trial_plan seed count) stream (trial_events seed count))
    (reception_outputs (trial_plan seed count) (trial_network seed count) stream (trial_network seed count).receive)
    status (of_trial status) held now (fault_of_trial status)
    (on_stream (λ p n found. IfSome found (λ file. HasNetProgress p n file status held now)) plan network seed count
    held is has there here)

-- ---- the stream is made before

made_whole : (seed count : ℕ) (held : Files) (mid : Option Files) (made : Outcome) → made.status ≡ Done
    → IsCarriedOut (made_file seed count trial_name) (Some held) made mid → mid ≡ Some (with_trial seed count held)
made_whole seed count held mid made done carried =
    (whole_of_carried (made_file seed count trial_name) (Some held) mid made carried
    (λ fault. subst IsFault done fault)).files

-- what is said of the network over the files that hold the stream
abbrev pub OverStream : ℕ → ℕ → Option Files → (Files → Type 0) → Type 0
OverStream seed count mid P =
    (held : Files) → mid ≡ Some held → get held trial_name ≡ Some (made_stream seed count) → P held

pub then_carried : (seed count : ℕ) (told mid now : Option Files) (made outcome : Outcome) → made.status ≡ Done
    → IsCarriedOut (made_file seed count trial_name) told made mid
    → OverStream seed count mid (λ held. IsCarriedOut (trial_played seed count) (Some held) outcome now)
    → IfSome told (λ held. IsCarriedOut (trial_made seed count) (Some held) outcome now)
then_carried seed count None mid now made outcome done carried next = tt
then_carried seed count (Some held) mid now made outcome done carried next =
    carried_then (made_file seed count trial_name) (trial_played seed count) (Some held)
    (Some (with_trial seed count held)) now outcome refl
    (next (with_trial seed count held) (made_whole seed count held mid made done carried)
    (get-insert_same held trial_name (made_stream seed count)))

pub then_come : (seed count : ℕ) (told mid now : Option Files) (made : Outcome) (status : Status) → made.status ≡ Done
    → IsCarriedOut (made_file seed count trial_name) told made mid
    → OverStream seed count mid (λ held. HasNetProgress (trial_plan seed count) (trial_network seed count)
    (made_stream seed count) status held now) → IfSome told (λ held. HasMadeProgress seed count status held now)
unfolding HasTrialNet
then_come seed count None mid now made status done carried next = tt
then_come seed count (Some held) mid now made status done carried next =
    inr (next (with_trial seed count held) (made_whole seed count held mid made done carried)
    (get-insert_same held trial_name (made_stream seed count)))

pub alone_carried : (seed count : ℕ) (told now : Option Files) (made : Outcome) → (made.status ≡ Done → ⊥)
    → IsCarriedOut (made_file seed count trial_name) told made now
    → IfSome told (λ held. IsCarriedOut (trial_made seed count) (Some held) made now)
alone_carried seed count None now made not_done carried = tt
alone_carried seed count (Some held) now made not_done (inl whole) =
    absurd (not_done (ap (λ (o : Outcome). o.status) whole.answer))
alone_carried seed count (Some held) now made not_done (inr broken) =
    carried_before (made_file seed count trial_name) (trial_played seed count) (Some held) now made broken

pub alone_come : (seed count : ℕ) (told now : Option Files) (made : Outcome) → (made.status ≡ Done → ⊥)
    → IsCarriedOut (made_file seed count trial_name) told made now
    → IfSome told (λ held. HasMadeProgress seed count made.status held now)
alone_come seed count None now made not_done carried = tt
alone_come seed count (Some held) now made not_done carried = grind (arith, part_of_carried)

-- nothing was touched for want of memory
pub wanting_come : (seed count : ℕ) (told now : Option Files) (status : Status) → now ≡ told → IsFault status
    → IfSome told (λ held. HasMadeProgress seed count status held now)
wanting_come seed count None now status same fault = tt
wanting_come seed count (Some held) now status same fault =
    inl (fault, part_of_none ((trial_name, made_stream seed count) ∷ []) (Some held) now same)

-- ---- the words

-- three words, of which two are known
pub three_words : (words : List (List ℕ)) (seed count : List ℕ) → 3 ≤ length words → length words < 4
    → seed ≡ get_or words 1 seed → count ≡ get_or words 2 count → (verb : List ℕ) × (words ≡ verb ∷ seed ∷ count ∷ [])
three_words [] seed count least most one two = absurd (omega (arith, least))
three_words (verb ∷ []) seed count least most one two = absurd (omega (arith, least))
three_words (verb ∷ a ∷ []) seed count least most one two = absurd (omega (arith, least))
three_words (verb ∷ a ∷ b ∷ []) seed count least most one two =
    (verb, ap (λ x. verb ∷ x ∷ b ∷ []) (sym one) ∙ ap (λ x. verb ∷ seed ∷ x ∷ []) (sym two))
three_words (verb ∷ a ∷ b ∷ c ∷ rest) seed count least most one two = absurd (omega (arith, most))

-- a claim on two numbers is one on what these words spell
pub of_words : (P : Option ℕ → Option ℕ → Type 0) (seed count : Option ℕ) (seed_word count_word : List ℕ)
    → seed ≡ number_in (2 ^ 64 - 1) seed_word → count ≡ number_within 624 1000000 count_word → P seed count
    → P (number_in (2 ^ 64 - 1) seed_word) (number_within 624 1000000 count_word)
of_words P seed count seed_word count_word one two holds =
    subst (λ (o : Option ℕ). P (number_in (2 ^ 64 - 1) seed_word) o) two (subst (λ (o : Option ℕ). P o count) one holds)

-- ---- the headline

done_files : (seed count : ℕ) (held : Files) (now : Option Files)
    → IsSomeAnd now (HeadlineOfFiles (trial_plan seed count) (trial_network seed count)
    (packets_of (made_stream seed count)) (with_trial seed count held)) → IsSomeAnd now (IsTrialDone seed count held)
done_files seed count held None is = is
done_files seed count held (Some now) is = record {
  stream = is.files.others trial_name (grind (arith, any_of))
      ∙ get-insert_same held trial_name (made_stream seed count);
  network = is;
}

pub trial_headline : HeadlineLaw → (seed count : ℕ) (held : Files) (now : Option Files) (outcome : Outcome)
    → IsCarriedOut (trial_made seed count) (Some held) outcome now → outcome.status ≡ Done
    → IsSomeAnd now (IsTrialDone seed count held)
unfolding trial_played
trial_headline law seed count held now outcome carried done =
    let plan = trial_plan seed count in
    let network = trial_network seed count in
    let whole = whole_of_carried (trial_made seed count) (Some held) now outcome carried
    (λ fault. subst IsFault done fault) in
    let answered : of_trial (network_meaning plan network (Some (made_stream seed count))).outcome.status ≡ Done =
    sym (ap (λ (o : Outcome). o.status) whole.answer) ∙ done in
    done_files seed count held now
    (stream_done law plan network (with_trial seed count held) now (Some (made_stream seed count))
    (stream_bytes seed count) (is_plan seed count) (grind arith) whole.files)

pub headline_told : HeadlineLaw → (seed count : ℕ) (told now : Option Files) (outcome : Outcome)
    → IfSome told (λ held. IsCarriedOut (trial_made seed count) (Some held) outcome now)
    → IfSome told (λ held. outcome.status ≡ Done → HasNumbersHeadline (Some seed) (Some count) held now)
headline_told law seed count None now outcome carried = tt
headline_told law seed count (Some held) now outcome carried =
    λ done. trial_headline law seed count held now outcome carried done
