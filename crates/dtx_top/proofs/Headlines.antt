-- The headline, of a network whose meaning was carried out and is done.
use Rattle.std.proofs.Common.{◌≡◌, ℕ, ◌<◌, ◌≤◌, ◌^◌, Bool, true, false, cond, List, [], ◌∷◌, refl, sym, ap, subst, ◌∙◌}
use Rattle.std.proofs.Common.{arith}
use Rattle.std.specs.Prelude.{Option, Some, None, Result, Ok, Err, IfSome, IsSomeAnd, is_some, slice_get}
use Rattle.std.specs.FinMap.{get}
use Rattle.std.specs.Result.{IsOkAnd}
use Rattle.std.proofs.lemmas.Bool.{ltb-false}
use Rattle.std.proofs.lemmas.List.{append-nil, take_all}
use Rattle.std.proofs.lemmas.List.Elements.{All-get_or}
use Rattle.std.proofs.lemmas.Option.{slice_get_within, get_or_from_slice_get}
use Rattle.dtx_galois.specs.Field.{AreBytes}
use Rattle.dtx_outside.specs.Shelf.{ConsistOfBytes, Files}
use Rattle.dtx_packets.specs.Packets.{packets_of, whole_packets}
use Rattle.dtx_plan.proofs.WalksLemmas.{plan_sound, plan_transmitters}
use Rattle.dtx_plan.specs.Plan.{plan_of}
use Rattle.dtx_plan.specs.declared.plan.NetPlan.{NetPlan}
use Rattle.dtx_plan.specs.declared.plan.Plan.{Plan}
use Rattle.dtx_plan.specs.declared.plan.ReceivePlan.{ReceivePlan}
use Rattle.dtx_plan.specs.declared.refusal.PlanNo.{PlanNo}
use Rattle.dtx_plan.specs.declared.transmitter.Transmitter.{Transmitter}
use Rattle.dtx_chain.proofs.ReceivedLemmas.{all_whole}
use Rattle.dtx_network.specs.Network.{steps_under}
use Rattle.dtx_network.specs.Plans.{IsPlan, IsStream}
use Rattle.dtx_meaning.proofs.MeaningLemmas.{whole_of_carried}
use Rattle.dtx_meaning.specs.Meaning.{Meaning, Outputs, IsCarriedOut, refused, with_outputs}
use Rattle.dtx_meaning.specs.Status.{IsFault, done}
use Rattle.dtx_meaning.specs.declared.status.Outcome.{Outcome}
use Rattle.dtx_meaning.specs.declared.status.Status.TheVariants.{Done, Same}
use Rattle.dtx_words.specs.Names.{repeated, received_name}
use Rattle.dtx_forms.specs.PlanFile.{under_plan, under_said}
use Rattle.dtx_forms.specs.Shapes.{packets, segments}
use Rattle.dtx_recipes.specs.Adapt.{feeding}
use Rattle.dtx_packet_jobs.proofs.PacketFileLemmas.{packets_of-bytes}
use Rattle.dtx_jobs.proofs.ReceiveLemmas.{receives_all}
use Rattle.dtx_recipes.specs.SymbolFile as symbols
use Rattle.dtx_schedule.proofs.FilesLemmas.{AreApart, apart_of, files_with, with_outputs-told}
use Rattle.dtx_top.specs.HeadlineOfFiles.{HeadlineOfFiles}
use Rattle.dtx_top.specs.NetMeaning.{network_meaning, planned_meaning, received_of}
use Rattle.dtx_top.specs.Networks.{OfNetwork, AreWholeFiles, damaged_file, network_names, packets_received, sent_file}
use Rattle.dtx_top.proofs.Adapted.{AreAllTaken, all_taken, packets_given_of, taken_means}
use Rattle.dtx_top.proofs.Carrying.{is_done_is}
use Rattle.dtx_top.proofs.HeadlineLaw.{HeadlineLaw}
use Rattle.dtx_top.proofs.NetFiles.{network_files, network_outputs}
use Rattle.dtx_top.proofs.SegmentsBack.{segments_of_file}
use Rattle.dtx_top.proofs.SegmentsSent.{length-symbol_file}
use Rattle.dtx_top.proofs.StreamsLemmas.{is_stream}

-- ---- what was received

-- where the symbols were received, what is written of them
received_done : (plan : Plan) (network : NetPlan) (stream : List (List ℕ)) (receiver : ReceivePlan)
    → (received_of plan network stream receiver).outcome.status ≡ Done
    → (received_of plan network stream receiver).outputs ≡ (
      received_name,
      packets_received plan network stream receiver,
    ) ∷ []
unfolding damaged_file sent_file
received_done plan network stream receiver done =
    grind (arith, is_done_is, all_taken, length-symbol_file, take_all, taken_means, receives_all)

-- ---- all outputs

record IsDone (plan : Plan) (network : NetPlan) (file : List ℕ) : Type 0 where
  all : AreAllTaken packets (feeding plan) file
  outputs : (network_meaning plan network (Some file)).outputs
      ≡ network_outputs plan network (packets_of file) (packets_received plan network (packets_of file))

done_outputs : (plan : Plan) (network : NetPlan) (file : List ℕ)
    → (network_meaning plan network (Some file)).outcome.status ≡ Done → IsDone plan network file
done_outputs plan network file done =
    grind (arith, all_taken, is_done_is, taken_means, append-nil, packets_given_of, received_done)

-- ---- the headline

headline_of : HeadlineLaw → (plan : Plan) (network : NetPlan) (stream : List (List ℕ)) (held now : Files) → IsPlan plan
    → IsStream stream → AreWholeFiles plan network stream held now → HeadlineOfFiles plan network stream held now
headline_of law plan network stream held now plans streams files =
    let h = law plan stream network.events plans streams in
    record {
      files = files;
      segments = λ who t listed. segments_of_file t who (steps_under plan stream network.events);
      headline = h;
      gives_back = λ receiver x receives from. (h.follows x).gives_back
          (symbols.file_segments (damaged_file plan network stream receiver));
      gives_all_back = λ receiver x receives from. (h.follows x).gives_all_back
          (symbols.file_segments (damaged_file plan network stream receiver));
      packets = (λ receiver receives. grind (arith, packets_of-bytes, all_whole));
    }

small : (plan : Plan) → IsPlan plan → (who : ℕ) (t : Transmitter) → slice_get plan.transmitters who ≡ Some t
    → t.address < 2 ^ 16
small plan is who t at_t = grind (arith, get_or_from_slice_get, All-get_or, slice_get_within)

pub apart_plan : (plan : Plan) → IsPlan plan → AreApart plan.transmitters
apart_plan plan is = apart_of plan.transmitters is.sound.transmitters (small plan is)

-- the files and the headline, of a network whose plan is read
pub stream_done : HeadlineLaw
    → (plan : Plan) (network : NetPlan) (held : Files) (now : Option Files) (found : Option (List ℕ))
    → IfSome found AreBytes → IsPlan plan → (network_meaning plan network found).outcome.status ≡ Done
    → now ≡ with_outputs (network_meaning plan network found).outputs (Some held)
    → IsSomeAnd found (λ file. IsSomeAnd now (HeadlineOfFiles plan network (packets_of file) held))
stream_done law plan network held now None bytes is done files = cc
stream_done law plan network held now (Some file) bytes is done files =
    let whole = done_outputs plan network file done in
    let stream : List (List ℕ) = packets_of file in
    let outputs : Outputs = network_outputs plan network stream (packets_received plan network stream) in
    let told : now ≡ Some (files_with outputs held) = grind (arith, with_outputs-told) in
    let apart = apart_plan plan is in
    let few : whole_packets file ≤ 624000000 = ltb-false 624000000 (whole_packets file) whole.all.few in
    subst (λ (o : Option Files). IsSomeAnd o (HeadlineOfFiles plan network stream held)) (sym told)
    (headline_of law plan network stream held (files_with outputs held) is (is_stream file bytes few)
    (network_files plan network stream (packets_received plan network stream) held
    (files_with outputs held) apart refl))

module _ (law : HeadlineLaw) (name : List ℕ) (held : Files) (bytes : ConsistOfBytes held) (now : Option Files) where
  abbrev Claims : Plan → NetPlan → Type 0
  Claims plan network = IsSomeAnd (get held network.stream) (λ file.
      IsSomeAnd now (HeadlineOfFiles plan network (packets_of file) held))

  named_done : (plan : Plan) (network : NetPlan) (b : Bool) → IsPlan plan
      → (cond b (refused Same) (network_meaning plan network (get held network.stream))).outcome.status ≡ Done
      → now ≡ with_outputs (cond b (refused Same) (network_meaning plan network (get held network.stream))).outputs
      (Some held) → Claims plan network
  named_done plan network true is done files = cc
  named_done plan network false is done files =
      stream_done law plan network held now (get held network.stream) (bytes network.stream) is done files

  planned_done : (plan : Plan) (n : Option NetPlan) → IsPlan plan
      → (planned_meaning name held plan n).outcome.status ≡ Done
      → now ≡ with_outputs (planned_meaning name held plan n).outputs (Some held) → IsSomeAnd n (Claims plan)
  planned_done plan None is done files = cc
  planned_done plan (Some network) is done files =
      named_done plan network (is_some (repeated (network_names name plan network))) is done files

  -- what is meant under a plan of this name
  abbrev under : Plan → Meaning
  under said = planned_meaning name held said said.net

  said_done : (file : List ℕ) (r : Result Plan PlanNo) → plan_of file ≡ r → (under_said under r).outcome.status ≡ Done
      → now ≡ with_outputs (under_said under r).outputs (Some held)
      → IsOkAnd r (λ plan. IsSomeAnd plan.net (Claims plan))
  said_done file (Err refusal) is done files = cc
  said_done file (Ok plan) is done files = planned_done plan plan.net (record {
    sound = plan_sound file plan is;
    transmitters = plan_transmitters file plan is;
  }) done files

  file_done : (found : Option (List ℕ)) → (under_plan 0 found under).outcome.status ≡ Done
      → now ≡ with_outputs (under_plan 0 found under).outputs (Some held)
      → IsSomeAnd found (λ file. IsOkAnd (plan_of file) (λ plan. IsSomeAnd plan.net (Claims plan)))
  file_done None done files = cc
  file_done (Some file) done files = said_done file (plan_of file) refl done files

  pub headline_done : (outcome : Outcome)
      → IsCarriedOut (under_plan 0 (get held name) under) (Some held) outcome now → outcome.status ≡ Done
      → OfNetwork name held (λ plan network file. IsSomeAnd now (HeadlineOfFiles plan network (packets_of file) held))
  headline_done outcome carried done =
      let is = whole_of_carried (under_plan 0 (get held name) under) (Some held) now outcome carried
      (λ fault. subst IsFault done fault) in
      file_done (get held name) (sym (ap (λ (o : Outcome). o.status) is.answer) ∙ done) is.files
