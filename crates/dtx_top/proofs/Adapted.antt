-- A stream that was adapted whole, and what follows of its feed.
use Rattle.std.proofs.Common.{◌≡◌, ℕ, ◌%◌, Bool, true, false, cond, List, [], ◌∷◌, ◌++◌, length, refl, sym, ap, subst}
use Rattle.std.proofs.Common.{◌∙◌, inl, inr, arith}
use Rattle.std.specs.Prelude.{Option, Some, None, IfSome, nat_lt, slice_index}
use Rattle.std.specs.FinMap.{get}
use Rattle.std.proofs.lemmas.List.{append-nil}
use Rattle.dtx_adapter.specs.Feed.{placeholders}
use Rattle.dtx_engine.specs.Recipe.{Recipe, first_refused, first_units, meaning, meaning_at, meaning_of_file}
use Rattle.dtx_engine.specs.Recipe.{whole_units}
use Rattle.dtx_engine.specs.declared.engine.Shape.{Shape}
use Rattle.dtx_engine.specs.declared.piece.Ending.TheVariants.{Whole}
use Rattle.dtx_recipes.specs.Adapt.{feeding, feed_bytes}
use Rattle.dtx_forms.proofs.FilePacketsLemmas.{length-packets_of, long-packets_of}
use Rattle.dtx_forms.specs.Shapes.{packets}
use Rattle.dtx_meaning.proofs.MeaningLemmas.{carried_before, carried_then, part_of_carried}
use Rattle.dtx_meaning.specs.Meaning.{Meaning, IsCarriedOut, IsWhole, and_then, with_outputs}
use Rattle.dtx_meaning.specs.Status.{IsFault}
use Rattle.dtx_meaning.specs.declared.status.Outcome.{Outcome}
use Rattle.dtx_meaning.specs.declared.status.Status.{Status}
use Rattle.dtx_meaning.specs.declared.status.Status.TheVariants.{Done}
use Rattle.dtx_network.specs.Network.{steps_under}
use Rattle.dtx_outside.proofs.FilesLemmas.{get-insert_same}
use Rattle.dtx_outside.specs.Shelf.{Files, with_file}
use Rattle.dtx_packets.proofs.PacketLemmas.{packets_of-piece, whole_packets-piece}
use Rattle.dtx_packets.specs.Packets.{packets_of, whole_packets}
use Rattle.dtx_plan.specs.declared.plan.NetPlan.{NetPlan}
use Rattle.dtx_plan.specs.declared.plan.Plan.{Plan}
use Rattle.dtx_words.specs.Names.{feed_name}
use Rattle.dtx_top.specs.NetMeaning.{fed_meaning, is_done, network_meaning}
use Rattle.dtx_top.specs.NetProgress.{HasPlayProgress, HasNetProgress, HasStreamProgress, feed_outputs}
use Rattle.dtx_top.specs.NetProgress.{reception_outputs, IsFeedWritten, fed_of}
use Rattle.dtx_top.proofs.Carrying.{is_done_is}
use Rattle.dtx_top.proofs.NetProgresses.{fed_on, only_fed}

-- ---- all units of an input were allowed, and are not too many

pub record AreAllTaken (shape : Shape) (recipe : Recipe) (file : List ℕ) : Type 0 where
  pub none : first_refused shape recipe file ≡ None
  pub few : nat_lt shape.limit (whole_units shape file) ≡ false

-- so it is where the answer is that the command is done
pub all_taken : (shape : Shape) (recipe : Recipe) (names : List (List ℕ)) (file : List ℕ)
    → (meaning_of_file shape recipe names file).outcome.status ≡ Done → AreAllTaken shape recipe file
all_taken shape recipe names file done = grind arith

pub taken_means : (shape : Shape) (recipe : Recipe) (names : List (List ℕ)) (file : List ℕ)
    → AreAllTaken shape recipe file → meaning_of_file shape recipe names file ≡ meaning_at recipe names
    (first_units shape file (whole_units shape file)) (Whole (length file % shape.unit))
taken_means shape recipe names file all = grind arith

-- ---- the feed of a stream was written

-- the whole packets of the stream's file
abbrev pub given_of : List ℕ → List ℕ
given_of file = first_units packets file (whole_units packets file)

pub packets_given_of : (file : List ℕ) → packets_of (given_of file) ≡ packets_of file
packets_given_of file = packets_of-piece file 0 (whole_packets file) (omega arith)

written : (plan : Plan) (file : List ℕ) (held mid : Files) (fed : Outcome) → AreAllTaken packets (feeding plan) file
    → IsWhole (meaning_of_file packets (feeding plan) (feed_name ∷ []) file) (Some held) fed (Some mid)
    → IsFeedWritten plan (packets_of file) (fed_of fed) mid
written plan file held mid fed all whole =
    let means = taken_means packets (feeding plan) (feed_name ∷ []) file all in
    let given : List ℕ = given_of file in
    let bytes : List ℕ = feed_bytes plan (packets_of given) ++ [] in
    let answer = whole.answer ∙ ap (λ (m : Meaning). m.outcome) means in
    let files : Some mid ≡ Some (with_file feed_name bytes held) = grind arith in
    let are : mid ≡ with_file feed_name bytes held = cc in
    record {
      long = long-packets_of file;
      numbers = record {
        packets = ap (λ (o : Outcome). slice_index o.numbers 0) answer
            ∙ whole_packets-piece file 0 (whole_packets file) (omega arith) ∙ sym (length-packets_of file);
        filled = ap (λ (o : Outcome). slice_index o.numbers 1) answer ∙ ap placeholders (packets_given_of file);
      };
      feed = ap (λ (files : Files). get files feed_name) are ∙ get-insert_same held feed_name bytes
          ∙ ap Some (append-nil (feed_bytes plan (packets_of given)) ∙ ap (feed_bytes plan) (packets_given_of file));
    }

-- what is written of the stream of a file that is adapted whole
pub record IsAdapted (plan : Plan) (file : List ℕ) (held : Files) (fed : Outcome) (mid : Option Files) : Type 0 where
  pub between : Files
  pub told : mid ≡ Some between
  pub whole : Some between ≡ with_outputs (feed_outputs plan file) (Some held)
  pub written : IsFeedWritten plan (packets_of file) (fed_of fed) between

pub adapted_whole : (plan : Plan) (file : List ℕ) (held : Files) (fed : Outcome) (mid : Option Files)
    → fed.status ≡ Done → IsWhole (meaning_of_file packets (feeding plan) (feed_name ∷ []) file) (Some held) fed mid
    → IsAdapted plan file held fed mid
adapted_whole plan file held fed mid done whole =
    let all : AreAllTaken packets (feeding plan) file = all_taken packets (feeding plan) (feed_name ∷ []) file
    (sym (ap (λ (o : Outcome). o.status) whole.answer) ∙ done) in
    let between : Files = with_file feed_name (feed_bytes plan (packets_of (given_of file)) ++ []) held in
    let told : mid ≡ Some between = whole.files ∙ ap (λ (m : Meaning). with_outputs m.outputs (Some held))
    (taken_means packets (feeding plan) (feed_name ∷ []) file all) in
    record {
      between = between;
      told = told;
      whole = sym told ∙ whole.files;
      written = written plan file held between fed all
          (record { answer = whole.answer; files = sym told ∙ whole.files });
    }

-- ---- what follows of it

not_fault : (status : Status) → status ≡ Done → IsFault status → ⊥
not_fault status done fault = subst IsFault done fault

pub fed_then : (plan : Plan) (network : NetPlan) (held : Files) (found : Option (List ℕ)) (mid now : Option Files)
    (fed result : Outcome) → fed.status ≡ Done
    → IsCarriedOut (meaning packets (feeding plan) 1 (feed_name ∷ []) found) (Some held) fed mid
    → ((told : Files) (stream : List (List ℕ)) → mid ≡ Some told → IsFeedWritten plan stream (fed_of fed) told
    → IsCarriedOut (fed_meaning plan network stream) (Some told) result now)
    → IsCarriedOut (network_meaning plan network found) (Some held) result now
fed_then plan network held found mid now fed result done (inr broken) next = grind (arith, not_fault)
fed_then plan network held None mid now fed result done (inl whole) next = let e =
    ap (λ (o : Outcome). o.status) whole.answer in cc
fed_then plan network held (Some file) mid now fed result done (inl whole) next =
    at_done (is_done first.outcome.status) refl
  where
    first : Meaning
    first = meaning_of_file packets (feeding plan) (feed_name ∷ []) file

    first_done : first.outcome.status ≡ Done
    first_done = sym (ap (λ (o : Outcome). o.status) whole.answer) ∙ done

    is : IsAdapted plan file held fed mid
    is = adapted_whole plan file held fed mid done whole

    behind : IsCarriedOut (and_then first (fed_meaning plan network (packets_of file))) (Some held) result now
    behind = carried_then first (fed_meaning plan network (packets_of file)) (Some held) (Some is.between) now result
        is.whole (next is.between (packets_of file) is.told is.written)

    at_done : (b : Bool) → is_done first.outcome.status ≡ b
        → IsCarriedOut (cond b (and_then first (fed_meaning plan network (packets_of file))) first)
        (Some held) result now
    at_done true e = behind
    at_done false e = let t : is_done first.outcome.status ≡ true = ap is_done first_done in cc

pub fed_alone : (plan : Plan) (network : NetPlan) (held : Files) (found : Option (List ℕ)) (now : Option Files)
    (fed : Outcome) → (fed.status ≡ Done → ⊥)
    → IsCarriedOut (meaning packets (feeding plan) 1 (feed_name ∷ []) found) (Some held) fed now
    → IsCarriedOut (network_meaning plan network found) (Some held) fed now
fed_alone plan network held None now fed not_done carried = carried
fed_alone plan network held (Some file) now fed not_done carried = at_done (is_done first.outcome.status) refl carried
  where
    first : Meaning
    first = meaning_of_file packets (feeding plan) (feed_name ∷ []) file

    next : Meaning
    next = fed_meaning plan network (packets_of file)

    at_done : (b : Bool) → is_done first.outcome.status ≡ b → IsCarriedOut first (Some held) fed now
        → IsCarriedOut (cond b (and_then first next) first) (Some held) fed now
    at_done false e carried = carried
    at_done true e (inl whole) = grind (arith, is_done_is)
    at_done true e (inr broken) = carried_before first next (Some held) now fed broken

-- ---- where the files are told

pub fed_then_told : (plan : Plan) (network : NetPlan) (told mid now : Option Files) (fed result : Outcome)
    → fed.status ≡ Done
    → IfSome told (λ held. IsCarriedOut (meaning packets (feeding plan) 1 (feed_name ∷ []) (get held network.stream))
    (Some held) fed mid)
    → ((held : Files) (stream : List (List ℕ)) → mid ≡ Some held → IsFeedWritten plan stream (fed_of fed) held
    → IsCarriedOut (fed_meaning plan network stream) (Some held) result now)
    → IfSome told (λ held. IsCarriedOut (network_meaning plan network (get held network.stream)) (Some held) result now)
fed_then_told plan network None mid now fed result done carried next = tt
fed_then_told plan network (Some held) mid now fed result done carried next =
    fed_then plan network held (get held network.stream) mid now fed result done carried next

pub fed_alone_told : (plan : Plan) (network : NetPlan) (told now : Option Files) (fed : Outcome)
    → (fed.status ≡ Done → ⊥)
    → IfSome told (λ held. IsCarriedOut (meaning packets (feeding plan) 1 (feed_name ∷ []) (get held network.stream))
    (Some held) fed now)
    → IfSome told (λ held. IsCarriedOut (network_meaning plan network (get held network.stream)) (Some held) fed now)
fed_alone_told plan network None now fed not_done carried = tt
fed_alone_told plan network (Some held) now fed not_done carried =
    fed_alone plan network held (get held network.stream) now fed not_done carried

-- ---- how far it came

-- the feed is whole
fed_then_come : (plan : Plan) (network : NetPlan) (held : Files) (found : Option (List ℕ)) (mid now : Option Files)
    (fed : Outcome) (status : Status) → fed.status ≡ Done
    → IsCarriedOut (meaning packets (feeding plan) 1 (feed_name ∷ []) found) (Some held) fed mid
    → ((told : Files) (stream : List (List ℕ)) → mid ≡ Some told → IsFeedWritten plan stream (fed_of fed) told
    → HasPlayProgress plan network stream status told now)
    → IfSome found (λ file. HasNetProgress plan network file status held now)
fed_then_come plan network held None mid now fed status done carried next = tt
fed_then_come plan network held (Some file) mid now fed status done (inr broken) next = grind (arith, not_fault)
fed_then_come plan network held (Some file) mid now fed status done (inl whole) next =
    let is = adapted_whole plan file held fed mid done whole in
    fed_on (feed_outputs plan file) plan.transmitters (steps_under plan (packets_of file) network.events)
    (reception_outputs plan network (packets_of file) network.receive) status held is.between now is.whole
    (next is.between (packets_of file) is.told is.written)

pub fed_then_progress : (plan : Plan) (network : NetPlan) (told mid now : Option Files) (fed : Outcome)
    (status : Status) → fed.status ≡ Done
    → IfSome told (λ held. IsCarriedOut (meaning packets (feeding plan) 1 (feed_name ∷ []) (get held network.stream))
    (Some held) fed mid)
    → ((held : Files) (stream : List (List ℕ)) → mid ≡ Some held → IsFeedWritten plan stream (fed_of fed) held
    → HasPlayProgress plan network stream status held now)
    → IfSome told (λ held. HasStreamProgress plan network status held now)
fed_then_progress plan network None mid now fed status done carried next = tt
fed_then_progress plan network (Some held) mid now fed status done carried next =
    fed_then_come plan network held (get held network.stream) mid now fed status done carried next

-- the feed isn't whole
fed_alone_come : (plan : Plan) (network : NetPlan) (held : Files) (found : Option (List ℕ)) (now : Option Files)
    (fed : Outcome) → IsCarriedOut (meaning packets (feeding plan) 1 (feed_name ∷ []) found) (Some held) fed now
    → IfSome found (λ file. HasNetProgress plan network file fed.status held now)
fed_alone_come plan network held None now fed carried = tt
fed_alone_come plan network held (Some file) now fed carried =
    only_fed (feed_outputs plan file) plan.transmitters (steps_under plan (packets_of file) network.events)
    (reception_outputs plan network (packets_of file) network.receive) fed.status held now
    (part_of_carried (meaning_of_file packets (feeding plan) (feed_name ∷ []) file) (Some held) now fed carried)

pub fed_alone_progress : (plan : Plan) (network : NetPlan) (told now : Option Files) (fed : Outcome)
    → IfSome told (λ held. IsCarriedOut (meaning packets (feeding plan) 1 (feed_name ∷ []) (get held network.stream))
    (Some held) fed now) → IfSome told (λ held. HasStreamProgress plan network fed.status held now)
fed_alone_progress plan network None now fed carried = tt
fed_alone_progress plan network (Some held) now fed carried =
    fed_alone_come plan network held (get held network.stream) now fed carried
