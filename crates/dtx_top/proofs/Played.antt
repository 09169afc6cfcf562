-- The events of a network, played over the feed of its stream, and what is received of them.
use Rattle.std.proofs.Common.{◌≡◌, ◌≢◌, ℕ, ◌*◌, ◌-◌, ◌^◌, ◌≤◌, List, [], ◌∷◌, length, sym, ap, subst, ◌∙◌, arith}
use Rattle.std.specs.Prelude.{Option, Some, None, IfSome, min}
use Rattle.std.specs.FinMap.{get}
use Rattle.std.proofs.lemmas.Bool.{cond-false}
use Rattle.dtx_adapter.specs.Feed.{feed, placeholders}
use Rattle.dtx_recipes.specs.Adapt.{feed_bytes}
use Rattle.dtx_packet_jobs.proofs.FeedFileLemmas.{packets_of-feed_bytes, whole_packets-feed_bytes}
use Rattle.dtx_recipes.specs.Hurt.{first_past}
use Rattle.dtx_meaning.proofs.MeaningLemmas.{carried_part, carried_then, part_before, part_of_carried, some_before}
use Rattle.dtx_meaning.specs.Meaning.{Meaning, IsCarriedOut, with_outputs}
use Rattle.dtx_meaning.specs.Status.{IsFault, ended}
use Rattle.dtx_meaning.specs.declared.status.Outcome.{Outcome}
use Rattle.dtx_meaning.specs.declared.status.Status.{Status}
use Rattle.dtx_net.specs.Steps.{Step, schedule}
use Rattle.dtx_network.specs.Network.{steps_under}
use Rattle.dtx_outside.specs.Shelf.{Files}
use Rattle.dtx_packets.specs.Packets.{packets_of, whole_packets}
use Rattle.dtx_plan.specs.Sound.{AreDamages, IsReceived, IsSound}
use Rattle.dtx_plan.specs.declared.plan.NetPlan.{NetPlan}
use Rattle.dtx_plan.specs.declared.plan.Plan.{Plan}
use Rattle.dtx_plan.specs.declared.plan.ReceivePlan.{ReceivePlan}
use Rattle.dtx_plan.specs.declared.transmitter.Transmitter.{Transmitter}
use Rattle.dtx_schedule.proofs.FilesLemmas.{apart_of, files_with, has_pair, with_outputs-told}
use Rattle.dtx_schedule.specs.Inside.{first_past_feed}
use Rattle.dtx_schedule.specs.Played.{IsPlayFault}
use Rattle.dtx_schedule.specs.Playout.{IsPlayout, SentBy, packets_given}
use Rattle.dtx_schedule.specs.TransmitterFiles.{Contents, files_of, played, played_outputs, symbol_file}
use Rattle.dtx_schedule.specs.declared.playout.Playout.{Playout}
use Rattle.dtx_words.specs.Names.{feed_name, symbol_name}
use Rattle.dtx_top.specs.NetMeaning.{played_and_received, playing, received_of, received_past, with_received}
use Rattle.dtx_top.specs.NetProgress.{NetProgress, reception_outputs, HasNumbers, IsFeedWritten}
use Rattle.dtx_top.specs.Networks.{sent_file}
use Rattle.dtx_top.specs.declared.replaying.Fed.{Fed}
use Rattle.dtx_top.proofs.Carrying.{fault_not_done}
use Rattle.dtx_top.proofs.NetProgresses.{received_on}
use Rattle.dtx_top.proofs.SymbolsSent.{IsPlace, counted_serves, place_there, sent_file_is}

pub damages_of : (ts : List Transmitter) (receive : Option ReceivePlan) → IfSome receive (IsReceived ts)
    → IfSome receive (λ receiver. AreDamages receiver.damage)
damages_of ts None is = tt
damages_of ts (Some receiver) is = is.damage

-- what playing says of the feed, as it was written of a stream: `Says` of the transmitters and the steps
abbrev pub PlaysFeed : (List Transmitter → List Step → Files → Type 0) → List Transmitter → NetPlan → Option Files
    → Type 0
PlaysFeed Says ts network told = (held : Files) (bytes : List ℕ) → told ≡ Some held → get held feed_name ≡ Some bytes
    → first_past_feed network.events (whole_packets bytes) ≡ None
    → Says ts (schedule ts (packets_of bytes) network.events) held

pub played_over : (Says : List Transmitter → List Step → Files → Type 0) (plan : Plan) (network : NetPlan)
    (stream : List (List ℕ)) (ts : List Transmitter) (fed : Fed) (held : Files) (told : Option Files)
    → IsSound plan → ts ≡ plan.transmitters → told ≡ Some held → IsFeedWritten plan stream fed held
    → first_past_feed network.events (length stream) ≡ None → PlaysFeed Says ts network told
    → Says plan.transmitters (steps_under plan stream network.events) held
played_over Says plan network stream ts fed held told sound its is written inside says =
    let bytes : List ℕ = feed_bytes plan stream in
    let whole : whole_packets bytes ≡ length stream = whole_packets-feed_bytes plan stream sound written.long in
    let over : Says ts (schedule ts (packets_of bytes) network.events) held =
    says held bytes is written.feed (ap (first_past_feed network.events) whole ∙ inside) in
    subst (λ (us : List Transmitter). Says us (schedule us (feed plan stream) network.events) held) its
    (subst (λ (packets : List (List ℕ)). Says ts (schedule ts packets network.events) held)
    (packets_of-feed_bytes plan stream sound written.long) over)

-- where there is a transmitter there are its files
some_files : (contents : Contents) (ts : List Transmitter) → 1 ≤ length ts → files_of contents ts ≢ []
some_files contents [] some = absurd (omega (arith, some))
some_files contents (t ∷ ts) some = λ none. cc

-- a fault while they were played
pub play_fault : (plan : Plan) (network : NetPlan) (stream : List (List ℕ)) (receive : Option ReceivePlan)
    (held : Files) (status : Status) (outcome : Outcome) (now : Option Files) → 1 ≤ length plan.transmitters
    → IsPlayFault plan.transmitters (steps_under plan stream network.events) held status now → outcome ≡ ended status
    → IsCarriedOut (played_and_received plan network stream receive) (Some held) outcome now
play_fault plan network stream receive held status outcome now transmitters is ends = by_receiver receive
  where
    fault : IsFault outcome.status
    fault = subst (λ (o : Outcome). IsFault o.status) (sym ends) is.fault

    some : (playing plan network stream).outputs ≢ []
    some = some_files (played (steps_under plan stream network.events)) plan.transmitters transmitters

    by_receiver : (receive : Option ReceivePlan)
        → IsCarriedOut (played_and_received plan network stream receive) (Some held) outcome now
    by_receiver None = carried_part (playing plan network stream) (Some held) now outcome fault some is.part
    by_receiver (Some receiver) =
        carried_part (played_and_received plan network stream (Some receiver)) (Some held) now outcome fault
        (some_before (playing plan network stream).outputs (received_of plan network stream receiver).outputs some)
        (part_before (playing plan network stream).outputs (received_of plan network stream receiver).outputs
        (Some held) now is.part)

-- with one the symbols are received, from the files that the schedule left
pub record AreReceived (plan : Plan) (network : NetPlan) (stream : List (List ℕ)) (receiver : ReceivePlan)
    (held : Files) (received : Outcome) (now : Option Files) : Type 0 where
  pub mid : Files
  pub left : Some mid ≡ with_outputs (played_outputs plan.transmitters
      (steps_under plan stream network.events)) (Some held)
  pub carried : IsCarriedOut (received_past
      (first_past receiver.damage (length (sent_file plan network stream receiver.from))) receiver.damage
      (sent_file plan network stream receiver.from)) (Some mid) received now

pub received_told : (plan : Plan) (network : NetPlan) (stream : List (List ℕ)) (receiver : ReceivePlan)
    (held : Files) (told now : Option Files) (received : Outcome) (playout : Playout) (segments symbols : ℕ)
    → IsReceived plan.transmitters receiver
    → IsPlayout plan.transmitters playout (steps_under plan stream network.events)
    → SentBy receiver.from plan.transmitters (steps_under plan stream network.events) segments
    → symbols ≡ min (segments * 832) (2 ^ 64 - 1)
    → told ≡ with_outputs (played_outputs plan.transmitters (steps_under plan stream network.events)) (Some held)
    → ((held : Files) (file : List ℕ) → told ≡ Some held → get held (symbol_name receiver.from) ≡ Some file
    → first_past receiver.damage symbols ≡ first_past receiver.damage (length file)
    → IsCarriedOut (received_past (first_past receiver.damage (length file)) receiver.damage file)
    (Some held) received now) → AreReceived plan network stream receiver held received now
received_told plan network stream receiver held told now received playout segments symbols is playing counted many
    left says = record {
      mid = mid;
      left = sym (with_outputs-told (played_outputs ts steps) held);
      carried = subst (λ file. IsCarriedOut (received_past (first_past receiver.damage (length file)) receiver.damage
          file) (Some mid) received now) (sym (sent_file_is plan network stream receiver.from who t place))
          (says mid (symbol_file t who steps) (left ∙ with_outputs-told (played_outputs ts steps) held) there
          (counted_serves ts steps receiver who segments symbols t place counted is.damage.each many));
    }
  where
    ts : List Transmitter
    ts = plan.transmitters

    steps : List Step
    steps = steps_under plan stream network.events

    mid : Files
    mid = files_with (played_outputs ts steps) held

    who : ℕ
    who = (place_there ts receiver.from is.listed).0

    t : Transmitter
    t = (place_there ts receiver.from is.listed).1

    place : IsPlace ts receiver.from who t
    place = (place_there ts receiver.from is.listed).2

    there : get mid (symbol_name receiver.from) ≡ Some (symbol_file t who steps)
    there = subst (λ a. get mid (symbol_name a) ≡ Some (symbol_file t who steps)) place.own
        (has_pair ts who t (played steps) held (apart_of ts playing.transmitters playing.names.small) place.here).sent

pub received_behind : (plan : Plan) (network : NetPlan) (receiver : ReceivePlan) (stream : List (List ℕ))
    (held : Files) (now : Option Files) (fed : Fed) (steps : ℕ) (received result : Outcome)
    → HasNumbers stream fed → steps ≡ packets_given (steps_under plan stream network.events)
    → AreReceived plan network stream receiver held received now
    → result ≡ with_received fed.packets fed.filled steps received
    → IsCarriedOut (played_and_received plan network stream (Some receiver)) (Some held) result now
received_behind plan network receiver stream held now fed steps received result numbers counted sent is =
    let m : Meaning = received_past (first_past receiver.damage (length (sent_file plan network stream receiver.from)))
    receiver.damage (sent_file plan network stream receiver.from) in
    let same : result ≡ with_received (length stream) (placeholders stream)
    (packets_given (steps_under plan stream network.events)) received =
    is ∙ ap (λ n. with_received n fed.filled steps received) numbers.packets
    ∙ ap (λ n. with_received (length stream) n steps received) numbers.filled
    ∙ ap (λ n. with_received (length stream) (placeholders stream) n received) counted in
    carried_then (playing plan network stream) (received_of plan network stream receiver) (Some held)
    (Some sent.mid) now result sent.left (grind (arith, fault_not_done, cond-false))

-- ---- how far it came

-- the symbols were received, whatever is answered then
pub received_progress : (plan : Plan) (network : NetPlan) (stream : List (List ℕ)) (receive : Option ReceivePlan)
    (receiver : ReceivePlan) (held : Files) (now : Option Files) (received : Outcome) (status : Status)
    → receive ≡ Some receiver → AreReceived plan network stream receiver held received now
    → NetProgress [] plan.transmitters (steps_under plan stream network.events)
    (reception_outputs plan network stream receive) status held now
received_progress plan network stream receive receiver held now received status its is =
    subst (λ o. NetProgress [] plan.transmitters (steps_under plan stream network.events)
    (reception_outputs plan network stream o) status held now) (sym its)
    (received_on plan.transmitters (steps_under plan stream network.events)
    (reception_outputs plan network stream (Some receiver)) status held (Some is.mid) now is.left
    (part_of_carried (received_past
    (first_past receiver.damage (length (sent_file plan network stream receiver.from))) receiver.damage
    (sent_file plan network stream receiver.from)) (Some is.mid) now received is.carried))
