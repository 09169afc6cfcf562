-- The files of a network, under a plan and a stream (the profile's own).
use Rattle.std.specs.Prelude.{◌≡◌, ℕ, Option, Some, None, IfSome, IsSomeAnd, List, [], ◌∷◌, ◌++◌, slice_get}
use Rattle.std.specs.FinMap.{get}
use Rattle.std.specs.List.{Contains}
use Rattle.std.specs.Option.{option_map_or}
use Rattle.std.specs.Result.{IsOkAnd}
use Rattle.dtx_recipes.specs.Adapt.{feed_bytes}
use Rattle.dtx_recipes.specs.Receive.{received_bytes}
use Rattle.dtx_make.specs.Hurt.{hurt}
use Rattle.dtx_net.specs.Steps.{transmitter_place}
use Rattle.dtx_network.specs.Network.{steps_under}
use Rattle.dtx_outside.specs.Shelf.{Files}
use Rattle.dtx_plan.specs.Plan.{plan_of}
use Rattle.dtx_plan.specs.declared.plan.NetPlan.{NetPlan}
use Rattle.dtx_plan.specs.declared.plan.Plan.{Plan}
use Rattle.dtx_plan.specs.declared.plan.ReceivePlan.{ReceivePlan}
use Rattle.dtx_schedule.specs.TransmitterFiles.{symbol_file, log_file, transmitter_names}
use Rattle.dtx_words.specs.Names.{feed_name, log_name, received_name, symbol_name}

-- ---- names

-- the name of the file of packets received, if the plan asks for a receiver
abbrev pub received_names : Option ReceivePlan → List (List ℕ)
received_names None = []
received_names (Some receiver) = received_name ∷ []

-- The files that a network writes: the feed, two files for each transmitter in the plan's order, and the packets
-- received.
abbrev pub written_names : Plan → NetPlan → List (List ℕ)
written_names plan network = feed_name ∷ (transmitter_names plan.transmitters ++ received_names network.receive)

-- all its files: the plan, the stream, and those that it writes
abbrev pub network_names : List ℕ → Plan → NetPlan → List (List ℕ)
network_names name plan network = name ∷ network.stream ∷ written_names plan network

-- ---- what they hold

-- the symbol file of the transmitter with this address
unfoldable pub sent_file : Plan → NetPlan → List (List ℕ) → ℕ → List ℕ
sent_file plan network stream address =
    option_map_or (λ who. option_map_or (λ t. symbol_file t who (steps_under plan stream network.events))
    (slice_get plan.transmitters who) [])
    (transmitter_place address plan.transmitters) []

-- the symbols that are received: those of the receiver's transmitter, with the damage laid over them
unfoldable pub damaged_file : Plan → NetPlan → List (List ℕ) → ReceivePlan → List ℕ
damaged_file plan network stream receiver = hurt receiver.damage (sent_file plan network stream receiver.from)

-- no file but those of these names was touched
abbrev pub AreOthersKept : List (List ℕ) → Files → Files → Type 0
AreOthersKept names held now = (name : List ℕ) → ¬ Contains names name → get now name ≡ get held name

-- each transmitter's files hold what it sends and logs over the whole schedule
pub record AreSentFiles (plan : Plan) (network : NetPlan) (stream : List (List ℕ)) (now : Files) : Type 0 where
  pub symbols : (who : ℕ) (t : _) → slice_get plan.transmitters who ≡ Some t
      → get now (symbol_name t.address) ≡ Some (symbol_file t who (steps_under plan stream network.events))
  pub logs : (who : ℕ) (t : _) → slice_get plan.transmitters who ≡ Some t
      → get now (log_name t.address) ≡ Some (log_file t who (steps_under plan stream network.events))

-- The files hold the feed and what the transmitters send and log. If the plan asks for a receiver, the file of the
-- packets received holds what `made` gives. No other file was touched.
pub record AreNetworkFiles (plan : Plan) (network : NetPlan) (stream : List (List ℕ)) (made : ReceivePlan
    → List ℕ) (held now : Files) : Type 0 where
  pub feed : get now feed_name ≡ Some (feed_bytes plan stream)
  pub sent : AreSentFiles plan network stream now
  pub received : IfSome network.receive (λ receiver. get now received_name ≡ Some (made receiver))
  pub others : AreOthersKept (written_names plan network) held now

-- the packets that are received of the damaged symbols
abbrev pub packets_received : Plan → NetPlan → List (List ℕ) → ReceivePlan → List ℕ
packets_received plan network stream receiver = received_bytes (damaged_file plan network stream receiver)

-- All files of a network that is done are there and whole.
abbrev pub AreWholeFiles : Plan → NetPlan → List (List ℕ) → Files → Files → Type 0
AreWholeFiles plan network stream held now =
    AreNetworkFiles plan network stream (packets_received plan network stream) held now

-- ---- the network of the files

-- P holds of the plan in the file of this name and of its table `net`, which are both there
abbrev pub OfNetPlan : List ℕ → Files → (Plan → NetPlan → Type 0) → Type 0
OfNetPlan name held P =
    IsSomeAnd (get held name) (λ bytes. IsOkAnd (plan_of bytes)
    (λ plan. IsSomeAnd plan.net (λ network. P plan network)))

-- P holds of these and of the bytes of the stream, which is there
abbrev pub OfNetwork : List ℕ → Files → (Plan → NetPlan → List ℕ → Type 0) → Type 0
OfNetwork name held P =
    OfNetPlan name held (λ plan network. IsSomeAnd (get held network.stream) (λ file. P plan network file))
