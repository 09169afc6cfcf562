-- How far a network came: what stands in its files when it ends, whatever it answers (the profile's own).
use Rattle.std.specs.Prelude.{◌≡◌, ◌≢◌, ◌⊎◌, ℕ, ◌+◌, ◌<◌, Option, Some, None, IsSomeAnd, IfSome, IfOk, List, [], ◌∷◌}
use Rattle.std.specs.Prelude.{◌++◌, slice_get, take, All, length, slice_index}
use Rattle.std.specs.FinMap.{get}
use Rattle.dtx_engine.specs.Recipe.{meaning_of_file}
use Rattle.dtx_forms.specs.Shapes.{packets}
use Rattle.dtx_meaning.specs.Meaning.{IsFrontOf, Outputs, with_outputs}
use Rattle.dtx_meaning.specs.Status.{IsFault}
use Rattle.dtx_meaning.specs.declared.status.Status.{Status}
use Rattle.dtx_net.specs.Steps.{Step}
use Rattle.dtx_network.specs.Network.{steps_under}
use Rattle.dtx_outside.specs.Shelf.{Files}
use Rattle.dtx_packets.specs.Packets.{packets_of}
use Rattle.dtx_plan.specs.Plan.{plan_of}
use Rattle.dtx_plan.specs.declared.plan.NetPlan.{NetPlan}
use Rattle.dtx_plan.specs.declared.plan.Plan as whole
use Rattle.dtx_plan.specs.declared.plan.ReceivePlan.{ReceivePlan}
use Rattle.dtx_plan.specs.declared.transmitter.Transmitter.{Transmitter}
use Rattle.dtx_recipes.specs.Adapt.{feeding, feed_bytes}
use Rattle.dtx_schedule.specs.PlayedSoFar.{IsComplete, Progress, begun_files}
use Rattle.dtx_schedule.specs.TransmitterFiles.{log_file, symbol_file}
use Rattle.dtx_words.specs.Names.{feed_name, log_name, symbol_name}
use Rattle.dtx_top.specs.NetMeaning.{received_of}
use Rattle.dtx_adapter.specs.Feed.{placeholders}
use Rattle.dtx_meaning.specs.declared.status.Outcome.{Outcome}
use Rattle.dtx_plan.specs.declared.plan.Plan.{Plan}
use Rattle.dtx_top.specs.declared.replaying.Fed.{Fed}

-- these are some of the first outputs, each with a prefix of its bytes
abbrev pub AreFirstParts : Outputs → Outputs → Type 0
AreFirstParts [] outputs = Unit {0}
AreFirstParts (part ∷ parts) [] = ⊥
AreFirstParts (part ∷ parts) (o ∷ rest) = (part.0 ≡ o.0) × IsFrontOf part.1 o.1 × AreFirstParts parts rest

-- How far a network came that writes this feed, plays these steps over it, and then receives `whole_reception`. It
-- touched no file but its own. It began them in one order: `net.feed`, the transmitters' files, `net.ts`.
pub record NetProgress (whole_feed : Outputs) (ts : List Transmitter) (steps : List Step) (whole_reception : Outputs)
    (status : Status) (held : Files) (now : Option Files) : Type 0 where
  -- `net.feed`, if it was begun, holds a prefix of the feed.
  pub feed : Outputs
  pub feed_part : AreFirstParts feed whole_feed
  -- How many files of the transmitters are begun, and how many steps are done: one number for all transmitters. Each of
  -- those files holds what these steps give, and a prefix of what the next one adds. None is begun before the feed is
  -- whole.
  pub schedule : Progress ts steps
  pub feed_first : 0 < schedule.begun → feed ≡ whole_feed
  -- `net.ts`, if it was begun, holds a prefix of what is received. It isn't begun before all steps are done.
  pub reception : Outputs
  pub reception_part : AreFirstParts reception whole_reception
  pub schedule_first : reception ≢ [] → IsComplete ts steps schedule
  -- Only an I/O error or lack of memory ends a network in the middle of its schedule. Every other answer comes before a
  -- file of a transmitter is begun, or after all steps are done.
  pub ends : IsFault status ⊎ ((schedule.begun ≡ 0) ⊎ IsComplete ts steps schedule)
  pub files : now ≡ with_outputs (feed ++ (begun_files ts steps schedule ++ reception)) (Some held)

-- the first bytes are a prefix of `bytes`, which are a prefix of the second
abbrev pub IsBetween : List ℕ → List ℕ → List ℕ → Type 0
IsBetween least most bytes = IsFrontOf least bytes × IsFrontOf bytes most

-- The transmitters' files, by their names. Each begins with what the first `done` steps give, and is a prefix of what
-- these steps and the next one give. Where no step is left, that is what all steps give.
pub record AreUnderWay (ts : List Transmitter) (steps : List Step) (done : ℕ) (now : Files) : Type 0 where
  pub symbols : (who : ℕ) (t : Transmitter) → slice_get ts who ≡ Some t → IsSomeAnd (get now (symbol_name t.address))
      (IsBetween (symbol_file t who (take done steps)) (symbol_file t who (take (done + 1) steps)))
  pub logs : (who : ℕ) (t : Transmitter) → slice_get ts who ≡ Some t → IsSomeAnd (get now (log_name t.address))
      (IsBetween (log_file t who (take done steps)) (log_file t who (take (done + 1) steps)))

-- ---- of `net`

-- the feed of the stream in this file, as far as its packets are allowed, as an output
abbrev pub feed_outputs : whole.Plan → List ℕ → Outputs
feed_outputs plan file = (meaning_of_file packets (feeding plan) (feed_name ∷ []) file).outputs

-- the packets received of the network over a stream, as an output, if the plan asks for a receiver
abbrev pub reception_outputs : whole.Plan → NetPlan → List (List ℕ) → Option ReceivePlan → Outputs
reception_outputs plan network stream None = []
reception_outputs plan network stream (Some receiver) = (received_of plan network stream receiver).outputs

-- how far a network came over a stream whose feed is written already
abbrev pub HasPlayProgress : whole.Plan → NetPlan → List (List ℕ) → Status → Files → Option Files → Type 0
HasPlayProgress plan network stream status held now =
    NetProgress [] plan.transmitters (steps_under plan stream network.events)
    (reception_outputs plan network stream network.receive) status held now

-- how far a network came over the stream of these bytes
abbrev pub HasNetProgress : whole.Plan → NetPlan → List ℕ → Status → Files → Option Files → Type 0
HasNetProgress plan network file status held now =
    NetProgress (feed_outputs plan file) plan.transmitters (steps_under plan (packets_of file) network.events)
    (reception_outputs plan network (packets_of file) network.receive) status held now

-- how far it came over the stream that its plan names, if that file is there
abbrev pub HasStreamProgress : whole.Plan → NetPlan → Status → Files → Option Files → Type 0
HasStreamProgress plan network status held now =
    IfSome (get held network.stream) (λ file. HasNetProgress plan network file status held now)

-- how far it came under a plan and what its table `net` says, if it has one
abbrev pub HasPlanProgress : whole.Plan → Option NetPlan → Status → Files → Option Files → Type 0
HasPlanProgress plan net status held now = IfSome net (λ network. HasStreamProgress plan network status held now)

-- how far it came under the plan in the file of this name, if that holds a plan
abbrev pub HasFileProgress : List ℕ → Status → Files → Option Files → Type 0
HasFileProgress name status held now =
    IfSome (get held name) (λ bytes. IfOk (plan_of bytes) (λ plan. HasPlanProgress plan plan.net status held now))

-- How far the network of these words came, from the files `held` before the call to the files `now`. It is said where
-- PLAN is a plan with a table `net`, and its stream is there.
abbrev pub HasProgress : List (List ℕ) → Files → Status → Option Files → Type 0
HasProgress (verb ∷ plan ∷ []) held status now = HasFileProgress plan status held now
HasProgress words held status now = Unit {0}

-- the first two numbers of an adapter's line are those of its feed
abbrev pub fed_of : Outcome → Fed
fed_of outcome = record { packets = slice_index outcome.numbers 0; filled = slice_index outcome.numbers 1 }

-- these are the numbers of the stream's feed: its packets, and the placeholders filled
pub record HasNumbers (stream : List (List ℕ)) (fed : Fed) : Type 0 where
  pub packets : fed.packets ≡ length stream
  pub filled : fed.filled ≡ placeholders stream

-- the feed of a stream stands in its file, and these are its numbers
pub record IsFeedWritten (plan : Plan) (stream : List (List ℕ)) (fed : Fed) (held : Files) : Type 0 where
  pub long : All (λ packet. length packet ≡ 188) stream
  pub numbers : HasNumbers stream fed
  pub feed : get held feed_name ≡ Some (feed_bytes plan stream)
