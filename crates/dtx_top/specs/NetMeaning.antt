-- What `net PLAN` means: a network adapted, played and received (the profile's own, in the manner of ATSC A/110).
use Rattle.std.specs.Prelude.{ℕ, Bool, true, false, if◌then◌else◌, List, [], ◌∷◌, length, slice_index, Option, Some}
use Rattle.std.specs.Prelude.{None, is_some}
use Rattle.std.specs.FinMap.{get}
use Rattle.dtx_outside.specs.Shelf.{Files}
use Rattle.dtx_packets.specs.Packets.{packets_of}
use Rattle.dtx_plan.specs.declared.damage.Damage.{Damage}
use Rattle.dtx_plan.specs.declared.key.PlanKey.TheVariants as key
use Rattle.dtx_plan.specs.declared.plan.NetPlan.{NetPlan}
use Rattle.dtx_plan.specs.declared.plan.Plan as whole
use Rattle.dtx_plan.specs.declared.plan.ReceivePlan.{ReceivePlan}
use Rattle.dtx_plan.specs.declared.rule.PlanRule.TheVariants.{Missing}
use Rattle.dtx_adapter.specs.Feed.{placeholders}
use Rattle.dtx_network.specs.Network.{steps_under}
use Rattle.dtx_meaning.specs.Meaning.{Meaning, and_then, refused}
use Rattle.dtx_meaning.specs.Status.{done}
use Rattle.dtx_meaning.specs.declared.status.Outcome.{Outcome}
use Rattle.dtx_meaning.specs.declared.status.Status.{Status}
use Rattle.dtx_meaning.specs.declared.status.Status.TheVariants.{Done, Usage, Same, Absent, Plan, OutOfFeed, OutOfAir}
use Rattle.dtx_engine.specs.Recipe.{meaning_of_file}
use Rattle.dtx_words.specs.Names.{repeated, feed_name, received_name}
use Rattle.dtx_forms.specs.PlanFile.{under_plan}
use Rattle.dtx_forms.specs.Shapes.{packets, segments}
use Rattle.dtx_recipes.specs.Adapt.{feeding}
use Rattle.dtx_forms.specs.Damaged.{damaged_making}
use Rattle.dtx_recipes.specs.Hurt.{first_past}
use Rattle.dtx_recipes.specs.Receive.{receiving}
use Rattle.dtx_schedule.specs.Inside.{first_past_feed}
use Rattle.dtx_schedule.specs.Playout.{packets_given}
use Rattle.dtx_schedule.specs.TransmitterFiles.{played_outputs}
use Rattle.dtx_top.specs.Networks.{network_names, sent_file}

-- ---- one meaning after another

abbrev pub is_done : Status → Bool
is_done Done = true
is_done _ = false

-- a meaning, and another one after it if it is done
abbrev pub where_done : Meaning → Meaning → Meaning
where_done first next = if is_done first.outcome.status then and_then first next else first

-- ---- the symbols are received

-- The numbers of the line once packets were received. The first three are those of the network without a receiver. Then
-- come the packets received, the bytes put right and the packets flagged.
abbrev pub with_received : ℕ → ℕ → ℕ → Outcome → Outcome
with_received fed filled steps outcome =
    if is_done outcome.status then done (fed ∷ filled ∷ steps ∷ slice_index outcome.numbers 2
    ∷ slice_index outcome.numbers 3 ∷ slice_index outcome.numbers 4 ∷ []) else outcome

-- the meaning with its answer changed by `other`
abbrev pub answered : (Outcome → Outcome) → Meaning → Meaning
answered other m = record { outcome = other m.outcome; outputs = m.outputs }

-- What is received of a transmitter's symbols with damage laid over them. If the damage has an entry that ends past the
-- symbols, the first such entry is refused.
abbrev pub received_past : Option ℕ → List Damage → List ℕ → Meaning
received_past (Some entry) damage symbols = refused (OutOfAir entry)
received_past None damage symbols = meaning_of_file segments (damaged_making damage receiving)
    (received_name ∷ []) symbols

-- ---- the events are played

-- the numbers of a network without a receiver: the packets of the feed, the placeholders filled, the packets given to
-- exciters
abbrev pub played_outcome : ℕ → ℕ → ℕ → Outcome
played_outcome fed filled steps = done (fed ∷ filled ∷ steps ∷ [])

-- what the events write over a stream, and the numbers of the line
abbrev pub playing : whole.Plan → NetPlan → List (List ℕ) → Meaning
playing plan network stream = record {
  outcome = played_outcome (length stream) (placeholders stream)
      (packets_given (steps_under plan stream network.events));
  outputs = played_outputs plan.transmitters (steps_under plan stream network.events);
}

-- what is received of a network over a stream by this receiver
abbrev pub received_of : whole.Plan → NetPlan → List (List ℕ) → ReceivePlan → Meaning
received_of plan network stream receiver =
    answered (with_received (length stream) (placeholders stream)
    (packets_given (steps_under plan stream network.events)))
    (received_past (first_past receiver.damage (length (sent_file plan network stream receiver.from))) receiver.damage
    (sent_file plan network stream receiver.from))

abbrev pub played_and_received : whole.Plan → NetPlan → List (List ℕ) → Option ReceivePlan → Meaning
played_and_received plan network stream None = playing plan network stream
played_and_received plan network stream (Some receiver) =
    and_then (playing plan network stream) (received_of plan network stream receiver)

-- what the events mean, or a refusal if they read past the feed: `Some` has the number of the first that does
abbrev pub events_past : Option ℕ → whole.Plan → NetPlan → List (List ℕ) → Meaning
events_past (Some event) plan network stream = refused (OutOfFeed event)
events_past None plan network stream = played_and_received plan network stream network.receive

-- what a network means once the feed of its stream is written
abbrev pub fed_meaning : whole.Plan → NetPlan → List (List ℕ) → Meaning
fed_meaning plan network stream = events_past (first_past_feed network.events (length stream)) plan network stream

-- ---- the stream is adapted

-- what a network means over the file of its stream, which may not be there
abbrev pub network_meaning : whole.Plan → NetPlan → Option (List ℕ) → Meaning
network_meaning plan network None = refused (Absent 1)
network_meaning plan network (Some file) =
    where_done (meaning_of_file packets (feeding plan) (feed_name ∷ []) file)
    (fed_meaning plan network (packets_of file))

-- ---- in order

-- what a network means under the plan of this file name, and what its table `net` says, if it has one
abbrev pub planned_meaning : List ℕ → Files → whole.Plan → Option NetPlan → Meaning
planned_meaning name held plan None = refused (Plan (record { key = key.Net; item = 0; rule = Missing }))
planned_meaning name held plan (Some network) =
    if is_some (repeated (network_names name plan network)) then refused Same else network_meaning plan network
    (get held network.stream)

-- What `net PLAN` means, in this order. The plan is read, and must have a table `net`. The names are compared. The
-- stream is asked for and adapted. The events are compared with the feed, and played. The damage is compared with the
-- symbols, and the symbols are received.
abbrev pub net_meaning : List (List ℕ) → Files → Meaning
net_meaning (verb ∷ plan ∷ []) held = under_plan 0 (get held plan) (λ said. planned_meaning plan held said said.net)
net_meaning words held = refused Usage
