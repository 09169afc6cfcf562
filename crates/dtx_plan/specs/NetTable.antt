-- The rows of the tables `net` and `receive`.
use Rattle.std.specs.Prelude.{ℕ, ◌&&◌, nat_le, codes, if◌then◌else◌, List, [], ◌∷◌, length, Option, Result, Ok}
use Rattle.toml.specs.Data.{Data, Members, get_member}
use Rattle.dtx_plan.specs.declared.key.PlanKey.TheVariants as key
use Rattle.dtx_plan.specs.declared.rule.PlanRule.TheVariants.{Range}
use Rattle.dtx_plan.specs.declared.refusal.PlanNo.{PlanNo}
use Rattle.dtx_plan.specs.declared.transmitter.Transmitter.{Transmitter}
use Rattle.dtx_plan.specs.declared.event.Event.{Event}
use Rattle.dtx_plan.specs.declared.plan.NetPlan.{NetPlan}
use Rattle.dtx_plan.specs.Rows.{◌>>=◌, refused, table, known, text, array_or_none, optional, entries, whole}
use Rattle.dtx_plan.specs.EventTable.{event_after, no_stranger}
use Rattle.dtx_plan.specs.declared.damage.Damage.{Damage}
use Rattle.dtx_plan.specs.declared.plan.ReceivePlan.{ReceivePlan}
use Rattle.dtx_plan.specs.DamageTable.{damage}

-- may be absent: the damage, entry by entry
abbrev pub damage_of : Members → Result (List Damage) PlanNo
damage_of entry = do
  items ← array_or_none (get_member (codes "damage") entry) key.Damage 0 100000
  entries damage [] items

-- the table `receive`: what is received
unfoldable pub receive_of : List Transmitter → Data → Result ReceivePlan PlanNo
receive_of ts d = do
  entry ← table d key.Receive 0
  _ ← known (codes "from" ∷ codes "damage" ∷ []) entry key.Receive 0
  from ← whole (get_member (codes "from") entry) key.ReceiveFrom 0 0 65535
  _ ← no_stranger from ts key.ReceiveFrom 0
  damages ← damage_of entry
  Ok (record { from = from; damage = damages })

-- the same, and nothing where the table is absent
abbrev pub receive : List Transmitter → Members → Result (Option ReceivePlan) PlanNo
receive ts entry = optional (receive_of ts) (get_member (codes "receive") entry)

-- range: 1 to 255 bytes
abbrev pub stream_of : List ℕ → Result (List ℕ) PlanNo
stream_of name = if nat_le 1 (length name) && nat_le (length name) 255 then Ok name else refused key.Stream 0 Range

-- missing; kind string; range
abbrev pub stream : Members → Result (List ℕ) PlanNo
stream entry = text (get_member (codes "stream") entry) key.Stream 0 >>= stream_of

-- may be absent: the events, entry by entry
abbrev pub events_of : List Transmitter → Members → Result (List Event) PlanNo
events_of ts entry = do
  items ← array_or_none (get_member (codes "event") entry) key.Event 0 10000
  entries (event_after ts) [] items

-- the table `net`: what is done with the transmitters
unfoldable pub net_of : List Transmitter → Data → Result NetPlan PlanNo
net_of ts d = do
  entry ← table d key.Net 0
  _ ← known (codes "stream" ∷ codes "event" ∷ codes "receive" ∷ []) entry key.Net 0
  name ← stream entry
  schedule ← events_of ts entry
  receiving ← receive ts entry
  Ok (record { stream = name; events = schedule; receive = receiving })

-- the same, and nothing where the table is absent
abbrev pub net : List Transmitter → Members → Result (Option NetPlan) PlanNo
net ts root = optional (net_of ts) (get_member (codes "net") root)
