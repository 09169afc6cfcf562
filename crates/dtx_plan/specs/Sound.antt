-- What holds of every plan that is read.
use Rattle.std.specs.Prelude.{◌≡◌, ℕ, ◌+◌, ◌<◌, ◌≤◌, ◌^◌, nat_eq, true, List, length, All, IfSome, FitsSigned}
use Rattle.std.specs.Int.{w16}
use Rattle.std.specs.List.{IsDistinct, AllAdjacentBelow}
use Rattle.dtx_plan.specs.declared.transmitter.Transmitter.{Transmitter}
use Rattle.dtx_plan.specs.declared.event.Event.{Event}
use Rattle.dtx_plan.specs.declared.event.Event.TheVariants.{Send, Foreign, Flip, Lie, Restart}
use Rattle.dtx_plan.specs.declared.damage.Damage.{Damage}
use Rattle.dtx_plan.specs.declared.plan.ReceivePlan.{ReceivePlan}
use Rattle.dtx_plan.specs.declared.plan.NetPlan.{NetPlan}
use Rattle.dtx_plan.specs.declared.plan.Plan.{Plan}
use Rattle.dtx_plan.specs.TransmitterTable.{addresses_of, has_address}

-- 1 to 1,020 transmitters, whose addresses differ from each other
pub record AreTransmitters (ts : List Transmitter) : Type 0 where
  pub some : 1 ≤ length ts
  pub most : length ts ≤ 1020
  pub distinct : IsDistinct nat_eq (addresses_of ts)

-- the numbers of a transmitter: an address of 16 bits, an offset of 16 bits with a sign, and a delay of 32 bits
pub record IsTransmitter (t : Transmitter) : Type 0 where
  pub address : t.address < 2 ^ 16
  pub offset : FitsSigned w16 t.offset
  pub delay : t.delay < 2 ^ 32

-- packets of a feed: at least one, and the last is within the longest feed
pub record IsPart (from count : ℕ) : Type 0 where
  pub some : 1 ≤ count
  pub most : from + count ≤ 624000000

-- the transmitter of an event
abbrev pub to_of : Event → ℕ
to_of (Send to from count) = to
to_of (Foreign to seed from count) = to
to_of (Flip to from at with) = to
to_of (Lie to from states) = to
to_of (Restart to) = to

-- the numbers of an event are in the ranges that a schedule takes; a plan's text has a smaller range of seeds
abbrev pub IsInRange : Event → Type 0
IsInRange (Send to from count) = IsPart from count
IsInRange (Foreign to seed from count) = IsPart from count × (seed < 2 ^ 64)
IsInRange (Flip to from at with) = (from < 624000000) × (at < 188) × (1 ≤ with)
IsInRange (Lie to from states) = (from < 624000000) × (length states ≡ 12) × All (λ state. state < 8) states
IsInRange (Restart to) = Unit {0}

-- an event of a transmitter of the plan
pub record IsEvent (ts : List Transmitter) (e : Event) : Type 0 where
  pub listed : has_address (to_of e) ts ≡ true
  pub in_range : IsInRange e

-- an entry of damage has at least one symbol, and begins within the longest file
pub record IsDamage (d : Damage) : Type 0 where
  pub start : d.at < 520832000000
  pub some : 1 ≤ d.count
  pub most : d.count ≤ 520832000000

-- entries of damage, each of which begins where the one before it ends, or later
pub record AreDamages (ds : List Damage) : Type 0 where
  pub each : All IsDamage ds
  pub in_order : AllAdjacentBelow (λ before after. before.at + before.count ≤ after.at) ds (length ds)
  pub most : length ds ≤ 100000

-- what is received comes from a transmitter of the plan
pub record IsReceived (ts : List Transmitter) (r : ReceivePlan) : Type 0 where
  pub listed : has_address r.from ts ≡ true
  pub damage : AreDamages r.damage

-- all that is done is done with transmitters of the plan
pub record IsNet (ts : List Transmitter) (n : NetPlan) : Type 0 where
  pub some : 1 ≤ length n.stream
  pub name : length n.stream ≤ 255
  pub most : length n.events ≤ 10000
  pub events : All (IsEvent ts) n.events
  pub receive : IfSome n.receive (IsReceived ts)

-- a plan that an adapter takes: start and maximum delay are below one second of 10,000,000 ticks
pub record IsSound (p : Plan) : Type 0 where
  pub start : p.start < 10000000
  pub max_delay : p.max_delay < 10000000
  pub transmitters : AreTransmitters p.transmitters

-- what is done with the plan's transmitters is sound, where the plan says it
abbrev pub HasSoundNet : Plan → Type 0
HasSoundNet p = IfSome p.net (IsNet p.transmitters)
