-- What is kept of the packets that were watched.
use Rattle.std.specs.Prelude.{ℕ, ◌≡◌, ◌-◌, ◌%◌, ◌<◌, ◌≤◌, ◌==◌, nat_le, if◌then◌else◌, Bool, true, false, Option, Some}
use Rattle.std.specs.Prelude.{None, List, [], ◌∷◌, ◌++◌, length, ⊤, take, drop}
use Rattle.dtx_cadence.specs.Anchor as cadence
use Rattle.dtx_exciter.specs.Order.{Order}
use Rattle.dtx_exciter.specs.Packets.{syncs, under, group_part}
use Rattle.dtx_exciter.specs.Step.{bytes_of}
use Rattle.dtx_exciter.specs.Kept.{whole, last_orders, RunsUnder}
use Rattle.dtx_watch.specs.declared.notes.Note.{Note}
use Rattle.dtx_watch.specs.declared.watcher.Watcher.{Watcher}
use Rattle.dtx_watch.specs.Watch.{stamped_before, group_notes, told}

-- there are orders
abbrev pub are_some : List Order → Bool
are_some [] = false
are_some (order ∷ older) = true

-- what is kept of the packets from the anchor on
pub record KeepsUnder (w : Watcher) (packets : List (List ℕ)) : Type 0 where
  -- the place in its frame of the first packet of the group at hand, if that packet was given
  pub first : 0 < length packets % 4 → w.first ≡ whole packets % 624
  -- whether there are 52 packets or more
  pub flushed : w.flushed ≡ nat_le 52 (length packets)
  -- the packets of the group at hand
  pub partial : take (length packets % 4) (bytes_of w.packets) ≡ drop (whole packets) packets
  -- whether a whole group is an order
  pub ordered : w.ordered ≡ are_some (last_orders packets)
  -- the latest operations packet at its place in a whole group
  pub latest : w.latest ≡ stamped_before packets (whole packets)
  pub coder : RunsUnder (take (whole packets) packets) (last_orders packets) w.coder

abbrev pub Keeps : Watcher → Option (List (List ℕ)) → Type 0
Keeps w None = ⊤
Keeps w (Some packets) = KeepsUnder w packets

-- the watcher that was given these packets, or one that gives the same notes
pub record StandsFor (w : Watcher) (packets : List (List ℕ)) : Type 0 where
  pub count : w.count ≡ length packets
  pub anchor : cadence.StandsFor w.anchor (syncs packets)
  -- how many packets of the group at hand were given
  pub part : w.part ≡ group_part packets
  pub kept : Keeps w (under packets)

-- The watcher was given fewer packets than a stream has at most, so one more can be counted.
abbrev pub HasRoom : Watcher → Type 0
HasRoom w = (packets : List (List ℕ)) × StandsFor w packets × (length packets < 624000000)

-- The watcher was given no more packets than a stream has at most.
abbrev pub WasGiven : Watcher → Type 0
WasGiven w = (packets : List (List ℕ)) × StandsFor w packets × (length packets ≤ 624000000)

-- The watcher after these packets and packet p, and the notes that p gives.
pub record IsTaken (packets : List (List ℕ)) (p : List ℕ) (w : Watcher) (given : List Note) : Type 0 where
  pub notes : told (packets ++ p ∷ []) ≡ told packets ++ given
  pub stands : StandsFor w (packets ++ p ∷ [])

-- The same of the packets from the anchor on, of which the last is packet k of all.
pub record IsJoined (packets : List (List ℕ)) (k : ℕ) (w : Watcher) (given : List Note) : Type 0 where
  pub notes : given ≡ (if length packets % 4 == 0 then group_notes packets (k - 3) (length packets - 4) 4 else [])
  pub part : w.part ≡ length packets % 4
  pub keeps : KeepsUnder w packets

-- the same of packet p at this place of its frame, whatever packets from the anchor on the watcher was given before
abbrev pub Joins : ℕ → List ℕ → Watcher → Watcher → List Note → Type 0
Joins place p old made given =
    (packets : List (List ℕ)) → KeepsUnder old packets → place ≡ length packets % 624
    → IsJoined (packets ++ p ∷ []) (old.count - 1) made given
