-- The packets that an exciter was given since it was new or reset, as their sync bytes and what they read as.
use Rattle.std.specs.Prelude.{ℕ, ◌%◌, Option, Some, None, option_map, Result, Ok, Err, List, length, map, drop, ◌≡◌}
use Rattle.dtx_packets.specs.Packets.{sync_of}
use Rattle.dtx_cadence.specs.Anchor.{anchor}
use Rattle.dtx_ops.specs.declared.fields.Ops.{Ops}
use Rattle.dtx_ops.specs.declared.refusal.OpsNo.{OpsNo}
use Rattle.dtx_ops.specs.Reading.{reading}
use Rattle.dtx_exciter.specs.declared.answers.Told.{Told}
use Rattle.dtx_exciter.specs.Told.{told_of}
use Rattle.dtx_cadence.specs.Cadence.{HaveSameAnchors}

unfoldable pub syncs : List (List ℕ) → List ℕ
syncs packets = map sync_of packets

abbrev pub read_fields : Result Ops OpsNo → Option Ops
read_fields (Ok ops) = Some ops
read_fields (Err why) = None

-- the operations fields that a packet reads as
unfoldable pub reads : List ℕ → Option Ops
reads packet = read_fields (reading packet)

unfoldable pub readings : List (List ℕ) → List (Option Ops)
readings packets = map reads packets

-- the place of the anchor
unfoldable pub anchor_of : List (List ℕ) → Option ℕ
anchor_of packets = anchor (syncs packets)

-- the packets from the anchor on
unfoldable pub under : List (List ℕ) → Option (List (List ℕ))
under packets = option_map (λ a. drop a packets) (anchor_of packets)

-- how many packets, from the anchor on, stand behind the last whole group of four
abbrev pub part_of : Option (List (List ℕ)) → ℕ
part_of None = 0
part_of (Some packets) = length packets % 4

-- the same of all that was given: 0 where there is no anchor
unfoldable pub group_part : List (List ℕ) → ℕ
group_part packets = part_of (under packets)

-- the answer to the last packet
unfoldable pub last_answer : ℕ → ℕ → List (List ℕ) → Told
last_answer address delay packets = told_of address delay (syncs packets) (readings packets)

-- packets without their sync bytes, which aren't sent (ATSC A/53 Part 2)
unfoldable pub bodies : List (List ℕ) → List (List ℕ)
bodies packets = map (drop 1) packets

-- The packets of two lives differ in their sync bytes alone, and behind each of them the anchor is the same.
pub record AreSentAlike (xs ys : List (List ℕ)) : Type 0 where
  pub bodies : bodies xs ≡ bodies ys
  pub anchors : HaveSameAnchors (syncs xs) (syncs ys)
