-- A feed that is sound, from its start on (the profile's own, in the manner of ATSC A/110).
use Rattle.std.specs.Prelude.{◌≡◌, ◌≢◌, ℕ, ◌*◌, ◌/◌, ◌%◌, ◌^◌, ◌<◌, ◌==◌, if◌then◌else◌, Result, Ok, Err, List}
use Rattle.std.specs.Prelude.{[], ◌∷◌, ◌++◌, length, take, slice_index_or}
use Rattle.dtx_clock.specs.Clock.{stamp_of}
use Rattle.dtx_coder.specs.Stream.{states}
use Rattle.dtx_packets.specs.Packets.{sync_of}
use Rattle.dtx_ops.specs.declared.fields.Ops.{Ops}
use Rattle.dtx_ops.specs.declared.refusal.OpsNo.{OpsNo}
use Rattle.dtx_ops.specs.declared.refusal.OpsNo.TheVariants.{NotOps}
use Rattle.dtx_ops.specs.Reading.{reading}
use Rattle.dtx_watch.specs.declared.notes.Note.{Note}
use Rattle.dtx_watch.specs.declared.notes.NoteKind.TheVariants.{Lock, Ops as OpsAt}
use Rattle.dtx_watch.specs.declared.notes.OpsNote.{OpsNote}
use Rattle.dtx_watch.specs.declared.notes.StatesNote.TheVariants as states_are
use Rattle.dtx_watch.specs.declared.notes.ClockNote.TheVariants as clock_is
use Rattle.dtx_watch.specs.Watch.{notes_at}

-- The fields of the operations packet that is packet k of a feed, whose clock starts at this tick. They are its place,
-- the states that the feed's own coders have before its group, the stamp of its frame, the maximum delay, and the
-- number of the frame, of 32 bits.
pub record SaysAt (start most : ℕ) (feed : List (List ℕ)) (k : ℕ) (ops : Ops) : Type 0 where
  pub index : ops.index ≡ k % 624
  pub states_are : ops.states ≡ states (take (4 * (k / 4)) feed)
  pub stamp : ops.stamp ≡ stamp_of start (k / 624)
  pub max_delay : ops.max_delay ≡ most
  pub frame : ops.frame ≡ k / 624
  pub few : k / 624 < 2 ^ 32

-- a packet is no operations packet, or has these fields
abbrev pub IsSoundAt : ℕ → ℕ → List (List ℕ) → ℕ → Result Ops OpsNo → Type 0
IsSoundAt start most feed k (Ok ops) = SaysAt start most feed k ops
IsSoundAt start most feed k (Err refusal) = refusal ≡ NotOps

-- a mark stands at each 624th packet and nowhere else, and each operations packet has these fields
pub record IsSoundFeed (start most : ℕ) (feed : List (List ℕ)) : Type 0 where
  pub marks : (k : ℕ) → k < length feed → (sync_of (slice_index_or feed k []) == 0xB8) ≡ (k % 624 == 0)
  pub says : (k : ℕ) → k < length feed → IsSoundAt start most feed k (reading (slice_index_or feed k []))

-- an operations packet at its place, whose states don't slip and whose stamp doesn't jump
pub record IsCalmOps (ops : Ops) (o : OpsNote) : Type 0 where
  pub frame : o.frame ≡ ops.frame
  pub index : o.index ≡ ops.index
  pub stamp : o.stamp ≡ ops.stamp
  pub max_delay : o.max_delay ≡ ops.max_delay
  pub states : o.states ≢ states_are.Slip
  pub clock : o.clock ≢ clock_is.Jump

-- the notes on what packet k reads as: on an operations packet just that one, and on another packet none
abbrev pub IsCalm : ℕ → Result Ops OpsNo → List Note → Type 0
IsCalm k (Ok ops) notes = (o : OpsNote) × IsCalmOps ops o × (notes ≡ (record { packet = k; what = OpsAt o }) ∷ [])
IsCalm k (Err refusal) notes = notes ≡ []

-- The notes on packet k are that it is an anchor, if it is the first packet, and then what is calm, and no others.
abbrev pub IsCalmAt : List (List ℕ) → ℕ → Type 0
IsCalmAt packets k = (notes : List Note) × IsCalm k (reading (slice_index_or packets k [])) notes
    × (notes_at packets k ≡ (if k == 0 then (record { packet = 0; what = Lock }) ∷ [] else []) ++ notes)
