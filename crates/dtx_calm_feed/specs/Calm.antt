-- Packets on which a watcher notes nothing wrong (the profile's own).
use Rattle.std.specs.Prelude.{◌≡◌, ◌≢◌, ℕ, ◌<◌, ◌≤◌, ⊤, Some, List, codes, length, ℤ, pos, negsuc, ◌+◌, ◌*◌, ◌-ℤ◌, ◌<ℤ◌}
use Rattle.std.specs.List.{AllByRecursion}
use Rattle.dtx_exciter.specs.Packets.{anchor_of}
use Rattle.dtx_watch.specs.declared.notes.Note.{Note}
use Rattle.dtx_watch.specs.declared.notes.NoteKind.{NoteKind}
use Rattle.dtx_watch.specs.declared.notes.NoteKind.TheVariants.{Lock, Lost, Unread, Stray, Ops as OpsAt}
use Rattle.dtx_watch.specs.declared.notes.StatesNote.TheVariants as states_are
use Rattle.dtx_watch.specs.declared.notes.ClockNote.TheVariants as clock_is
use Rattle.dtx_watch.specs.Watch.{notes_at}
use Rattle.dtx_watch.specs.WatchText.{lines_with}
use Rattle.dtx_clock.specs.Clock.{segment_of}

-- what a note may say if nothing is wrong: that the packet is an anchor, or an operations packet at its place whose
-- states don't slip and whose stamp doesn't jump
abbrev pub IsCalmWhat : NoteKind → Type 0
IsCalmWhat Lock = ⊤
IsCalmWhat Lost = ⊥
IsCalmWhat (Unread refusal) = ⊥
IsCalmWhat (Stray frame index) = ⊥
IsCalmWhat (OpsAt o) = (o.states ≢ states_are.Slip) × (o.clock ≢ clock_is.Jump)

abbrev pub IsCalmNote : Note → Type 0
IsCalmNote note = IsCalmWhat note.what

-- The packets are calm from their anchor on, which is packet `anchor`.
pub record IsCalmFrom (packets : List (List ℕ)) (anchor : ℕ) : Type 0 where
  pub anchor_is : anchor_of packets ≡ Some anchor
  pub calm : (k : ℕ) → anchor ≤ k → k < length packets → AllByRecursion IsCalmNote (notes_at packets k)

-- The packets are calm from their first one on, which is their anchor.
pub record IsCalmFeed (feed : List (List ℕ)) : Type 0 where
  pub anchor_is : anchor_of feed ≡ Some 0
  pub calm : (k : ℕ) → k < length feed → AllByRecursion IsCalmNote (notes_at feed k)

-- A text has no line that begins with `lost`, `unread` or `stray`, and none with the word `slip` or `jump` at its
-- place.
pub record IsCalmText (text : List ℕ) : Type 0 where
  pub lost : lines_with 0 (codes "lost") text ≡ 0
  pub unread : lines_with 0 (codes "unread") text ≡ 0
  pub stray : lines_with 0 (codes "stray") text ≡ 0
  pub slips : lines_with 7 (codes "slip") text ≡ 0
  pub jumps : lines_with 8 (codes "jump") text ≡ 0

-- fewer grains, before or behind, than the 1,539 of a tick
abbrev pub IsBelowTick : ℤ → Type 0
IsBelowTick grains = (negsuc 1538 <ℤ grains) × (grains <ℤ pos 1539)

-- The grains on the air from the data segment of packet i of a frame to that of packet j of the frame that is `frames`
-- later. A frame lasts 744,789,760 grains, and a segment 1,189,760.
abbrev pub air_between : ℕ → ℕ → ℕ → ℤ
air_between frames i j = pos (frames * 744789760 + segment_of j * 1189760) -ℤ pos (segment_of i * 1189760)
