-- What `watch` answers and writes for whole feeds, and for sound ones (the profile's own).
use Rattle.std.specs.Prelude.{◌≡◌, ℕ, ◌%◌, ◌==◌, Ok, List, [], ◌∷◌, ◌++◌, codes, length, slice_index_or}
use Rattle.std.specs.List.{Contains, filter, flat_map, range_with_len}
use Rattle.dtx_engine.specs.Made.{only, outputs_of}
use Rattle.dtx_meaning.specs.Meaning.{Meaning}
use Rattle.dtx_meaning.specs.Status.{done}
use Rattle.dtx_ops.specs.Reading.{reading}
use Rattle.dtx_ops.specs.declared.fields.Ops.{Ops}
use Rattle.dtx_packets.specs.Packets.{pid_of, packets_of, whole_packets}
use Rattle.dtx_watch.specs.Sound.{IsCalmOps}
use Rattle.dtx_watch.specs.Watch.{watch}
use Rattle.dtx_watch.specs.WatchText.{lines_with, note_text, watch_text}
use Rattle.dtx_watch.specs.declared.notes.Note.{Note}
use Rattle.dtx_watch.specs.declared.notes.OpsNote.{OpsNote}
use Rattle.dtx_watch.specs.declared.notes.NoteKind.TheVariants.{Ops as OpsAt}
use Rattle.dtx_recipes.specs.Watch.{watch_numbers}
use Rattle.dtx_recipes.specs.declared.watch_tally.WatchTally.{WatchTally}

-- ---- the numbers of the line, by the text

-- The numbers of the line, counted from the text of the notes on so many packets. It counts the lines that begin with
-- `ops`, `unread` and `stray`, and those that have `slip` as word 7 or `jump` as word 8, counted from 0.
abbrev pub tally_of_text : ℕ → List ℕ → WatchTally
tally_of_text packets text = record {
  packets = packets;
  ops = lines_with 0 (codes "ops") text;
  slips = lines_with 7 (codes "slip") text;
  jumps = lines_with 8 (codes "jump") text;
  unread = lines_with 0 (codes "unread") text;
  stray = lines_with 0 (codes "stray") text;
}

-- the answer and the output where `text` is that of all notes and `loose` bytes are behind the packets
abbrev pub told_by : List (List ℕ) → ℕ → ℕ → List ℕ → Meaning
told_by names packets loose text = record {
  outcome = done (watch_numbers (tally_of_text packets text) loose);
  outputs = outputs_of names (only text);
}

-- the answer and the output for all packets of a file
abbrev pub watched_of : List (List ℕ) → List ℕ → Meaning
watched_of names file =
    told_by names (whole_packets file) (length file % 188) (watch_text (watch (packets_of file)))

-- ---- a sound feed

-- which packets are operations packets: the numbers, in order, of those with packet identifier 0x1FFA
unfoldable pub ops_packets : List (List ℕ) → List ℕ
ops_packets packets =
    filter (λ k. pid_of (slice_index_or packets k []) == 0x1FFA) (range_with_len 0 (length packets))

-- the note that operations packet k is at its place and says this
abbrev pub ops_at : (ℕ → OpsNote) → ℕ → Note
ops_at said k = record { packet = k; what = OpsAt (said k) }

-- Each operations packet reads. Its note has the packet's fields, with states that don't slip and a stamp that doesn't
-- jump.
abbrev pub AreCalm : List (List ℕ) → (ℕ → OpsNote) → Type 0
AreCalm packets said = (k : ℕ) → Contains (ops_packets packets) k
    → (ops : Ops) × (reading (slice_index_or packets k []) ≡ Ok ops) × IsCalmOps ops (said k)

-- The packets are watched calmly. The text is the line `lock 0` and one line `ops` for each operations packet, in their
-- order, and nothing else. None of these lines has the word `slip` or `jump`. The numbers are those of the packets and
-- of the operations packets, four times 0, and the loose bytes.
pub record IsWatchedCalmly (names packets : List (List ℕ)) (loose : ℕ) (meaning : Meaning) : Type 0 where
  pub said : ℕ → OpsNote
  pub calm : AreCalm packets said
  pub is : meaning ≡ record {
    outcome = done (length packets ∷ length (ops_packets packets) ∷ 0 ∷ 0 ∷ 0 ∷ 0 ∷ loose ∷ []);
    outputs = outputs_of names
        (only (codes "lock 0\n" ++ flat_map (λ k. note_text (ops_at said k)) (ops_packets packets)));
  }
