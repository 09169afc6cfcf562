-- The note on one packet (the profile's own).
use Rattle.std.specs.Prelude.{ℕ, ◌==◌, Option, Some, None, if◌then◌else◌, Result, Ok, Err, List, [], ◌∷◌, length}
use Rattle.std.specs.Str.{bytes_eq}
use Rattle.dtx_ops.specs.declared.fields.Ops.{Ops}
use Rattle.dtx_ops.specs.declared.refusal.OpsNo.{OpsNo}
use Rattle.dtx_ops.specs.declared.refusal.OpsNo.TheVariants.{NotOps}
use Rattle.dtx_watch.specs.declared.notes.Note.{Note}
use Rattle.dtx_watch.specs.declared.notes.NoteKind.{NoteKind}
use Rattle.dtx_watch.specs.declared.notes.NoteKind.TheVariants.{Lock, Lost, Unread, Stray, Ops as OpsAt}
use Rattle.dtx_watch.specs.declared.notes.OpsNote.{OpsNote}
use Rattle.dtx_watch.specs.declared.notes.StatesNote.{StatesNote}
use Rattle.dtx_watch.specs.declared.notes.StatesNote.TheVariants as states
use Rattle.dtx_watch.specs.declared.stamped.Stamped.{Stamped}
use Rattle.dtx_watch.specs.declared.telling.Expected.{Expected}
use Rattle.dtx_watch.specs.declared.telling.Expected.TheVariants.{Early, First, These}
use Rattle.dtx_watch.specs.Clock.{clock_note}

-- the states of an operations packet, compared with those that are expected
abbrev pub states_note : Expected → Ops → StatesNote
states_note Early ops = states.Early
states_note First ops = states.First
states_note (These expected) ops = if bytes_eq ops.states expected then states.Right else states.Slip

-- the fields of an operations packet, with what its states and its clock are
abbrev pub ops_note : Expected → Option Stamped → Ops → OpsNote
ops_note expected latest ops = record {
  frame = ops.frame;
  index = ops.index;
  stamp = ops.stamp;
  max_delay = ops.max_delay;
  listed = length ops.offsets.items;
  states = states_note expected ops;
  clock = clock_note latest ops;
}

-- what the note says of a packet that reads, at this place of its frame, or at none without an anchor
abbrev pub read_note : Option ℕ → Expected → Option Stamped → Ops → NoteKind
read_note None expected latest ops = Stray ops.frame ops.index
read_note (Some place) expected latest ops =
    if ops.index == place then OpsAt (ops_note expected latest ops) else Stray ops.frame ops.index

-- the note on packet k, from the result of reading it: there is none on a packet that isn't an operations packet
abbrev pub packet_note : ℕ → Option ℕ → Expected → Option Stamped → Result Ops OpsNo → Option Note
packet_note k place expected latest (Ok ops) =
    Some (record { packet = k; what = read_note place expected latest ops })
packet_note k place expected latest (Err NotOps) = None
packet_note k place expected latest (Err refusal) = Some (record { packet = k; what = Unread refusal })

-- the note that packet k is an anchor or ends one, from the anchors before it and with it
abbrev pub lock_note : ℕ → Option ℕ → Option ℕ → Option Note
lock_note k None (Some anchor) = Some (record { packet = k; what = Lock })
lock_note k (Some anchor) None = Some (record { packet = k; what = Lost })
lock_note k before now = None

-- a note or none, as a list
abbrev pub one_or_none : Option Note → List Note
one_or_none None = []
one_or_none (Some note) = note ∷ []
