-- The refusals of the packet reader.
use Rattle.std.specs.Prelude.{Result, Ok, Err}
use Rattle.dtx_outside.specs.Counts.{Blame, Nothing, Missing, Reading}
use Rattle.dtx_outside.specs.declared.shelf.ReadNo.{ReadNo}
use Rattle.dtx_outside.specs.declared.shelf.ReadNo.TheVariants as read
use Rattle.dtx_packets.specs.declared.refusal.NextNo.{NextNo}
use Rattle.dtx_packets.specs.declared.refusal.NextNo.TheVariants.{Absent, Failed, Memory, TooLong}

-- a shelf's error as one of the packet reader
abbrev pub next_no_of : ReadNo → NextNo
next_no_of read.Absent = Absent
next_no_of read.Failed = Failed
next_no_of read.Memory = Memory

-- what the answer of the reader is blamed on: a stream that is too long and out of memory raise no count
abbrev pub blame_of_next : {T : Type 0} → Result T NextNo → Blame
blame_of_next (Ok _) = Nothing
blame_of_next (Err Absent) = Missing
blame_of_next (Err Failed) = Reading
blame_of_next (Err Memory) = Nothing
blame_of_next (Err TooLong) = Nothing
