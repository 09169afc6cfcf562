-- What a sink in memory holds, and what a call leaves of it.
use Rattle.std.specs.Prelude.{ℕ, List, ◌++◌, Result, Ok, Err}
use Rattle.dtx_outside.specs.Refusals.{Counted, with_one_call}
use Rattle.dtx_outside.specs.Sink.{SinkCounts, counts_printed}
use Rattle.dtx_outside.specs.declared.sink.SinkNo.{SinkNo}

-- the bytes that it has taken, how often it was refused, and its calls
pub record Printed : Type 0 where
  pub text : List ℕ
  pub counts : SinkCounts
  pub writes : Counted

-- the bytes taken after a write of these with that answer: all of them, or none
abbrev pub text_printed : List ℕ → Result ℕ SinkNo → List ℕ → List ℕ
text_printed bytes (Ok _) old = old ++ bytes
text_printed bytes (Err _) old = old

-- what `write` leaves of it
abbrev pub after_write : List ℕ → Result ℕ SinkNo → Printed → Printed
after_write bytes result old = record old {
  writes = with_one_call old.writes;
  text = text_printed bytes result old.text;
  counts = counts_printed result old.counts;
}
