use Rattle.dtx_erase.proofs.MarksLemmas.{marks_are}
use Rattle.dtx_erase.proofs.laws.marks_as_bytes.Goals as goal

pub returns : goal.returns
returns c = marks_are
