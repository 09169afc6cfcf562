use Rattle.dtx_repeat.proofs.MarksLemmas.{marks_are}
use Rattle.dtx_repeat.proofs.laws.marks.Goals as goal

pub returns : goal.returns
returns c = marks_are
