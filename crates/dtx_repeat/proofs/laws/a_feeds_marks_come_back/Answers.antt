use Rattle.dtx_repeat.proofs.MarksLemmas.{feed_is}
use Rattle.dtx_repeat.proofs.laws.a_feeds_marks_come_back.Goals as goal

pub returns : goal.returns
returns c = feed_is
