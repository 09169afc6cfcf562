use Rattle.std.proofs.Common.{◌∙◌, sym}
use Rattle.dtx_erase.proofs.Outcomes.{corrected_answer}
use Rattle.dtx_erase.proofs.erasing.Erase.mend.Goals as goal

pub returns-then-missing-eq0-clause-answer : goal.returns-then-missing-eq0-clause-answer
returns-then-missing-eq0-clause-answer g c =
    corrected_answer g.row.N g.row.K c.args.marks.now c.args.word.now c.correct.new.word c.correct.result c.told-word
    c.told-marks (sym c.lost-missing.ensures.count ∙ c.if-missing-eq0.true) c.correct.ensures.answer
