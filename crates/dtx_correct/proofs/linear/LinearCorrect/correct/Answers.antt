use Rattle.std.proofs.Common.{rules, ◌≡◌, subst}
use Rattle.std.proofs.lemmas.Slice.Eq.{slice_eq-Decides}
use Rattle.std.proofs.lemmas.Bool.Decides.{Decides-eqb}
use Rattle.std.specs.Bool.{Decides}
use Rattle.dtx_laws.specs.Codeword.{IsCodeword}
use Rattle.dtx_laws.proofs.AnswersLemmas.{codeword_answer}
use Rattle.dtx_correct.proofs.linear.LinearCorrect.correct.Goals as goal

pub returns-then-eq-clause-answer : goal.returns-then-eq-clause-answer
returns-then-eq-clause-answer g c =
    let code = c.encoded_again-code in
    let same : Decides c.eq.result (code.result ≡ c.args.word.now) =
    slice_eq-Decides Decides-eqb code.result c.args.word.now c.eq.result c.eq.ensures in
    codeword_answer g.row.N g.row.K c.args.word.now
    (subst (IsCodeword g.row.N g.row.K) (same.0 c.if-eq.true) code.ensures.codeword)

pub returns-clause-answer : goal.returns-clause-answer
returns-clause-answer g c = search rules
