use Rattle.std.proofs.Common.{◌≡◌, ◌-◌, ◌++◌, List, ℕ, length, take, sym, ap, ◌∙◌, subst, arith}
use Rattle.dtx_laws.specs.Codeword.{IsCodeword}
use Rattle.dtx_laws.proofs.AnswersLemmas.{codeword_answer}
use Rattle.dtx_fast.proofs.fast.Fast.correct_by.Goals as goal

pub returns-then-has_parity-clause-answer : goal.returns-then-has_parity-clause-answer
returns-then-has_parity-clause-answer g c =
    let word : List ℕ = c.args.word.now in
    let parity : List ℕ = c.args.parity.now in
    let front : length word - length parity ≡ g.row.K =
    omega (arith, c.told-word, c.requires.long, c.args.self.now.code.longer) in
    codeword_answer g.row.N g.row.K word
    (subst (IsCodeword g.row.N g.row.K) (sym (c.has_parity.ensures.same.0 c.if-has_parity.true
    ∙ ap (λ k. take k word ++ parity) front)) c.requires.code)
