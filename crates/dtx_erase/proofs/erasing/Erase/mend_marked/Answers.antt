use Rattle.std.proofs.Common.{rules, ◌≡◌, ◌∙◌, sym, subst}
use Rattle.std.proofs.lemmas.Slice.Eq.{slice_eq-Decides}
use Rattle.std.proofs.lemmas.Bool.{true≢false}
use Rattle.std.proofs.lemmas.Bool.Decides.{Decides-eqb}
use Rattle.std.specs.Bool.{Decides}
use Rattle.dtx_laws.specs.Codeword.{IsCodeword}
use Rattle.dtx_erase.specs.Mending.{IsMending}
use Rattle.dtx_erase.proofs.MendingLemmas.{own_answer}
use Rattle.dtx_erase.proofs.Outcomes.{not_restored}
use Rattle.dtx_erase.proofs.erasing.Erase.mend_marked.Goals as goal

pub returns-then-eq-clause-answer : goal.returns-then-eq-clause-answer
returns-then-eq-clause-answer g c =
    let code = c.encoded_again-code in
    let same : Decides c.eq.result (code.result ≡ c.args.word.now) =
    slice_eq-Decides Decides-eqb code.result c.args.word.now c.eq.result c.eq.ensures in
    own_answer g.row.N g.row.K c.args.marks.now c.args.word.now
    (subst (IsCodeword g.row.N g.row.K) (same.0 c.if-eq.true) code.ensures.codeword) c.requires

pub returns-else-is_codeword-clause-answer : goal.returns-else-is_codeword-clause-answer
returns-else-is_codeword-clause-answer g c =
    not_restored g.row.N g.row.K c.args.marks.now c.args.word.now c.restore.new.word
    (λ right p. c.restore.ensures right
    (rw c.told-word p))
    (λ h. true≢false (sym (c.is_codeword.ensures.1 h) ∙ c.if-is_codeword.false))

pub accept-requires : goal.accept-requires
accept-requires g c = (
  search rules,
  (search rules, (c.args.self.now.code, c.is_codeword.ensures.0 c.if-is_codeword.true)),
)
