use Rattle.std.proofs.Common.{ℕ, ◌∙◌, arith, replicate}
use Rattle.std.proofs.lemmas.List.{get_or-set_other}
use Rattle.dtx_fast.proofs.StageLemmas.{zeros_at}
use Rattle.dtx_fast.proofs.recurrence.one.Goals as goal

pub returns-clause-others : goal.returns-clause-others
returns-clause-others c k l =
    let zeros = replicate {A = ℕ} 128 0 in
    get_or-set_other zeros 0 k 1 0 (λ e. omega arith) ∙ zeros_at 128 k
