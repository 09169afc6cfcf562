use Rattle.std.proofs.Common.{◌∙◌, ℕ, ◌+◌, ◌-◌, sym, ap, arith, get_or}
use Rattle.dtx_galois.specs.Field.{mul}
use Rattle.dtx_fast.proofs.StageLemmas.{mended_at, stage_raised}
use Rattle.dtx_fast.proofs.recurrence.Stage.raise.Goals as goal

pub returns-clause-stage : goal.returns-clause-stage
returns-clause-stage c s h t e =
    let self = c.args.self.now in
    let n : ℕ = c.args.n in
    let b : ℕ → ℕ = λ i. get_or c.args.self.now.before i 0 in
    let old : ℕ → ℕ = λ i. get_or c.args.self.now.coefficients i 0 in
    let new : ℕ → ℕ = λ i. get_or c.add_moved.new.coefficients i 0 in
    stage_raised n self.order self.gap self.inverse.0 c.mul-factor.result.0 c.inv-self.result.0 s old b new h t
    c.requires.room (λ z. c.requires.some (e ∙ z)) (ap (λ (x : ℕ). mul x c.inv-self.result.0) (sym e)
    ∙ c.inv-self.ensures) (c.mul-factor.ensures ∙ ap (λ (x : ℕ). mul x c.args.self.now.inverse.0) e)
    (mended_at self.gap (n + 1 - self.order) c.mul-factor.result.0 old new b c.add_moved.ensures.below
    c.add_moved.ensures.between c.add_moved.ensures.above
    (λ k l m. h.before_behind (k - c.args.self.now.gap) (omega (arith, l, m, t, h.within))))
