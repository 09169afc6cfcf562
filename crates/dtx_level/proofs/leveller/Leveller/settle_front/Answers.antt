use Rattle.std.proofs.Common.{◌≡◌, length, sym, ap, ◌∙◌}
use Rattle.dtx_level.specs.Leveller.{Holding, step_at, stretched}
use Rattle.dtx_level.proofs.Steps.{settled_full, settled_short}
use Rattle.dtx_level.proofs.leveller.Leveller.settle_front.Goals as goal

pub returns-then-len-eq-MOST_HELD : goal.returns-then-len-eq-MOST_HELD
returns-then-len-eq-MOST_HELD c =
    let full : length c.args.self.now.held ≡ 261248 =
    ap (λ (x : Holding). length x.held) (sym c.self.view_is) ∙ sym c.len.ensures.long ∙ c.if-len-eq-MOST_HELD.true in
    let held = c.all.ensures ∙ ap (λ (x : Holding). x.held) c.self.view_is in
    c.stretch.ensures
    ∙ ap (stretched c.args.self.now) (c.step_of-step.ensures.step ∙ ap step_at held)
    ∙ sym (settled_full c.args.self.now c.requires full)

pub returns-else-len-eq-MOST_HELD : goal.returns-else-len-eq-MOST_HELD
returns-else-len-eq-MOST_HELD c =
    sym (settled_short c.args.self.now (λ full. c.if-len-eq-MOST_HELD.false (c.len.ensures.long
    ∙ ap (λ (x : Holding). length x.held) c.self.view_is ∙ full)))
