use Rattle.std.proofs.Common.{◌≡◌, ℕ, ◌+◌, ◌*◌, ◌%◌, List, replicate, length, take, ap, ◌∙◌, arith}
use Rattle.dtx_laws.specs.Register.{register}
use Rattle.dtx_rs.proofs.table.Table.parity.Goals as goal

pub loop-step-preserved : goal.loop-step-preserved
loop-step-preserved c =
    let head : List ℕ = c.args.head.now in
    let further : length c.args.head.now % 4 + 4 * c.loop-step.step + 4
    ≡ length c.args.head.now % 4 + 4 * (c.loop-step.step + 1) = omega arith in
    c.fed_at-state.ensures ∙ ap (λ j. register c.args.self.now.divisor (replicate 20 0) (take j head)) further
