use Rattle.std.proofs.Common.{◌≡◌, ◌<◌, length, refl, ap, subst, arith}
use Rattle.dtx_rounds.specs.Rounds.{fields_in}
use Rattle.dtx_refine.specs.Refiner.{HasTaken}
use Rattle.dtx_refine.proofs.Steps.{idle}
use Rattle.dtx_refine.proofs.passes.Passes.take.Goals as goal

pub returns-then-given-gt0-clause-taken : goal.returns-then-given-gt0-clause-taken
returns-then-given-gt0-clause-taken c = λ symbols t h is.
    let some : 0 < length c.args.acquirer.now.given =
    omega (arith, c.if-given-gt0.true, ap length c.given.ensures) in
    let one : 1 ≡ fields_in c.args.acquirer.now.given = omega (arith, c.requires.few, some) in
    subst (λ n. HasTaken c.args.acquirer.now.scale symbols t n c.args.self.now c.pass.new.self) one
    (c.pass.ensures.taken symbols t h (is some))

pub returns-else-given-gt0-clause-taken : goal.returns-else-given-gt0-clause-taken
returns-else-given-gt0-clause-taken c = λ symbols t h is.
    idle c.args.acquirer.now.scale t symbols c.args.self.now _ h refl (fields_in c.args.acquirer.now.given)
    (omega (arith, c.if-given-gt0.false, ap length c.given.ensures)) refl refl refl refl
