use Rattle.std.proofs.Common.{refl, arith}
use Rattle.dtx_refine.proofs.Steps.{held_none}
use Rattle.dtx_refine.proofs.passes.Passes.next.Goals as goal

pub returns-else-self-gt0-clause-ended : goal.returns-else-self-gt0-clause-ended
returns-else-self-gt0-clause-ended c = λ scale symbols h.
    held_none scale symbols c.args.self.now _ h refl refl (omega (arith, c.if-self-gt0.false)) refl refl refl
