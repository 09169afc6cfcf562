use Rattle.std.proofs.Common.{refl}
use Rattle.dtx_acquire.specs.Acquired.{acquired}
use Rattle.dtx_rounds.specs.Rounds.{heard_of}
use Rattle.dtx_refine.proofs.Steps.{none_passed}
use Rattle.dtx_refine.proofs.passes.Passes.new.Goals as goal

pub returns-clause-passed : goal.returns-clause-passed
returns-clause-passed c = λ symbols.
    none_passed c.args.scale symbols _ c.requires.from c.requires.to
    (c.in_ok-new.ensures.begun (heard_of symbols) (acquired c.args.scale symbols)) refl c.new-3.ensures.done
    c.new-3.ensures.known c.new-3.ensures.cost c.new-3.ensures.moved
