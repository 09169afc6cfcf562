use Rattle.std.proofs.Common.{refl, arith}
use Rattle.dtx_acquire.specs.Acquired.{acquired}
use Rattle.dtx_acquire.proofs.WholeLemmas.{long_acquired}
use Rattle.dtx_rounds.specs.Rounds.{fields_in, heard_of}
use Rattle.dtx_rounds.proofs.RefinedLemmas.{length-heard}
use Rattle.dtx_refine.proofs.Steps.{ended_none, ended_one}
use Rattle.dtx_refine.proofs.passes.Passes.end.Goals as goal

pub returns-then-self-clause-ended : goal.returns-then-self-clause-ended
returns-then-self-clause-ended c = λ scale symbols h.
    ended_one scale symbols c.args.self.now _ h refl c.finish-self.result
    (c.finish-self.ensures.finished scale c.args.self.now.count (fields_in (acquired scale symbols))
    c.args.self.now.numbers.done (heard_of symbols) (acquired scale symbols)
    (long_acquired scale symbols)
    (length-heard scale symbols) refl h.made)
    c.if-self.true c.if-self.true (omega (arith, c.requires.some)) c.add.ensures

pub returns-else-self-clause-ended : goal.returns-else-self-clause-ended
returns-else-self-clause-ended c = λ scale symbols h.
    ended_none scale symbols c.args.self.now _ h refl c.finish-self.result
    (c.finish-self.ensures.finished scale c.args.self.now.count (fields_in (acquired scale symbols))
    c.args.self.now.numbers.done (heard_of symbols) (acquired scale symbols)
    (long_acquired scale symbols)
    (length-heard scale symbols) refl h.made)
    c.if-self.false c.if-self.false refl refl
