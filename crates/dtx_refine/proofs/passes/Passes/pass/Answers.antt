use Rattle.std.proofs.Common.{refl}
use Rattle.dtx_acquire.specs.Acquired.{acquired}
use Rattle.dtx_acquire.proofs.WholeLemmas.{long_acquired}
use Rattle.dtx_rounds.specs.Rounds.{heard_of}
use Rattle.dtx_rounds.proofs.RefinedLemmas.{length-heard}
use Rattle.dtx_refine.proofs.Steps.{kept, took}
use Rattle.dtx_refine.proofs.passes.Passes.pass.Goals as goal

pub returns-then-self-clause-taken : goal.returns-then-self-clause-taken
returns-then-self-clause-taken c = λ symbols t h is.
    let scale = c.args.acquirer.now.scale in
    took scale t symbols c.args.self.now _ h refl c.take-self.result
    (c.take-self.ensures.taken scale c.args.self.now.count t c.args.self.now.numbers.done (heard_of symbols)
    (acquired scale symbols) (long_acquired scale symbols)
    (length-heard scale symbols) is.within h.made
    (c.set.ensures symbols t h.some h.most is))
    c.if-self.true c.if-self.true refl c.add.ensures

pub returns-else-self-clause-taken : goal.returns-else-self-clause-taken
returns-else-self-clause-taken c = λ symbols t h is.
    let scale = c.args.acquirer.now.scale in
    kept scale t symbols c.args.self.now _ h refl c.take-self.result
    (c.take-self.ensures.taken scale c.args.self.now.count t c.args.self.now.numbers.done (heard_of symbols)
    (acquired scale symbols) (long_acquired scale symbols)
    (length-heard scale symbols) is.within h.made
    (c.set.ensures symbols t h.some h.most is))
    c.if-self.false c.if-self.false refl refl
