use Rattle.std.proofs.Common.{◌+◌, ap}
use Rattle.dtx_acquire.specs.Acquired.{segments_from}
use Rattle.dtx_acquire.proofs.WholeLemmas.{length-segments_from}
use Rattle.dtx_acquire.proofs.giver.Giver.give.Goals as goal

pub returns-clause-runs : goal.returns-clause-runs
returns-clause-runs c =
    ap (λ n. c.args.self.now.runs + n) (c.run_of.ensures.run (segments_from c.args.held.now 0 c.args.count)
    (length-segments_from c.args.held.now 0 c.args.count))
