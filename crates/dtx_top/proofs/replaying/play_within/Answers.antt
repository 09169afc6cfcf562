use Rattle.std.specs.Prelude.{[]}
use Rattle.std.proofs.Common.{rules}
use Rattle.dtx_network.specs.Network.{steps_under}
use Rattle.dtx_top.specs.NetProgress.{reception_outputs}
use Rattle.dtx_top.proofs.NetProgresses.{nothing_fed}
use Rattle.dtx_top.proofs.replaying.play_within.Goals as goal

pub returns-in-Some-clause-progress : goal.returns-in-Some-clause-progress
returns-in-Some-clause-progress g c = λ held stream is written.
    let plan = c.args.plan.now in
    let network = c.args.network.now in
    nothing_fed [] plan.transmitters (steps_under plan stream network.events)
    (reception_outputs plan network stream network.receive) c.ended.result.status held
    (g.S.Shelf.files c.args.shelf.now) is

pub returns-in-Some-clause-carried : goal.returns-in-Some-clause-carried
returns-in-Some-clause-carried g c = search rules

pub returns-in-None-clause-carried : goal.returns-in-None-clause-carried
returns-in-None-clause-carried g c = search rules

pub returns-in-None-clause-progress : goal.returns-in-None-clause-progress
returns-in-None-clause-progress g c = search rules
