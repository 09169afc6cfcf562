use Rattle.std.proofs.Common.{ap}
use Rattle.dtx_exciter.specs.Told.{is_sent}
use Rattle.dtx_network.proofs.OutOfStep.{lost_mutes, two_missing_lose}
use Rattle.dtx_network.proofs.laws.a_lost_anchor_mutes.Goals as goal

pub returns-clause-told : goal.returns-clause-told
returns-clause-told c = lost_mutes

pub returns-clause-nothing : goal.returns-clause-nothing
returns-clause-nothing c = λ address delay packets packet lost.
    c.sent_packets_give.ensures.none address delay packets packet
    (ap is_sent (lost_mutes address delay packets packet lost))

pub returns-clause-two_missing : goal.returns-clause-two_missing
returns-clause-two_missing c = two_missing_lose
