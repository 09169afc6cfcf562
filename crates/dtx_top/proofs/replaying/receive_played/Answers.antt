use Rattle.std.proofs.Common.{◌≡◌, List, refl, sym, subst}
use Rattle.std.specs.Prelude.{Option, Some, IfSome}
use Rattle.dtx_meaning.proofs.MeaningLemmas.{part_of_none}
use Rattle.dtx_meaning.specs.Meaning.{IsCarriedOut}
use Rattle.dtx_meaning.specs.declared.status.Status.{Status}
use Rattle.dtx_network.specs.Network.{steps_under}
use Rattle.dtx_plan.specs.Sound.{IsReceived}
use Rattle.dtx_plan.specs.declared.plan.ReceivePlan.{ReceivePlan}
use Rattle.dtx_plan.specs.declared.transmitter.Transmitter.{Transmitter}
use Rattle.dtx_top.specs.NetAnswers.{HasCount, IsOfReplay, count_of}
use Rattle.dtx_top.specs.NetMeaning.{played_and_received}
use Rattle.dtx_top.specs.NetProgress.{reception_outputs}
use Rattle.dtx_top.proofs.NetProgresses.{received_on}
use Rattle.dtx_top.proofs.Played.{received_behind, received_progress, received_told}
use Rattle.dtx_top.proofs.replaying.receive_played.Goals as goal

its_receiver : (ts : List Transmitter) (receive : Option ReceivePlan) (receiver : ReceivePlan) → receive ≡ Some receiver
    → IfSome receive (IsReceived ts)
    → IsReceived ts receiver
its_receiver ts receive receiver is received = subst (λ (o : Option ReceivePlan). IfSome o (IsReceived ts)) is received

pub returns-in-Some-clause-carried : goal.returns-in-Some-clause-carried
returns-in-Some-clause-carried g c = λ plan held stream net numbers playing is.
    let receiver = c.in-Some.receiver in
    let network = c.args.network.now in
    let ts : List Transmitter = plan.transmitters in
    let steps = steps_under plan stream network.events in
    let now = g.S.Shelf.files c.receive_sent-received.new.shelf in
    let sent = received_told plan network stream receiver held (g.S.Shelf.files c.args.shelf.now) now
    c.receive_sent-received.result c.args.played.now.playout c.sent.result c.saturating_mul-symbols.result
    (its_receiver ts network.receive receiver c.in-Some.is net.receive) playing (c.sent.ensures ts steps playing)
    c.saturating_mul-symbols.ensures is c.receive_sent-received.ensures.carried in
    subst (λ (o : Option ReceivePlan). IsCarriedOut (played_and_received plan network stream o)
    (Some held) c.with_received.result now) (sym c.in-Some.is)
    (received_behind plan network receiver stream held now c.args.fed c.steps.result
    c.receive_sent-received.result c.with_received.result numbers (c.steps.ensures ts steps playing) sent
    c.with_received.ensures.outcome)

pub returns-in-Some-clause-progress : goal.returns-in-Some-clause-progress
returns-in-Some-clause-progress g c = λ plan held stream net playing is.
    let receiver = c.in-Some.receiver in
    let network = c.args.network.now in
    let ts : List Transmitter = plan.transmitters in
    let steps = steps_under plan stream network.events in
    let now = g.S.Shelf.files c.receive_sent-received.new.shelf in
    received_progress plan network stream network.receive receiver held now c.receive_sent-received.result
    c.with_received.result.status c.in-Some.is
    (received_told plan network stream receiver held (g.S.Shelf.files c.args.shelf.now) now
    c.receive_sent-received.result c.args.played.now.playout c.sent.result c.saturating_mul-symbols.result
    (its_receiver ts network.receive receiver c.in-Some.is net.receive) playing (c.sent.ensures ts steps playing)
    c.saturating_mul-symbols.ensures is c.receive_sent-received.ensures.carried)

pub returns-in-Some-clause-network : goal.returns-in-Some-clause-network
returns-in-Some-clause-network g c =
    subst (λ (o : Option ReceivePlan). IsOfReplay o c.with_received.result.status) (sym c.in-Some.is)
    (subst (λ (s : Status). IsOfReplay (Some c.in-Some.receiver) s) (sym c.with_received.ensures.status)
    c.receive_sent-received.ensures.network)

pub returns-in-None-clause-progress : goal.returns-in-None-clause-progress
returns-in-None-clause-progress g c = λ plan held stream net playing is.
    let network = c.args.network.now in
    let now = g.S.Shelf.files c.args.shelf.now in
    let got = reception_outputs plan network stream network.receive in
    received_on plan.transmitters (steps_under plan stream network.events) got _ held now now is
    (part_of_none got now now refl)

pub returns-in-Some-clause-shown : goal.returns-in-Some-clause-shown
returns-in-Some-clause-shown g c =
    subst (λ (o : Option ReceivePlan). HasCount (count_of o) c.with_received.result) (sym c.in-Some.is)
    c.with_received.ensures.shown
