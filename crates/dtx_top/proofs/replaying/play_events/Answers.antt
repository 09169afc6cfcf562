use Rattle.std.specs.Prelude.{Ok, Err}
use Rattle.std.proofs.Common.{sym, ap, ◌∙◌}
use Rattle.dtx_meaning.specs.declared.status.Outcome.{Outcome}
use Rattle.dtx_network.specs.Network.{steps_under}
use Rattle.dtx_schedule.specs.Played.{IsPlayOf}
use Rattle.dtx_schedule.specs.PlayedSoFar.{IsProgressOf}
use Rattle.dtx_top.specs.NetProgress.{reception_outputs}
use Rattle.dtx_top.proofs.NetAnswers.{feed_not_done, feed_of_replay}
use Rattle.dtx_top.proofs.NetProgresses.{broken_off}
use Rattle.dtx_top.proofs.Played.{damages_of, play_fault, played_over}
use Rattle.dtx_top.proofs.replaying.play_events.Goals as goal

pub receive_played-requires : goal.receive_played-requires
receive_played-requires g c =
    damages_of c.args.plan.now.transmitters c.args.network.now.receive c.requires.network.receive

pub returns-in-Ok-clause-carried : goal.returns-in-Ok-clause-carried
returns-in-Ok-clause-carried g c = λ held stream is written inside.
    let over = played_over (λ ts steps held. IsPlayOf ts steps held (Ok c.in-Ok.played)
    (g.S.Shelf.files c.play.new.shelf)) c.args.plan.now c.args.network.now stream c.as_slice.result.now c.args.fed
    held (g.S.Shelf.files c.args.shelf.now) c.requires.sound c.as_slice.ensures is written inside
    c.in-Ok.ensures.played in
    c.receive_played.ensures.carried c.args.plan.now held stream c.requires.network written.numbers over.playing
    over.files

pub returns-in-Ok-clause-progress : goal.returns-in-Ok-clause-progress
returns-in-Ok-clause-progress g c = λ held stream is written inside.
    let over = played_over (λ ts steps held. IsPlayOf ts steps held (Ok c.in-Ok.played)
    (g.S.Shelf.files c.play.new.shelf)) c.args.plan.now c.args.network.now stream c.as_slice.result.now c.args.fed
    held (g.S.Shelf.files c.args.shelf.now) c.requires.sound c.as_slice.ensures is written inside
    c.in-Ok.ensures.played in
    c.receive_played.ensures.progress c.args.plan.now held stream c.requires.network over.playing over.files

pub returns-in-Err-clause-carried : goal.returns-in-Err-clause-carried
returns-in-Err-clause-carried g c = λ held stream is written inside.
    let over = played_over (λ ts steps held. IsPlayOf ts steps held (Err c.in-Err.status)
    (g.S.Shelf.files c.play.new.shelf)) c.args.plan.now c.args.network.now stream c.as_slice.result.now c.args.fed
    held (g.S.Shelf.files c.args.shelf.now) c.requires.sound c.as_slice.ensures is written inside
    c.in-Err.ensures.played in
    play_fault c.args.plan.now c.args.network.now stream c.args.network.now.receive held c.in-Err.status c.ended.result
    (g.S.Shelf.files c.play.new.shelf)
    c.requires.sound.transmitters.some over c.ended.ensures

pub returns-in-Err-clause-progress : goal.returns-in-Err-clause-progress
returns-in-Err-clause-progress g c = λ held stream is written inside.
    let plan = c.args.plan.now in
    let network = c.args.network.now in
    let now = g.S.Shelf.files c.play.new.shelf in
    let fault = (played_over (λ ts steps held. IsPlayOf ts steps held (Err c.in-Err.status) now) plan network stream
    c.as_slice.result.now c.args.fed held (g.S.Shelf.files c.args.shelf.now) c.requires.sound c.as_slice.ensures is
    written inside c.in-Err.ensures.played).fault in
    let progress = played_over (λ ts steps held. IsProgressOf ts steps held (Err c.in-Err.status) now) plan network
    stream c.as_slice.result.now c.args.fed held (g.S.Shelf.files c.args.shelf.now) c.requires.sound
    c.as_slice.ensures is written inside c.in-Err.ensures.progress in
    broken_off plan.transmitters (steps_under plan stream network.events)
    (reception_outputs plan network stream network.receive) c.in-Err.status c.ended.result held now progress.0 fault
    c.ended.ensures progress.1

pub returns-in-Err-clause-network : goal.returns-in-Err-clause-network
returns-in-Err-clause-network g c = rw c.ended.ensures (feed_of_replay _ _ c.in-Err.ensures.refusal)

pub returns-in-Err-clause-shown : goal.returns-in-Err-clause-shown
returns-in-Err-clause-shown g c = λ done.
    absurd (feed_not_done _ c.in-Err.ensures.refusal (sym (ap (λ (o : Outcome). o.status) c.ended.ensures) ∙ done))
