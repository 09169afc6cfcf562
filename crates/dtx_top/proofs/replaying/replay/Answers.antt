use Rattle.dtx_top.proofs.Adapted.{fed_alone_progress, fed_alone_told, fed_then_progress, fed_then_told}
use Rattle.dtx_top.proofs.replaying.replay.Goals as goal

pub returns-in-Done-clause-carried : goal.returns-in-Done-clause-carried
returns-in-Done-clause-carried g c =
    fed_then_told c.args.plan.now c.args.network.now (g.S.Shelf.files c.args.shelf.now)
    (g.S.Shelf.files c.feed_stream-fed.new.shelf)
    (g.S.Shelf.files c.play_within.new.shelf) c.feed_stream-fed.result c.play_within.result c.in-Done.is
    c.feed_stream-fed.ensures.carried (rw c.fed_of.ensures at c.play_within.ensures.carried)

pub returns-in-Done-clause-progress : goal.returns-in-Done-clause-progress
returns-in-Done-clause-progress g c =
    fed_then_progress c.args.plan.now c.args.network.now (g.S.Shelf.files c.args.shelf.now)
    (g.S.Shelf.files c.feed_stream-fed.new.shelf)
    (g.S.Shelf.files c.play_within.new.shelf) c.feed_stream-fed.result c.play_within.result.status c.in-Done.is
    c.feed_stream-fed.ensures.carried (rw c.fed_of.ensures at c.play_within.ensures.progress)

pub returns-in_default : goal.returns-in_default
returns-in_default g c = record {
  carried = fed_alone_told c.args.plan.now c.args.network.now (g.S.Shelf.files c.args.shelf.now)
      (g.S.Shelf.files c.feed_stream-fed.new.shelf)
      c.feed_stream-fed.result c.in_default.not-Done c.feed_stream-fed.ensures.carried;
  progress = fed_alone_progress c.args.plan.now c.args.network.now (g.S.Shelf.files c.args.shelf.now)
      (g.S.Shelf.files c.feed_stream-fed.new.shelf) c.feed_stream-fed.result c.feed_stream-fed.ensures.carried;
  network = c.feed_stream-fed.ensures.network;
  shown = λ done. absurd (c.in_default.not-Done done);
  gone = c.feed_stream-fed.ensures.gone;
}

pub fed_of-requires : goal.fed_of-requires
fed_of-requires g c = c.feed_stream-fed.ensures.count c.in-Done.is
