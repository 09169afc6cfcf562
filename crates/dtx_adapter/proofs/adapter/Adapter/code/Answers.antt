use Rattle.std.proofs.Common.{arith}
use Rattle.dtx_coder.proofs.BatchesLemmas.{batch_sent}
use Rattle.dtx_adapter.proofs.adapter.Adapter.code.Goals as goal

pub loop-i-preserved : goal.loop-i-preserved
loop-i-preserved c = record {
  sent = λ fed long stands.
      c.send.ensures.coder fed c.args.packets.now (omega (arith, long, c.loop-i.invariant.given))
      (omega (arith, c.loop-i-test.true)) (c.loop-i.invariant.sent fed long stands);
  filler = c.loop-i.invariant.filler;
  given = c.loop-i.invariant.given;
}

pub returns-clause-coder : goal.returns-clause-coder
returns-clause-coder c = λ fed long stands.
    batch_sent fed c.args.packets.now c.loop-i.self.batch.bytes c.loop-i.i c.loop-i.self.coder
    (omega (arith, c.requires.whole, c.loop-i-test.false)) (c.loop-i.invariant.sent fed long stands)
