use Rattle.std.proofs.Common.{◌++◌, ap, ap₂, sym, subst, ◌∙◌, append_assoc, arith}
use Rattle.dtx_engine.specs.Made.{both}
use Rattle.dtx_recipes.specs.Giving.{bytes_of}
use Rattle.dtx_recipes.proofs.GivingLemmas.{bytes_of-append}
use Rattle.dtx_jobs.specs.Reception.{IsReceiving}
use Rattle.dtx_recipes.specs.SymbolFile.{file_segments}
use Rattle.dtx_recipes.specs.declared.tally.Tally.{Tally}
use Rattle.dtx_jobs.proofs.SymbolFileLemmas.{chunks_on, length-segments_of}
use Rattle.dtx_jobs.proofs.reception.ReceptionStep.step.Goals as goal

pub take_some-requires-clause-most : goal.take_some-requires-clause-most
take_some-requires-clause-most g c =
    let some = c.requires.given in
    let count = ap (λ (t : Tally). t.segments) some.2.receiving.tally in
    omega (arith, count, some.1, length-segments_of some.0, c.requires.most, c.as_chunks.ensures.front_len)

pub take_some-requires-clause-bounded : goal.take_some-requires-clause-bounded
take_some-requires-clause-bounded g c = c.requires.given.2.bounded

pub returns-clause-stepped : goal.returns-clause-stepped
returns-clause-stepped g c = λ given front long stand is.
    let giving = g.R.SegmentReceiver.giving in
    let before = file_segments given in
    let taken = c.take_some.ensures in
    let new = c.take_some.new.self in
    let batch = new.batch.packets.items in
    let was = stand.receiving in
    let receiving : IsReceiving giving (g.R.SegmentReceiver.stands c.args.self.now.receiver.value) c.args.self.now.tally
    before = record { receiver = was.receiver; tally = was.tally } in
    let all = chunks_on given c.args.bytes.now c.take_some.result _ (omega (arith, long)) c.as_chunks.ensures.front
    c.as_chunks.ensures.front_len (omega (arith, taken.within, c.as_chunks.ensures.front_len)) in
    record {
      stand = record {
        receiving = subst (IsReceiving giving (g.R.SegmentReceiver.stands new.receiver.value) new.tally) (sym all)
            (taken.receiving before receiving);
        bounded = taken.bounded;
      };
      made = ap₂ both
          (ap (λ s. bytes_of (giving.so_far s)) all ∙ ap bytes_of (taken.brought before receiving)
          ∙ bytes_of-append (giving.so_far before) batch ∙ ap (λ m. m.first ++ bytes_of batch) is
          ∙ append_assoc front.first c.args.self.now.packets (bytes_of batch)
          ∙ ap (λ z. front.first ++ z) (sym taken.packets))
          (ap (λ m. m.second) is);
    }
