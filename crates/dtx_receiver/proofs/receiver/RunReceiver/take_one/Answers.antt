use Rattle.std.proofs.Common.{◌+◌, ◌∷◌, [], ℤ, List, length, ap, sym, subst, ◌∙◌}
use Rattle.dtx_receiver.specs.Receiver.{AreReceived, Stands}
use Rattle.dtx_receiver.specs.Runs.{begun, runs}
use Rattle.dtx_receiver.proofs.CountingLemmas.{runs_more}
use Rattle.dtx_receiver.proofs.receiver.RunReceiver.take_one.Goals as goal

pub returns-clause-received : goal.returns-clause-received
returns-clause-received g c = λ before h.
    let x : List ℤ = c.to_symbols.new.symbols in
    let taken = c.follow-tracking.ensures.taken before h in
    subst (λ y. AreReceived (Stands g.D.RunDecoder.decodes c.follow-tracking.new.self) g.D.RunDecoder.given before
    (y ∷ []) c.begun.result c.follow-tracking.new.batch.packets.items) c.to_symbols.ensures
    (record {
      stands = taken.stands;
      packets = taken.packets;
      runs = runs_more before x
          ∙ ap (λ n. length (runs before) + n) (sym (c.begun.ensures.begun ∙ ap begun taken.told));
    })
