use Rattle.std.proofs.Common.{None, refl}
use Rattle.dtx_receiver.proofs.AnswersLemmas.{finish_none, finish_some, place_seen, seen, stands_new}
use Rattle.dtx_receiver.proofs.receiver.RunReceiver.finish.Goals as goal

pub returns-in-None-clause-stands : goal.returns-in-None-clause-stands
returns-in-None-clause-stands g c =
    stands_new g.D.RunDecoder.decodes c.args.self.now.place c.args.self.now.decoding
    (place_seen c.self.view_is c.in-None.is)

pub returns-in-None-clause-packets : goal.returns-in-None-clause-packets
returns-in-None-clause-packets g c = λ s h.
    finish_none c.known.ensures s c.self.inside.place c.self.inside.decoder c.clear.new.self.items
    (seen c.self.view_is h) c.in-None.is c.clear.ensures

pub returns-in-Some-clause-stands : goal.returns-in-Some-clause-stands
returns-in-Some-clause-stands g c = stands_new g.D.RunDecoder.decodes None c.end.new.self refl

pub returns-in-Some-clause-packets : goal.returns-in-Some-clause-packets
returns-in-Some-clause-packets g c = λ s h.
    finish_some c.known.ensures s c.self.inside.place c.self.inside.decoder c.in-Some.field-0
    c.end.new.batch.packets.items (seen c.self.view_is h) c.in-Some.is c.end.ensures.packets
