use Rattle.std.proofs.Common.{refl}
use Rattle.dtx_exciter.proofs.Taken.{taken_free, taken_lost, taken_start, taken_at}
use Rattle.dtx_exciter.proofs.UnderLemmas.{sees}
use Rattle.dtx_exciter.specs.Packets.{syncs}
use Rattle.dtx_exciter.proofs.exciter.Exciter.take.Goals as goal

pub returns-in-Free : goal.returns-in-Free
returns-in-Free c = λ a d before h.
    taken_free a d c.args.self.now before c.args.packet.now.0 c.see.new.self c.args.air.now.symbols h
    (sees before c.args.packet.now.0 c.sync.result _ c.see.new.self c.sync.ensures
    (c.in-Free.ensures.seen (syncs before) h.anchor) (c.in-Free.ensures.stands (syncs before) h.anchor))

pub returns-in-Lost : goal.returns-in-Lost
returns-in-Lost c = λ a d before h.
    taken_lost a d c.args.self.now before c.args.packet.now.0 c.see.new.self c.args.air.now.symbols h
    (sees before c.args.packet.now.0 c.sync.result _ c.see.new.self c.sync.ensures
    (c.in-Lost.ensures.seen (syncs before) h.anchor) (c.in-Lost.ensures.stands (syncs before) h.anchor))

pub returns-in-Start : goal.returns-in-Start
returns-in-Start c = λ a d before h.
    taken_start a d c.args.self.now _ c.begin.new.self before c.args.packet.now.0 c.see.new.self
    c.args.air.now.symbols h
    (sees before c.args.packet.now.0 c.sync.result _ c.see.new.self c.sync.ensures
    (c.in-Start.ensures.seen (syncs before) h.anchor) (c.in-Start.ensures.stands (syncs before) h.anchor))
    refl c.begin.ensures.keeps c.begin.ensures.same

pub returns-in-At : goal.returns-in-At
returns-in-At c = λ a d before h.
    taken_at c.args.self.now _ c.join.new.self before c.args.packet.now.0 c.in-At.place c.see.new.self c.join.result
    c.join.new.air.segments c.join.new.air.symbols a d h
    (sees before c.args.packet.now.0 c.sync.result _ c.see.new.self c.sync.ensures
    (c.in-At.ensures.seen (syncs before) h.anchor) (c.in-At.ensures.stands (syncs before) h.anchor))
    refl c.join.ensures.joined c.join.ensures.same
