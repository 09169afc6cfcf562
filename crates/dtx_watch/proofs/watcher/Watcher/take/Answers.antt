use Rattle.std.proofs.Common.{refl, None, ap, ◌∙◌, ◌++◌, ◌∷◌, []}
use Rattle.dtx_ops.specs.Reading.{reading}
use Rattle.dtx_exciter.specs.Packets.{syncs}
use Rattle.dtx_exciter.proofs.UnderLemmas.{sees}
use Rattle.dtx_watch.specs.Notes.{packet_note, one_or_none}
use Rattle.dtx_watch.specs.declared.telling.Expected.TheVariants.{Early}
use Rattle.dtx_watch.specs.declared.notes.NoteKind.TheVariants as what
use Rattle.dtx_watch.proofs.Taken.{taken_free, taken_lost, taken_start, taken_at}
use Rattle.dtx_watch.proofs.watcher.Watcher.take.Goals as goal

pub returns-in-Free : goal.returns-in-Free
returns-in-Free c = λ before h.
    taken_free c.args.self.now _ before c.args.packet.now.0 c.see.new.self c.tell_free.new.notes.items h
    (sees before c.args.packet.now.0 c.sync.result _ c.see.new.self c.sync.ensures
    (c.in-Free.ensures.seen (syncs before) h.anchor) (c.in-Free.ensures.stands (syncs before) h.anchor))
    refl
    (c.tell_free.ensures ∙ ap (λ ns. ns ++ one_or_none (packet_note c.args.self.now.count None Early None
    (reading c.args.packet.now.0))) c.clear.ensures)

pub returns-in-Lost : goal.returns-in-Lost
returns-in-Lost c = λ before h.
    taken_lost c.args.self.now _ before c.args.packet.now.0 c.see.new.self c.tell_free-in-Lost.new.notes.items h
    (sees before c.args.packet.now.0 c.sync.result _ c.see.new.self c.sync.ensures
    (c.in-Lost.ensures.seen (syncs before) h.anchor) (c.in-Lost.ensures.stands (syncs before) h.anchor))
    refl
    (c.tell_free-in-Lost.ensures
    ∙ ap (λ ns. ns ++ one_or_none (packet_note c.args.self.now.count None Early None (reading c.args.packet.now.0)))
    (c.push.ensures.items ∙ ap (λ ns. ns ++ (record { packet = c.args.self.now.count; what = what.Lost }) ∷ [])
    c.clear.ensures))

pub returns-in-Start : goal.returns-in-Start
returns-in-Start c = λ before h.
    taken_start c.args.self.now _ c.begin.new.self before c.args.packet.now.0 c.see.new.self c.clear.new.self.items h
    (sees before c.args.packet.now.0 c.sync.result _ c.see.new.self c.sync.ensures
    (c.in-Start.ensures.seen (syncs before) h.anchor) (c.in-Start.ensures.stands (syncs before) h.anchor))
    refl c.begin.ensures.keeps c.begin.ensures.part c.begin.ensures.same c.clear.ensures

pub returns-in-At : goal.returns-in-At
returns-in-At c = λ before h.
    taken_at c.args.self.now _ c.join.new.self before c.args.packet.now.0 c.in-At.place c.see.new.self
    c.join.new.notes.items h
    (sees before c.args.packet.now.0 c.sync.result _ c.see.new.self c.sync.ensures
    (c.in-At.ensures.seen (syncs before) h.anchor) (c.in-At.ensures.stands (syncs before) h.anchor))
    refl c.join.ensures.joined c.join.ensures.same
