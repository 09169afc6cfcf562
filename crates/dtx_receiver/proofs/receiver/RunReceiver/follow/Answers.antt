use Rattle.std.proofs.Common.{◌≡◌, ◌+◌, ◌-◌, ◌%◌, Some, None, refl, sym, ◌∙◌, ap, arith}
use Rattle.dtx_receiver.proofs.AnswersLemmas.{place_seen, seen, step_searching, step_began, step_sync, step_ended}
use Rattle.dtx_receiver.proofs.AnswersLemmas.{step_data}
use Rattle.dtx_receiver.proofs.receiver.RunReceiver.follow.Goals as goal

pub returns-then-looks-clause-taken : goal.returns-then-looks-clause-taken
returns-then-looks-clause-taken g c = λ s h.
    step_began c.known.ensures s c.args.segment.now c.self.inside.place (Some 1) c.self.inside.decoder c.begin.new.self
    c.args.batch.now.packets.items (seen c.self.view_is h) c.in-None.is
    (sym c.looks.ensures ∙ c.if-looks.true) c.requires refl c.begin.ensures

pub returns-else-looks-clause-taken : goal.returns-else-looks-clause-taken
returns-else-looks-clause-taken g c = λ s h.
    step_searching c.known.ensures s c.args.segment.now c.args.self.now.place c.args.self.now.decoding
    c.args.batch.now.packets.items h (place_seen c.self.view_is c.in-None.is)
    (sym c.looks.ensures ∙ c.if-looks.false) c.requires

pub returns-then-place-gt0-clause-taken : goal.returns-then-place-gt0-clause-taken
returns-then-place-gt0-clause-taken g c = λ s h.
    let back : c.in-Some.place - 1 + 1 ≡ c.in-Some.place = omega (arith, c.if-place-gt0.true) in
    step_data c.known.ensures s c.args.segment.now c.self.inside.place (Some ((c.in-Some.place + 1) % 313))
    c.self.inside.decoder c.take.new.self c.in-Some.place c.take.new.batch.packets.items
    (seen c.self.view_is h) c.in-Some.is
    (λ z. omega (arith, z, c.if-place-gt0.true)) refl
    (λ run d e. record {
      holds = c.take.ensures.stands run d (e ∙ sym back);
      packets = c.take.ensures.packets run d (e ∙ sym back);
    })

pub returns-then-looks-2-clause-taken : goal.returns-then-looks-2-clause-taken
returns-then-looks-2-clause-taken g c = λ s h.
    let none : c.in-Some.place ≡ 0 = omega (arith, c.if-place-gt0.false) in
    step_sync c.known.ensures s c.args.segment.now c.self.inside.place (Some 1) c.self.inside.decoder
    c.args.batch.now.packets.items (seen c.self.view_is h)
    (c.in-Some.is ∙ ap Some none) (sym c.looks-in-Some.ensures ∙ c.if-looks-2.true) c.requires refl

pub returns-else-looks-2-clause-taken : goal.returns-else-looks-2-clause-taken
returns-else-looks-2-clause-taken g c = λ s h.
    let none : c.in-Some.place ≡ 0 = omega (arith, c.if-place-gt0.false) in
    step_ended c.known.ensures s c.args.segment.now c.self.inside.place None c.self.inside.decoder c.end.new.self
    c.end.new.batch.packets.items (seen c.self.view_is h)
    (c.in-Some.is ∙ ap Some none) (sym c.looks-in-Some.ensures ∙ c.if-looks-2.false) refl
    c.end.ensures.packets
