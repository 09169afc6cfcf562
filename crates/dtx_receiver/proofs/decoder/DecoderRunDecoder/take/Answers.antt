use Rattle.std.proofs.Common.{◌≡◌, ◌≢◌, ℕ, ◌+◌, ◌*◌, ◌/◌, ◌%◌, ◌++◌, ◌∷◌, [], List, length, refl, sym, ap, subst, ◌∙◌}
use Rattle.std.proofs.Common.{arith}
use Rattle.std.proofs.lemmas.List.{append-nil, nil_from_length}
use Rattle.dtx_outer.specs.Inner.{StandsFor}
use Rattle.dtx_receiver.specs.Bytes.{bytes_in}
use Rattle.dtx_receiver.specs.Packets.{early_of}
use Rattle.dtx_receiver.specs.Receiver.{Decoding, Decodes, Grouping}
use Rattle.dtx_receiver.proofs.GroupedLemmas.{flat, grouped_none}
use Rattle.dtx_receiver.proofs.Stands.{decoding, decodes_given}
use Rattle.dtx_receiver.proofs.decoder.DecoderRunDecoder.take.Goals as goal

pub returns-then-place-eq3-clause-stands : goal.returns-then-place-eq3-clause-stands
returns-then-place-eq3-clause-stands c = λ run d e.
    let old = c.self.inside in
    let kept = decoding old.groups.levels old.groups.precoder_bits old.inner old.turn in
    let here : Decodes kept run = subst (λ (k : Decoding). Decodes k run) (sym c.self.view_is) d in
    let g = c.take.ensures.grouped run (bytes_in run) (grouped_none old.groups run here.levels c.self.invariant.none)
    e in
    let same = c.give-given.ensures.groups in
    decodes_given kept
    (decoding c.give-given.new.self.levels c.give-given.new.self.precoder_bits c.give-given.new.inner
    c.turn_behind-self-inside.result)
    c.take.new.self run (run ++ c.args.segment.now ∷ []) here g (ap (λ (k : Grouping). k.levels) same)
    (ap (λ (k : Grouping). k.precoder_bits) same)
    (c.turn_behind-self-inside.ensures.turn ∙ ap (λ n. (old.turn + 4 * n) % 52) c.give-given.ensures.count)
    (c.give-given.ensures.stands (bytes_in run) here.inner)

pub returns-then-place-eq3-clause-packets : goal.returns-then-place-eq3-clause-packets
returns-then-place-eq3-clause-packets c = λ run d e.
    let old = c.self.inside in
    let kept = decoding old.groups.levels old.groups.precoder_bits old.inner old.turn in
    let here : Decodes kept run = subst (λ (k : Decoding). Decodes k run) (sym c.self.view_is) d in
    let g = c.take.ensures.grouped run (bytes_in run) (grouped_none old.groups run here.levels c.self.invariant.none)
    e in
    ap early_of g.bytes
    ∙ c.give-given.ensures.packets (bytes_in run) (early_of (bytes_in run)) here.inner
    (sym (append-nil (early_of (bytes_in run))) ∙ ap (λ xs. early_of (bytes_in run) ++ xs) (sym c.requires.none))

-- where no group is whole, none is held
nothing : (held old : List (List ℕ)) (place : ℕ) → old ≡ [] → length held ≡ length old + (place % 4 + 1) / 4
    → place % 4 ≢ 3 → held ≡ []
nothing held old place none long other = nil_from_length held (omega (arith, ap length none, long, other))

pub returns-else-place-eq3-clause-stands : goal.returns-else-place-eq3-clause-stands
returns-else-place-eq3-clause-stands c = λ run d e.
    let old = c.self.inside in
    let kept = decoding old.groups.levels old.groups.precoder_bits old.inner old.turn in
    let here : Decodes kept run = subst (λ (k : Decoding). Decodes k run) (sym c.self.view_is) d in
    let g = c.take.ensures.grouped run (bytes_in run) (grouped_none old.groups run here.levels c.self.invariant.none)
    e in
    let none : c.take.new.self.held ≡ [] =
    nothing c.take.new.self.held old.groups.held c.args.place c.self.invariant.none c.take.ensures.held
    c.if-place-eq3.false in
    decodes_given kept (decoding c.take.new.self.levels c.take.new.self.precoder_bits old.inner old.turn)
    c.take.new.self run (run ++ c.args.segment.now ∷ []) here g refl refl
    (omega (arith, ap length none, c.self.invariant.in_turn))
    (subst (StandsFor 207 187 52 4 old.inner)
    (sym (ap (λ held. bytes_in run ++ flat held) none ∙ append-nil (bytes_in run))) here.inner)

pub returns-else-place-eq3-clause-packets : goal.returns-else-place-eq3-clause-packets
returns-else-place-eq3-clause-packets c = λ run d e.
    let old = c.self.inside in
    let kept = decoding old.groups.levels old.groups.precoder_bits old.inner old.turn in
    let here : Decodes kept run = subst (λ (k : Decoding). Decodes k run) (sym c.self.view_is) d in
    let g = c.take.ensures.grouped run (bytes_in run) (grouped_none old.groups run here.levels c.self.invariant.none)
    e in
    let none : c.take.new.self.held ≡ [] =
    nothing c.take.new.self.held old.groups.held c.args.place c.self.invariant.none c.take.ensures.held
    c.if-place-eq3.false in
    ap early_of (g.bytes ∙ ap (λ held. bytes_in run ++ flat held) none ∙ append-nil (bytes_in run))
    ∙ sym (append-nil (early_of (bytes_in run)))
    ∙ ap (λ xs. early_of (bytes_in run) ++ xs) (sym c.requires.none)
