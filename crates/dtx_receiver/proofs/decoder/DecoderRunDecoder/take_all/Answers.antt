use Rattle.std.proofs.Common.{◌+◌, ◌*◌, ◌%◌, ◌++◌, sym, ap, subst, ◌∙◌}
use Rattle.std.proofs.lemmas.List.{append-nil}
use Rattle.dtx_receiver.specs.Bytes.{bytes_in, symbols_in}
use Rattle.dtx_receiver.specs.Packets.{early_of}
use Rattle.dtx_receiver.specs.Receiver.{Decoding, Decodes, Grouping}
use Rattle.dtx_receiver.proofs.GroupedLemmas.{grouped_none}
use Rattle.dtx_receiver.proofs.Stands.{decoding, decodes_given}
use Rattle.dtx_receiver.proofs.decoder.DecoderRunDecoder.take_all.Goals as goal

pub returns-clause-stands : goal.returns-clause-stands
returns-clause-stands c = λ run d e.
    let old = c.self.inside in
    let kept = decoding old.groups.levels old.groups.precoder_bits old.inner old.turn in
    let here : Decodes kept run = subst (λ (k : Decoding). Decodes k run) (sym c.self.view_is) d in
    let g = c.take_all.ensures.grouped run (bytes_in run)
    (grouped_none old.groups run here.levels c.self.invariant.none) e in
    let same = c.give-given.ensures.groups in
    decodes_given kept
    (decoding c.give-given.new.self.levels c.give-given.new.self.precoder_bits c.give-given.new.inner
    c.turn_behind-self-inside.result)
    c.take_all.new.self run (run ++ symbols_in c.args.segments.now) here g (ap (λ (k : Grouping). k.levels) same)
    (ap (λ (k : Grouping). k.precoder_bits) same)
    (c.turn_behind-self-inside.ensures.turn ∙ ap (λ n. (old.turn + 4 * n) % 52) c.give-given.ensures.count)
    (c.give-given.ensures.stands (bytes_in run) here.inner)

pub returns-clause-packets : goal.returns-clause-packets
returns-clause-packets c = λ run d e.
    let old = c.self.inside in
    let kept = decoding old.groups.levels old.groups.precoder_bits old.inner old.turn in
    let here : Decodes kept run = subst (λ (k : Decoding). Decodes k run) (sym c.self.view_is) d in
    let g = c.take_all.ensures.grouped run (bytes_in run)
    (grouped_none old.groups run here.levels c.self.invariant.none) e in
    ap early_of g.bytes
    ∙ c.give-given.ensures.packets (bytes_in run) (early_of (bytes_in run)) here.inner
    (sym (append-nil (early_of (bytes_in run))) ∙ ap (λ xs. early_of (bytes_in run) ++ xs) (sym c.requires.none))
