use Rattle.std.proofs.Common.{ℕ, ◌++◌, sym, ap, subst, ◌∙◌}
use Rattle.std.proofs.lemmas.List.{append-nil, length-replicate}
use Rattle.dtx_receiver.specs.Bytes.{bytes_in}
use Rattle.dtx_receiver.specs.Packets.{early_of}
use Rattle.dtx_receiver.specs.Receiver.{Decoding, Decodes}
use Rattle.dtx_receiver.proofs.Stands.{decoding, ends_turn, ends_else}
use Rattle.dtx_receiver.proofs.decoder.DecoderRunDecoder.end.Goals as goal

pub returns-then-self-eq0-clause-packets : goal.returns-then-self-eq0-clause-packets
returns-then-self-eq0-clause-packets c = λ run d.
    let old = c.self.inside in
    let kept = decoding old.groups.levels old.groups.precoder_bits old.inner old.turn in
    let here : Decodes kept run = subst (λ (k : Decoding). Decodes k run) (sym c.self.view_is) d in
    ends_turn kept run _ here c.if-self-eq0.true (length-replicate {A = ℕ} 207 0)
    ∙ c.give.ensures.packets (bytes_in run) (early_of (bytes_in run)) here.inner
    (sym (append-nil (early_of (bytes_in run))) ∙ ap (λ xs. early_of (bytes_in run) ++ xs) (sym c.requires.none))

pub returns-else-self-eq0-clause-packets : goal.returns-else-self-eq0-clause-packets
returns-else-self-eq0-clause-packets c = λ run d.
    let old = c.self.inside in
    let kept = decoding old.groups.levels old.groups.precoder_bits old.inner old.turn in
    let here : Decodes kept run = subst (λ (k : Decoding). Decodes k run) (sym c.self.view_is) d in
    ends_else kept run here c.if-self-eq0.false
    ∙ (sym (append-nil (early_of (bytes_in run))) ∙ ap (λ xs. early_of (bytes_in run) ++ xs) (sym c.requires.none))
