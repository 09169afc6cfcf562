use Rattle.std.proofs.Common.{◌≡◌, ◌*◌, ◌%◌, ◌++◌, List, [], ◌∷◌, ap, sym, subst, ◌∙◌, length, arith}
use Rattle.std.proofs.lemmas.List.{length_push}
use Rattle.dtx_receiver.specs.declared.batch.Received.{Received}
use Rattle.dtx_erase.specs.Marks.{shown_run}
use Rattle.dtx_erase.specs.Mended.{mended_run_early}
use Rattle.dtx_erase.specs.Sides.{Decoding, Decodes, Holds, mended_word}
use Rattle.dtx_erase.proofs.Packets.{ends_one, ends_none}
use Rattle.dtx_erase.proofs.decoder.MendDecoderRunDecoder.end.Goals as goal
use Rattle.dtx_erase.proofs.decoder.MendDecoderRunDecoder.end.Goals.{else-self-eq0-via-then-self-eq0+else-self-eq0-2}
use Rattle.dtx_erase.proofs.decoder.MendDecoderRunDecoder.end.Goals.{else-self-eq0-via-else-self-eq0}

pub returns-then-self-eq0-2-clause-packets : goal.returns-then-self-eq0-2-clause-packets
returns-then-self-eq0-2-clause-packets c = λ run d.
    let here = subst (λ (k : Decoding). Decodes k run) (sym c.self.view_is) d in
    let packet : Received =
    mended_word (187 * c.self.inside.place) c.last_word-word.result c.last_word-flags.result in
    ends_one _ run c.last_word-word.result c.last_word-flags.result here c.if-self-eq0.true c.if-self-eq0-2.true
    (λ k. c.last_word-word.ensures.word run k
    (subst (λ s. Holds s run) (sym c.deref_mut.ensures.value) here.bytes))
    (λ k. c.last_word-flags.ensures (shown_run run) k
    (subst (λ s. Holds s (shown_run run)) (sym c.deref_mut-then-self-eq0-2.ensures.value) here.marks))
    ∙ ap (λ xs. mended_run_early run ++ xs)
    (sym (c.give.ensures ∙ ap (λ (xs : List Received). xs ++ packet ∷ []) c.requires.none))

pub returns-else-self-eq0-clause-packets : goal.returns-else-self-eq0-clause-packets
returns-else-self-eq0-clause-packets c = λ run d.
    let here = subst (λ (k : Decoding). Decodes k run) (sym c.self.view_is) d in
    let no : c.self.inside.waits ≡ 0 → c.self.inside.place % 52 ≡ 0 → ⊥ = elim c.else-self-eq0.branch [
      | else-self-eq0-via-then-self-eq0+else-self-eq0-2 w ↦ λ a b. w.if-self-eq0-2.false b
      | else-self-eq0-via-else-self-eq0 w ↦ λ a b. w.if-self-eq0.false a
    ] in
    ends_none _ run here no ∙ ap (λ xs. mended_run_early run ++ xs) (sym c.requires.none)

pub returns-then-self-eq0-2-clause-few : goal.returns-then-self-eq0-2-clause-few
returns-then-self-eq0-2-clause-few c =
    omega (
      arith,
      ap length c.give.ensures,
      length_push c.args.batch.now.packets.items (mended_word
          (187 * c.self.inside.place) c.last_word-word.result c.last_word-flags.result),
      ap length c.requires.none,
    )
