use Rattle.std.proofs.Common.{◌≡◌, ◌+◌, ◌*◌, ◌%◌, [], ◌∷◌, ◌++◌, length, map, refl, subst, ap, ap₂, ◌∙◌, slice_index_or}
use Rattle.std.proofs.Common.{arith}
use Rattle.std.proofs.lemmas.List.{length-append}
use Rattle.dtx_erase.specs.Sides.{Decoding, Side, mended_word, word_of}
use Rattle.dtx_erase.proofs.Mendings.{map_four}
use Rattle.dtx_erase.proofs.decoder.MendDecoder.give_group.Goals as goal

pub returns-else-self-gt0-clause-given : goal.returns-else-self-gt0-clause-given
returns-else-self-gt0-clause-given c z =
    rw (← c.self.view_is) (
      ap (λ (k : Decoding). k.waits) c.self.view_is ∙ z,
      refl,
      c.give_four.ensures
          ∙ ap (λ rs. c.args.batch.now.packets.items ++ rs) (map_four
          (λ p. mended_word (187 * ((c.self.inside.place + p) % 312)) (slice_index_or c.words-words.result p [])
          (slice_index_or c.words-flags.result p []))
          (λ p. mended_word (187 * ((c.self.inside.place + p) % 312))
          (word_of c.self.inside.bytes.value.gathered (4 * c.args.group + p))
          (word_of c.self.inside.marks.value.gathered (4 * c.args.group + p)))
          (λ p l. ap₂ (mended_word (187 * ((c.self.inside.place + p) % 312))) (c.words-words.ensures.words p l
          ∙ ap (λ (s : Side). word_of s.gathered (4 * c.args.group + p)) c.deref.ensures)
          (c.words-flags.ensures.words p l
          ∙ ap (λ (s : Side). word_of s.gathered (4 * c.args.group + p)) c.deref-else-self-gt0.ensures))),
    )

pub returns-else-self-gt0-clause-few : goal.returns-else-self-gt0-clause-few
returns-else-self-gt0-clause-few c =
    omega (
      arith,
      ap length c.give_four.ensures,
      length-append c.args.batch.now.packets.items
          (map (λ p. mended_word (187 * ((c.self.inside.place + p) % 312)) (slice_index_or c.words-words.result p [])
          (slice_index_or c.words-flags.result p [])) (0 ∷ 1 ∷ 2 ∷ 3 ∷ [])),
    )
