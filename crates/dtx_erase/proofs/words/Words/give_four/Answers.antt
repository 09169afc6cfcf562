use Rattle.std.proofs.Common.{◌≡◌, ℕ, ◌+◌, ◌*◌, ◌%◌, ◌<◌, List, [], ◌∷◌, ◌++◌, length, map, slice_index_or, ap, ◌∙◌}
use Rattle.std.proofs.Common.{arith, lit<}
use Rattle.std.proofs.lemmas.List.{length-map}
use Rattle.dtx_receiver.specs.declared.batch.Received.{Received}
use Rattle.dtx_erase.specs.Marks.{is_set}
use Rattle.dtx_erase.specs.Sides.{mended_word}
use Rattle.dtx_erase.proofs.Mendings.{push_four}
use Rattle.dtx_erase.proofs.words.Words.give_four.Goals as goal

pub returns : goal.returns
returns c =
    let place : ℕ = c.args.place in
    let word : ℕ → List ℕ = λ p. slice_index_or c.args.words.now p [] in
    let flags : ℕ → List ℕ = λ p. slice_index_or c.args.flags.now p [] in
    let given : ℕ → Received = λ p. mended_word (187 * ((c.args.place + p) % 312))
    (slice_index_or c.args.words.now p []) (slice_index_or c.args.flags.now p []) in
    let marked : (p : ℕ) → p < 4 → length (map is_set (slice_index_or c.args.flags.now p [])) ≡ 207 =
    λ p l. length-map (slice_index_or c.args.flags.now p []) is_set ∙ c.requires.flags p l in
    let first : c.args.place ≡ (c.args.place + 0) % 312 = omega (arith, c.requires.within) in
    c.push-4.ensures.packets (word 3) (map is_set (flags 3)) (c.requires.words 3 (lit< tt)) (marked 3 (lit< tt))
    (c.mend_four-answers.ensures 3 (lit< tt))
    ∙ ap (λ (rs : List Received). rs ++ given 3 ∷ [])
    (c.push-3.ensures.packets (word 2) (map is_set (flags 2)) (c.requires.words 2 (lit< tt)) (marked 2 (lit< tt))
    (c.mend_four-answers.ensures 2 (lit< tt))
    ∙ ap (λ (rs : List Received). rs ++ given 2 ∷ [])
    (c.push-2.ensures.packets (word 1) (map is_set (flags 1)) (c.requires.words 1 (lit< tt)) (marked 1 (lit< tt))
    (c.mend_four-answers.ensures 1 (lit< tt))
    ∙ ap (λ (rs : List Received). rs ++ given 1 ∷ [])
    (c.push.ensures.packets (word 0) (map is_set (flags 0)) (c.requires.words 0 (lit< tt)) (marked 0 (lit< tt))
    (c.mend_four-answers.ensures 0 (lit< tt))
    ∙ ap (λ (i : ℕ). c.args.batch.now.packets.items ++ mended_word (187 * i) (word 0) (flags 0) ∷ []) first)))
    ∙ push_four c.args.batch.now.packets.items (given 0) (given 1) (given 2) (given 3)
