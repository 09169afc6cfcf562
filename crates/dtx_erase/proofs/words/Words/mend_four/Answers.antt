use Rattle.std.proofs.Common.{[], map, slice_index_or, Ok, ◌∙◌}
use Rattle.std.proofs.lemmas.List.{length-map}
use Rattle.dtx_erase.specs.Marks.{is_set}
use Rattle.dtx_erase.proofs.Mendings.{none_lost}
use Rattle.dtx_erase.proofs.Outcomes.{corrected_answer}
use Rattle.dtx_erase.proofs.words.Words.mend_four.Goals as goal

pub returns-then-are_clear : goal.returns-then-are_clear
returns-then-are_clear c p l =
    corrected_answer 207 187 (map is_set (slice_index_or c.args.flags.now p [])) (slice_index_or c.args.words.now p [])
    (slice_index_or c.correct_four.new.words p []) (slice_index_or c.correct_four.result p (Ok 0))
    (c.requires.words p l) (length-map (slice_index_or c.args.flags.now p []) is_set ∙ c.requires.flags p l)
    (none_lost (slice_index_or c.args.flags.now p []) (λ i. c.are_clear.ensures.0 c.if-are_clear.true p i l))
    (c.correct_four.ensures p l)
