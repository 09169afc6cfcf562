use Rattle.std.proofs.Common.{map, ◌∙◌}
use Rattle.std.proofs.lemmas.List.{length-map}
use Rattle.dtx_erase.specs.Marks.{is_set}
use Rattle.dtx_erase.proofs.words.Words.give.Goals as goal

pub returns : goal.returns
returns c =
    c.push.ensures.packets c.args.word.now (map is_set c.args.flags.now) c.told-word
    (length-map c.args.flags.now is_set ∙ c.told-flags) c.mend-answer.ensures.answer
