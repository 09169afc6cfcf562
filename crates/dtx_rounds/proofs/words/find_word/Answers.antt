use Rattle.std.proofs.Common.{sym, ◌∙◌}
use Rattle.dtx_rounds.proofs.FoundWords.{found_none}
use Rattle.dtx_rounds.proofs.LaidWords.{only_none}
use Rattle.dtx_rounds.proofs.words.find_word.Goals as goal

pub returns-in_default : goal.returns-in_default
returns-in_default c =
    found_none _ c.args.field.now c.args.next.now (only_none c.args.k _ (sym c.code_of.ensures ∙ c.in_default.is))
