use Rattle.std.proofs.Common.{rules}
use Rattle.dtx_words.proofs.number.begins_plain.Goals as goal

pub returns-in-48 : goal.returns-in-48
returns-in-48 c = search rules
