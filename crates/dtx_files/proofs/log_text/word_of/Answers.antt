use Rattle.std.proofs.Common.{refl}
use Rattle.dtx_files.proofs.log_text.word_of.Goals as goal

pub returns-in-Late-clause-word : goal.returns-in-Late-clause-word
returns-in-Late-clause-word c = rw c.in-Late.is refl
