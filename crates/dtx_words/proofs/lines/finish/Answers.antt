use Rattle.std.proofs.Common.{rules}
use Rattle.dtx_words.proofs.lines.finish.Goals as goal

pub returns-in-Err-Failed : goal.returns-in-Err-Failed
returns-in-Err-Failed c = search rules
