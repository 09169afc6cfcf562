use Rattle.std.proofs.Common.{rules}
use Rattle.dtx_files.proofs.log_text.write_line.Goals as goal

pub returns-in-Sent-Some : goal.returns-in-Sent-Some
returns-in-Sent-Some c = search rules
