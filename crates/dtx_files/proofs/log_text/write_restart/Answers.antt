use Rattle.std.proofs.Common.{rules}
use Rattle.dtx_files.proofs.log_text.write_restart.Goals as goal

pub returns : goal.returns
returns c = search rules
