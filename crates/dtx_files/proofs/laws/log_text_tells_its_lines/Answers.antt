use Rattle.dtx_files.proofs.Told.{lines_told}
use Rattle.dtx_files.proofs.laws.log_text_tells_its_lines.Goals as goal

pub returns : goal.returns
returns c = lines_told
