use Rattle.dtx_file_laws.proofs.LogLines.{words_of-log_text}
use Rattle.dtx_file_laws.proofs.laws.exciting.log_lines_read_back.Goals as goal

pub returns : goal.returns
returns c = words_of-log_text
