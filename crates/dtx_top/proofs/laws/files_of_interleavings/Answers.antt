use Rattle.std.proofs.Common.{ap}
use Rattle.dtx_files.specs.LogText.{log_text}
use Rattle.dtx_files.specs.Symbols.{segment_bytes}
use Rattle.dtx_schedule.specs.TransmitterFiles.{log_file, symbol_file}
use Rattle.dtx_top.proofs.laws.files_of_interleavings.Goals as goal

pub returns-clause-symbols : goal.returns-clause-symbols
unfolding symbol_file
returns-clause-symbols c = λ t who steps others same.
    ap segment_bytes (c.interleavings.ensures.own t who steps others same).1

pub returns-clause-log : goal.returns-clause-log
unfolding log_file
returns-clause-log c = λ t who steps others same. ap log_text (c.interleavings.ensures.own t who steps others same).2
