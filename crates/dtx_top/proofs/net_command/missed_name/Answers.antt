use Rattle.std.proofs.Common.{rules}
use Rattle.dtx_top.proofs.net_command.missed_name.Goals as goal

pub returns-in-Absent-eq1 : goal.returns-in-Absent-eq1
returns-in-Absent-eq1 c = search rules

pub push_str-requires : goal.push_str-requires
push_str-requires c = search rules
