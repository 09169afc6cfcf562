use Rattle.std.proofs.Common.{rules}
use Rattle.dtx_make.proofs.laying.ends_by.Goals as goal

pub returns-then-entry-place : goal.returns-then-entry-place
returns-then-entry-place c = search rules
