use Rattle.std.proofs.Common.{rules}
use Rattle.dtx_schedule.proofs.ProgressOf.{wanting}
use Rattle.dtx_schedule.proofs.playing.play_with.Goals as goal

pub returns-in-Err-clause-run : goal.returns-in-Err-clause-run
returns-in-Err-clause-run g c = search (rules, wanting)
