use Rattle.std.proofs.Common.{arith}
use Rattle.dtx_schedule.proofs.PlayoutOn.{sent_by}
use Rattle.dtx_schedule.proofs.playing.PlayedSchedule.sent.Goals as goal

pub returns-in-Some : goal.returns-in-Some
returns-in-Some c = grind (arith, sent_by)
