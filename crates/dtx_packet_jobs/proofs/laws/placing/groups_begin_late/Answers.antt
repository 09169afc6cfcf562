use Rattle.std.proofs.Common.{arith}
use Rattle.dtx_packet_jobs.proofs.laws.placing.groups_begin_late.Goals as goal

pub returns : goal.returns
returns c = record { late = λ k late. omega (arith, late); field = λ k late. omega (arith, late) }
