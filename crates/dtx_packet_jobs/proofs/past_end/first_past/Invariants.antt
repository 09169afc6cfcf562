use Rattle.dtx_lists.proofs.FirstOf.{FailBefore}
use Rattle.dtx_recipes.specs.Hurt.{ends_past}
use Rattle.dtx_packet_jobs.proofs.past_end.first_past.Given as goal

abbrev pub invariant-loop-i : goal.invariant-loop-i
invariant-loop-i l = FailBefore (ends_past l.bytes) l.damage l.i
