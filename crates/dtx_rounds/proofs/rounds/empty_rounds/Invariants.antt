use Rattle.std.proofs.Common.{◌-◌, ◌≤◌, length}
use Rattle.dtx_rounds.specs.RunRounds.{AreOff}
use Rattle.dtx_rounds.proofs.rounds.empty_rounds.Given as goal

abbrev pub invariant-loop-alloc : goal.invariant-loop-alloc
invariant-loop-alloc l = record { off : AreOff l.rounds.items; few : length l.rounds.items ≤ l.count }

abbrev pub decreases-loop-alloc : goal.decreases-loop-alloc
decreases-loop-alloc l = l.count - length l.rounds.items
