use Rattle.std.proofs.Common.{◌-◌, ◌++◌}
use Rattle.dtx_rounds.proofs.Stretches.{IsLaidTo}
use Rattle.dtx_rounds.proofs.words.lay_word.Given as goal

abbrev pub invariant-loop-j : goal.invariant-loop-j
invariant-loop-j l = IsLaidTo l.word l.k l.j (l.initial.known ++ l.initial.next) (l.known ++ l.next)

abbrev pub decreases-loop-j : goal.decreases-loop-j
decreases-loop-j l = 207 - l.j
