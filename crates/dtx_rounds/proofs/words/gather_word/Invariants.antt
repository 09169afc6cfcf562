use Rattle.std.proofs.Common.{◌-◌, ◌++◌}
use Rattle.dtx_rounds.proofs.Stretches.{IsGathered}
use Rattle.dtx_rounds.proofs.words.gather_word.Given as goal

abbrev pub invariant-loop-j : goal.invariant-loop-j
invariant-loop-j l = IsGathered (l.bytes ++ l.behind) l.word l.k l.j

abbrev pub decreases-loop-j : goal.decreases-loop-j
decreases-loop-j l = 207 - l.j
