use Rattle.std.proofs.Common.{length}
use Rattle.dtx_rounds.proofs.rounds.+end.Given as goal

abbrev pub decreases-end : goal.decreases-end
decreases-end l = length l.rounds.now
