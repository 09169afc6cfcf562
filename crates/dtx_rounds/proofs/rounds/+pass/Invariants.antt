use Rattle.std.proofs.Common.{length}
use Rattle.dtx_rounds.proofs.rounds.+pass.Given as goal

abbrev pub decreases-pass : goal.decreases-pass
decreases-pass l = length l.rounds.now
