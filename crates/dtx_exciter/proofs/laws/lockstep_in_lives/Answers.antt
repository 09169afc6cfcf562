use Rattle.dtx_exciter.proofs.InLivesLemmas.{stretch_segments, stretch_log}
use Rattle.dtx_exciter.proofs.laws.lockstep_in_lives.Goals as goal

pub returns-clause-segments : goal.returns-clause-segments
returns-clause-segments c = stretch_segments

pub returns-clause-lines : goal.returns-clause-lines
returns-clause-lines c = stretch_log
