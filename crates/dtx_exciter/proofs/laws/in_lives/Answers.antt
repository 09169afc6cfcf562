use Rattle.dtx_exciter.proofs.InLivesLemmas.{segments_in, lines_in}
use Rattle.dtx_exciter.proofs.laws.in_lives.Goals as goal

pub returns-clause-segments : goal.returns-clause-segments
returns-clause-segments c = segments_in

pub returns-clause-lines : goal.returns-clause-lines
returns-clause-lines c = lines_in
