use Rattle.dtx_laws.proofs.WordsLemmas.{own_correction, distance_self}
use Rattle.dtx_laws.proofs.laws.codeword_corrected.Goals as goal

pub returns-clause-itself : goal.returns-clause-itself
returns-clause-itself c = own_correction

pub returns-clause-unchanged : goal.returns-clause-unchanged
returns-clause-unchanged c = distance_self
