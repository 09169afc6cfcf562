use Rattle.dtx_laws.proofs.ChoiceLemmas.{codeword_is, codeword_begins, codeword_only, codeword_length}
use Rattle.dtx_laws.proofs.laws.the_codeword.Goals as goal

pub returns-clause-is : goal.returns-clause-is
returns-clause-is c = codeword_is

pub returns-clause-begins : goal.returns-clause-begins
returns-clause-begins c = codeword_begins

pub returns-clause-only : goal.returns-clause-only
returns-clause-only c = codeword_only

pub returns-clause-long : goal.returns-clause-long
returns-clause-long c = codeword_length
