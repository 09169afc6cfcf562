use Rattle.dtx_erase.proofs.MendingLemmas.{own_answer}
use Rattle.dtx_erase.proofs.laws.codeword_mended.Goals as goal

pub returns : goal.returns
returns c = own_answer
