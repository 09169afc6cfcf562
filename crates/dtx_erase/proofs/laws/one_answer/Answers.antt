use Rattle.dtx_erase.proofs.MendingLemmas.{answers_same}
use Rattle.dtx_erase.proofs.laws.one_answer.Goals as goal

pub returns-clause-same : goal.returns-clause-same
returns-clause-same c = answers_same
