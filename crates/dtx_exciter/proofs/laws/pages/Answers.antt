use Rattle.dtx_exciter.proofs.Untold.{untold}
use Rattle.dtx_exciter.proofs.WhichTold.{all_told}
use Rattle.dtx_exciter.proofs.laws.pages.Goals as goal

pub returns-clause-answer : goal.returns-clause-answer
returns-clause-answer c = untold

pub returns-clause-told : goal.returns-clause-told
returns-clause-told c = all_told
