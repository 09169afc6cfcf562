use Rattle.dtx_rounds.proofs.GivenLemmas.{given_last, given_segments}
use Rattle.dtx_rounds.proofs.laws.what_rounds_give_is_refined.Goals as goal

pub returns-clause-segments : goal.returns-clause-segments
returns-clause-segments c = given_segments

pub returns-clause-last : goal.returns-clause-last
returns-clause-last c = given_last
