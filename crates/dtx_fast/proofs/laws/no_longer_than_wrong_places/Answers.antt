use Rattle.dtx_fast.proofs.ConnectionLemmas.{least_of_word}
use Rattle.dtx_fast.proofs.laws.no_longer_than_wrong_places.Goals as goal

pub returns : goal.returns
returns c = least_of_word
