use Rattle.dtx_net.proofs.LastLifeLemmas.{joined_lives}
use Rattle.dtx_net.proofs.laws.lives_are_cut.Goals as goal

pub returns : goal.returns
returns c = joined_lives
