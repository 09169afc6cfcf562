use Rattle.dtx_chain.proofs.NoDamageLemmas.{slight_before}
use Rattle.dtx_chain.proofs.laws.damage_before_the_first_sync_is_slight.Goals as goal

pub returns : goal.returns
returns c = slight_before
