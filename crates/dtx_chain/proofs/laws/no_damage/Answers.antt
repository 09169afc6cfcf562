use Rattle.dtx_chain.proofs.NoDamageLemmas.{part_received, is_slight}
use Rattle.dtx_chain.proofs.laws.no_damage.Goals as goal

pub returns-clause-received : goal.returns-clause-received
returns-clause-received c = part_received

pub returns-clause-slight : goal.returns-clause-slight
returns-clause-slight c = is_slight
