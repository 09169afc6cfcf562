use Rattle.dtx_erase.proofs.MendingLemmas.{damage_only}
use Rattle.dtx_erase.proofs.laws.damage_mended.Goals as goal

pub returns-clause-only : goal.returns-clause-only
returns-clause-only c = damage_only
