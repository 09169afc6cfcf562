use Rattle.std.proofs.Common.{arith}
use Rattle.dtx_rounds.proofs.RefinedLemmas.{known_stays}
use Rattle.dtx_rounds.proofs.SoFarLemmas.{known_later}
use Rattle.dtx_rounds.proofs.laws.what_is_known_stays.Goals as goal

pub returns-clause-round : goal.returns-clause-round
returns-clause-round c =
    λ scale k heard given code some most. known_stays scale k heard given code some (omega (arith, most))

pub returns-clause-capture : goal.returns-clause-capture
returns-clause-capture c =
    λ scale r n k symbols code some most. known_later scale r n k symbols code some (omega (arith, most))
