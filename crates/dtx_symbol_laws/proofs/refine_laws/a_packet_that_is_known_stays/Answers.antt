use Rattle.dtx_symbol_laws.proofs.RefinedCounts.{packets_counted}
use Rattle.dtx_symbol_laws.proofs.RefinedPackets.{acquired_stay, good_stay, known_received}
use Rattle.dtx_symbol_laws.proofs.refine_laws.a_packet_that_is_known_stays.Goals as goal

pub returns-clause-known : goal.returns-clause-known
returns-clause-known c =
    λ scale r n k symbols code some most e. known_received c.what_is_known_stays.ensures.capture scale r n k symbols
    code some most (c.whole_fields_are_acquired.ensures.segments scale symbols some) e

pub returns-clause-good : goal.returns-clause-good
returns-clause-good c =
    λ scale r n symbols some most. good_stay c.what_is_known_stays.ensures.capture scale r n symbols some most
    (c.whole_fields_are_acquired.ensures.segments scale symbols some)

pub returns-clause-acquired : goal.returns-clause-acquired
returns-clause-acquired c =
    λ scale r symbols some most. acquired_stay c.what_is_known_stays.ensures.capture scale r symbols some most
    (c.whole_fields_are_acquired.ensures.segments scale symbols some)

pub returns-clause-count : goal.returns-clause-count
returns-clause-count c =
    λ scale r symbols some. packets_counted scale r symbols some
    (c.whole_fields_are_acquired.ensures.segments scale symbols some)
