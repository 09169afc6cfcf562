use Rattle.std.proofs.Common.{arith}
use Rattle.dtx_receiver.specs.Bytes.{bytes_in}
use Rattle.dtx_acquire.specs.Acquired.{all_fields}
use Rattle.dtx_rounds.specs.Known.{known_bytes}
use Rattle.dtx_rounds.specs.Rounds.{heard_of, refined}
use Rattle.dtx_rounds.proofs.FieldRows.{are_fields}
use Rattle.dtx_rounds.proofs.Kept.{known_costs_more}
use Rattle.dtx_rounds.proofs.RoundNumbers.{costs_begin, costs_whole}
use Rattle.dtx_rounds.proofs.SoFarLemmas.{costs_next}
use Rattle.dtx_rounds.proofs.laws.costs_rise.Goals as goal

pub returns-clause-first : goal.returns-clause-first
returns-clause-first c =
    λ scale f e symbols.
    known_costs_more scale (heard_of symbols) (known_bytes (bytes_in (refined scale symbols 0))) f e

pub returns-clause-next : goal.returns-clause-next
returns-clause-next c =
    λ scale r f e symbols some most. costs_next scale r f e symbols some (omega (arith, most))

pub returns-clause-begin : goal.returns-clause-begin
returns-clause-begin c =
    λ scale symbols. costs_begin scale symbols (are_fields (all_fields symbols)
    (c.whole_fields_are_acquired.ensures.most symbols) (c.whole_fields_are_acquired.ensures.fields symbols))

pub returns-clause-whole : goal.returns-clause-whole
returns-clause-whole c =
    λ scale r symbols some most. costs_whole scale r symbols some (omega (arith, most))
