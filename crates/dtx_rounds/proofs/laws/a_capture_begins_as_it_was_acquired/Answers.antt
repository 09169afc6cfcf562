use Rattle.std.proofs.Common.{arith}
use Rattle.dtx_acquire.specs.Acquired.{acquired, all_fields}
use Rattle.dtx_acquire.proofs.WholeLemmas.{long_acquired}
use Rattle.dtx_rounds.specs.Rounds.{heard_of}
use Rattle.dtx_rounds.proofs.BegunFields.{begun_field}
use Rattle.dtx_rounds.proofs.FieldRows.{are_fields}
use Rattle.dtx_rounds.proofs.OwnRounds.{are_decided}
use Rattle.dtx_rounds.proofs.RefinedLemmas.{length-heard}
use Rattle.dtx_rounds.proofs.laws.a_capture_begins_as_it_was_acquired.Goals as goal

pub returns-clause-long : goal.returns-clause-long
returns-clause-long c = λ scale symbols some most. long_acquired scale symbols

pub returns-clause-same : goal.returns-clause-same
returns-clause-same c = length-heard

pub returns-clause-field : goal.returns-clause-field
returns-clause-field c =
    λ scale f symbols field some most long count heard decided cost none. begun_field scale f (heard_of symbols)
    (acquired scale symbols) field (are_decided scale symbols
    (are_fields (all_fields symbols) (c.whole_fields_are_acquired.ensures.most symbols)
    (c.whole_fields_are_acquired.ensures.fields symbols)) some (omega (arith, most))) long count heard decided cost none
