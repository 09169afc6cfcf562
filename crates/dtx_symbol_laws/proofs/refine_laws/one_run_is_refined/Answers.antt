use Rattle.dtx_rounds.specs.Rounds.{refined}
use Rattle.dtx_rounds.proofs.SoFarLemmas.{length-refined}
use Rattle.dtx_symbol_laws.proofs.AcquiredRun.{fields_read_back, one_run, sync_looks}
use Rattle.dtx_symbol_laws.proofs.RefinedFields.{fields_refined}
use Rattle.dtx_symbol_laws.proofs.refine_laws.one_run_is_refined.Goals as goal

pub returns-clause-count : goal.returns-clause-count
returns-clause-count c = λ scale r symbols some. length-refined scale r symbols

pub returns-clause-syncs : goal.returns-clause-syncs
returns-clause-syncs c =
    λ scale r symbols i some l e. sync_looks (refined scale symbols r) i
    (fields_refined scale r symbols some (c.whole_fields_are_acquired.ensures.segments scale symbols some)) l e

pub returns-clause-run : goal.returns-clause-run
returns-clause-run c =
    λ scale r symbols some e. one_run (refined scale symbols r)
    (fields_refined scale r symbols some (c.whole_fields_are_acquired.ensures.segments scale symbols some)) e

pub returns-clause-file : goal.returns-clause-file
returns-clause-file c =
    λ scale r symbols some. fields_read_back (refined scale symbols r)
    (fields_refined scale r symbols some (c.whole_fields_are_acquired.ensures.segments scale symbols some))
