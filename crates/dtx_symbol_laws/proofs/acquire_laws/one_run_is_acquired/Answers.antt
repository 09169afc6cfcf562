use Rattle.dtx_acquire.specs.Acquired.{acquired}
use Rattle.dtx_symbol_laws.proofs.AcquiredRun.{fields_read_back, one_run, sync_looks}
use Rattle.dtx_symbol_laws.proofs.acquire_laws.one_run_is_acquired.Goals as goal

pub returns-clause-syncs : goal.returns-clause-syncs
returns-clause-syncs c = λ scale symbols i some l e.
    sync_looks (acquired scale symbols) i (c.whole_fields_are_acquired.ensures.segments scale symbols some) l e

pub returns-clause-run : goal.returns-clause-run
returns-clause-run c = λ scale symbols some e.
    one_run (acquired scale symbols) (c.whole_fields_are_acquired.ensures.segments scale symbols some) e

pub returns-clause-file : goal.returns-clause-file
returns-clause-file c = λ scale symbols some.
    fields_read_back (acquired scale symbols) (c.whole_fields_are_acquired.ensures.segments scale symbols some)
