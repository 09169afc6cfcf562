use Rattle.std.proofs.Common.{ap, arith}
use Rattle.dtx_recipes.specs.Acquire.{with_acquirer}
use Rattle.dtx_jobs.proofs.acquiring.AcquirerRestorerACQUIRED_BYTES.take.Goals as goal

pub take-requires : goal.take-requires
take-requires c = omega (arith, c.requires.most.1.leaves.symbols_are, c.requires.most.2)

pub returns-clause-kept : goal.returns-clause-kept
returns-clause-kept c = ap with_acquirer c.take.ensures.scale
