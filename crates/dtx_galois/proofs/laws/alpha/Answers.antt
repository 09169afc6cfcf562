use Rattle.std.proofs.Common.{arith, get_or}
use Rattle.dtx_galois.specs.declared.tables.TheConstants.{LOGARITHMS}
use Rattle.dtx_galois.proofs.PowersLemmas.{powers_differ, cycle}
use Rattle.dtx_galois.proofs.TableEntries.{logarithm_at}
use Rattle.dtx_galois.proofs.laws.alpha.Goals as goal

pub returns-clause-differ : goal.returns-clause-differ
returns-clause-differ c = powers_differ

pub returns-clause-cycle : goal.returns-clause-cycle
returns-clause-cycle c = cycle

pub returns-clause-all : goal.returns-clause-all
returns-clause-all c = λ a p l. let h = logarithm_at a (omega arith) l in (get_or LOGARITHMS a 0, h.1, h.0)
