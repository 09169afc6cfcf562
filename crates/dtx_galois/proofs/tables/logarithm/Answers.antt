use Rattle.std.proofs.Common.{arith}
use Rattle.dtx_galois.proofs.TableEntries.{logarithm_at}
use Rattle.dtx_galois.proofs.tables.logarithm.Goals as goal

pub returns-clause-small : goal.returns-clause-small
returns-clause-small c = (logarithm_at c.args.element c.requires (omega arith)).1

pub returns-clause-power : goal.returns-clause-power
returns-clause-power c = (logarithm_at c.args.element c.requires (omega arith)).0
