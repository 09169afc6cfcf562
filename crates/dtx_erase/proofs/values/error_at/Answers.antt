use Rattle.std.proofs.Common.{arith}
use Rattle.dtx_fast.specs.Recurrence.{error_value}
use Rattle.dtx_erase.proofs.Quotients.{error_by_quotient}
use Rattle.dtx_erase.proofs.values.error_at.Goals as goal

pub returns : goal.returns
returns c = grind (arith, error_by_quotient, c.error_value.ensures, c.power_at-power.ensures, c.requires.some)
