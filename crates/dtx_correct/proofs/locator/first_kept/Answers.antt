use Rattle.std.proofs.Common.{arith}
use Rattle.dtx_laws.specs.Locator.{is_marked}
use Rattle.dtx_correct.proofs.Kept.{count_none}
use Rattle.dtx_correct.proofs.locator.first_kept.Goals as goal

pub returns : goal.returns
returns c = absurd (omega (
  arith,
  c.requires.some,
  count_none (is_marked c.args.kept.now) c.args.width (λ j l. c.loop-k.invariant j (omega arith)),
))
