use Rattle.std.proofs.Common.{◌*◌, sym}
use Rattle.dtx_whiten.specs.Randomizer.{polynomial}
use Rattle.dtx_whiten.proofs.Division.{bit_set, bit_clear, remainder_set, remainder_clear}
use Rattle.dtx_whiten.proofs.register.shifted.Goals as goal

pub returns-then-double-eq1 : goal.returns-then-double-eq1
unfolding polynomial
returns-then-double-eq1 c =
    sym (remainder_set 16 80075 (c.args.register * 2) (bit_set (c.args.register * 2) 16 c.if-double-eq1.true))

pub returns-else-double-eq1 : goal.returns-else-double-eq1
returns-else-double-eq1 c =
    sym (remainder_clear 16 polynomial (c.args.register * 2) (bit_clear (c.args.register * 2) 16 c.if-double-eq1.false))
