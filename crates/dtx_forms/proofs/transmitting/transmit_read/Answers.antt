use Rattle.std.proofs.Common.{refl, arith}
use Rattle.dtx_forms.proofs.transmitting.transmit_read.Goals as goal

pub overflow_cast-address : goal.overflow_cast-address
overflow_cast-address g c = omega (arith, ((c.in-Some.ensures.spelled c.in-Some.address).0 refl).0)

pub overflow_cast-delay : goal.overflow_cast-delay
overflow_cast-delay g c =
    omega (arith, ((c.in-Some-number_up_to.ensures.spelled c.in-Some-number_up_to.delay).0 refl).0)
