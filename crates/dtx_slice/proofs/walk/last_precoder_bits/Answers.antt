use Rattle.std.proofs.Common.{◌∙◌, arith}
use Rattle.dtx_slice.proofs.PlacesLemmas.{precoder_bit_last}
use Rattle.dtx_slice.proofs.walk.last_precoder_bits.Goals as goal

pub returns-clause-precoder_bits : goal.returns-clause-precoder_bits
returns-clause-precoder_bits c = λ precoder_bits e l.
    c.loop-e.invariant.written e (omega (arith, c.loop-e-test.false))
    ∙ precoder_bit_last c.args.first e precoder_bits c.args.levels.now
