use Rattle.std.proofs.Common.{◌+◌, ◌/◌, ◌%◌, get_or, arith, rules}
use Rattle.std.proofs.lemmas.List.FromFn.{fill_by_all}
use Rattle.dtx_slice.specs.Unrolled.{precoder_bits_of}
use Rattle.dtx_slice.proofs.unroll.repeated.Goals as goal

pub loop-e-preserved : goal.loop-e-preserved
loop-e-preserved c = search rules

pub returns-clause-precoder_bits : goal.returns-clause-precoder_bits
unfolding precoder_bits_of
returns-clause-precoder_bits c =
    fill_by_all (λ e. get_or c.args.last.now ((e + 4) % 12) 0 / 4) c.loop-e.precoder_bits 12 0 c.loop-e.invariant.long
    (λ e l. c.loop-e.invariant.written e (omega (arith, c.loop-e-test.false)))
