use Rattle.std.proofs.Common.{◌≡◌, subst}
use Rattle.dtx_slice.specs.Unrolled.{bytes_back, precoder_bits_after}
use Rattle.dtx_slice.proofs.Ends.{bytes_end, precoder_bits_end}
use Rattle.dtx_slice.proofs.unroll.Unroll.group.Goals as goal

pub returns-clause-bytes : goal.returns-clause-bytes
returns-clause-bytes c =
    rw (← c.self.view_is)
    (bytes_end c.args.first c.self.inside.precoder_bits c.args.levels.now c.walk.new.bytes c.told-levels
    c.walk.array_long
    c.walk.ensures)

pub returns-clause-precoder_bits : goal.returns-clause-precoder_bits
returns-clause-precoder_bits c =
    rw (← c.self.view_is)
    (precoder_bits_end c.args.first c.self.inside.precoder_bits c.args.levels.now c.last_precoder_bits-behind.result
    c.told-levels
    c.last_precoder_bits-behind.ensures.long (c.last_precoder_bits-behind.ensures.precoder_bits
    c.self.inside.precoder_bits))
