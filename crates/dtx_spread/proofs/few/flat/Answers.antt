use Rattle.std.proofs.Common.{◌+◌, ◌*◌, get_or, arith}
use Rattle.std.proofs.lemmas.Simd.{length-chunk, get_or-chunk}
use Rattle.dtx_spread.proofs.Filled.{filled_more}
use Rattle.dtx_spread.proofs.few.flat.Goals as goal
use lib.Lanes.{chunk}

pub loop-c-preserved : goal.loop-c-preserved
loop-c-preserved c =
    filled_more c.loop-c.c 16 (λ n r. get_or c.args.bytes.now (n * 16 + r) 0) c.loop-c.tile
    (chunk (c.loop-c.c * 16) 16 c.args.bytes.now) c.loop-c-test.true c.loop-c.invariant
    (length-chunk (c.loop-c.c * 16) 16 c.args.bytes.now (omega (arith, c.requires.long, c.loop-c-test.true)))
    (λ r l. get_or-chunk (c.loop-c.c * 16) 16 c.args.bytes.now r 0 l)
