-- What reads that fill a buffer answer, where the readable bytes are foreseen.
use Rattle.std.proofs.Common.{ℕ, ◌+◌, arith}
use Rattle.std.specs.Prelude.{Option, Some, None, Ok}
use Rattle.dtx_outside.specs.Foreseen.{IsForeseenRead}

-- a read behind `count` bytes, and all bytes with it
pub foreseen_more : (readable : Option ℕ) (place count more rest wanted : ℕ)
    → IsForeseenRead readable (place + count) rest (Ok more)
    → IsForeseenRead readable place wanted (Ok (count + more))
foreseen_more None place count more rest wanted is = tt
foreseen_more (Some n) place count more rest wanted is = (omega (arith, is.0), omega (arith, is.1))
