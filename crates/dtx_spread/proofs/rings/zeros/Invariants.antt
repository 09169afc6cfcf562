use Rattle.std.proofs.Common.{◌≡◌, replicate}
use Rattle.circular_buffer.specs.Buffer.{buffer}
use Rattle.dtx_spread.proofs.rings.zeros.Given as goal

abbrev pub invariant-loop-i : goal.invariant-loop-i
invariant-loop-i l = l.ring ≡ buffer (replicate l._i 0) l.count
