use Rattle.std.proofs.Common.{◌+◌, ◌*◌, get_or}
use Rattle.dtx_spread.proofs.Filled.{AreFilled}
use Rattle.dtx_spread.proofs.few.flat.Given as goal

abbrev pub invariant-loop-c : goal.invariant-loop-c
invariant-loop-c l = AreFilled l.c 16 (λ c r. get_or l.bytes (c * 16 + r) 0) l.tile
