use Rattle.std.proofs.Common.{◌+◌, ◌*◌, get_or}
use Rattle.dtx_spread.proofs.Filled.{AreFilled}
use Rattle.dtx_spread.proofs.columns.columns_at.Given as goal

abbrev pub invariant-loop-c : goal.invariant-loop-c
invariant-loop-c l = AreFilled l.c 16 (λ c r. get_or l.columns (c * 560 + l.at + r) 0) l.tile
