use Rattle.std.proofs.Common.{◌≡◌, ℕ, [], ◌+◌, ◌*◌, ◌<◌, get_or}
use Rattle.dtx_spread.proofs.few.put_flat.Given as goal

abbrev pub invariant-loop-c : goal.invariant-loop-c
invariant-loop-c l = (d r : ℕ) → d < l.c → r < 16
    → get_or l.bytes (d * 16 + r) 0 ≡ get_or (get_or l.tile d []) r 0
