use Rattle.std.proofs.Common.{◌≡◌, ℕ, ◌+◌, ◌*◌, ◌<◌, get_or}
use Rattle.dtx_spread.proofs.groups.gather.Given as goal

abbrev pub invariant-loop-t : goal.invariant-loop-t
invariant-loop-t g l = (c k : ℕ) → c < g.row.W → k < l.t * 16
    → get_or l.columns (c * 560 + k) 0 ≡ get_or l.bytes (l.place + c + k * g.row.B) 0
