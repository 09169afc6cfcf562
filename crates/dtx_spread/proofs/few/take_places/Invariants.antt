use Rattle.std.proofs.Common.{◌≡◌, ℕ, ◌+◌, ◌*◌, ◌<◌, get_or}
use Rattle.dtx_spread.proofs.few.take_places.Given as goal

abbrev pub invariant-loop-t : goal.invariant-loop-t
invariant-loop-t g l = (p r : ℕ) → p < 16 * l.t → r < 16
    → get_or l.columns (p * 16 + r) 0 ≡ get_or l.rows (p + r * g.row.B) 0
