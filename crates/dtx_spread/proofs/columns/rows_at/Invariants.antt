use Rattle.std.proofs.Common.{◌≡◌, ℕ, [], ◌+◌, ◌*◌, ◌<◌, length, get_or}
use Rattle.dtx_spread.proofs.Filled.{AreFilled}
use Rattle.dtx_spread.proofs.columns.rows_at.Given as goal

abbrev pub invariant-loop-r : goal.invariant-loop-r
invariant-loop-r g l = record {
  filled : AreFilled l.r g.row.W (λ r c. get_or l.bytes (l.place + c + r * g.row.B) 0) l.rows;
  long : (i : ℕ) → i < 16 → length (get_or l.rows i []) ≡ 16;
}
