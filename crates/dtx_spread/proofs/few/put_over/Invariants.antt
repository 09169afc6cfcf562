use Rattle.std.proofs.Common.{◌≡◌, ℕ, [], ◌+◌, ◌*◌, ◌<◌, ◌≤◌, get_or}
use Rattle.dtx_spread.proofs.few.put_over.Given as goal

abbrev pub invariant-loop-r : goal.invariant-loop-r
invariant-loop-r g l = record {
  put : (c k : ℕ) → c < 16 → l.place + c < g.row.B → k < l.r
      → get_or l.rows (l.place + c + k * g.row.B) 0 ≡ get_or (get_or l.tile k []) c 0;
  others : (p k : ℕ) → l.place + 16 ≤ p → p < g.row.B → k < 16
      → get_or l.rows (p + k * g.row.B) 0 ≡ get_or l.fn.rows (p + k * g.row.B) 0;
}
