use Rattle.std.proofs.Common.{◌≡◌, ℕ, [], ◌+◌, ◌*◌, ◌%◌, ◌<◌, ◌≤◌, ◌⊎◌, get_or}
use Rattle.dtx_spread.proofs.columns.put_tile.Given as goal

abbrev pub invariant-loop-r : goal.invariant-loop-r
invariant-loop-r g l = record {
  put : (c k : ℕ) → c < g.row.W → k < l.r
      → get_or l.bytes (l.place + c + k * g.row.B) 0 ≡ get_or (get_or l.tile k []) c 0;
  others : (i : ℕ) → (i % g.row.B < l.place) ⊎ (l.place + g.row.W ≤ i % g.row.B)
      → get_or l.bytes i 0 ≡ get_or l.fn.bytes i 0;
}
