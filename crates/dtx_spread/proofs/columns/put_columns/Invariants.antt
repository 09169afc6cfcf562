use Rattle.std.proofs.Common.{◌≡◌, ℕ, [], ◌+◌, ◌*◌, ◌<◌, ◌≤◌, ◌⊎◌, get_or}
use Rattle.dtx_spread.proofs.columns.put_columns.Given as goal

abbrev pub invariant-loop-c : goal.invariant-loop-c
invariant-loop-c g l = record {
  put : (d r : ℕ) → d < l.c → r < 16
      → get_or l.columns (d * 560 + l.at + r) 0 ≡ get_or (get_or l.tile d []) r 0;
  others : (d r : ℕ) → r < 560 → (r < l.at) ⊎ (l.at + 16 ≤ r)
      → get_or l.columns (d * 560 + r) 0 ≡ get_or l.fn.columns (d * 560 + r) 0;
}
