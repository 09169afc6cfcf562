use Rattle.std.proofs.Common.{ℕ, ◌-◌, ◌*◌, ◌<◌, ◌≤◌, List, drop, get_or, length, slice_index_or}
use Rattle.dtx_soft.proofs.Paths.{ArePotentialsAt}
use Rattle.dtx_soft.proofs.walk.fill_potentials.Given as goal

abbrev pub invariant-loop-t : goal.invariant-loop-t
invariant-loop-t l = record {
  long : length l.symbols < length l.potentials;
  bounded : (s : ℕ) → s < 4 → get_or l.behind s 0 ≤ 64516 * (length l.symbols - l.t);
  behind : ArePotentialsAt l.fn.table.scale (drop l.t l.symbols) l.behind;
  done : (k : ℕ) (default : List ℕ) → l.t ≤ k → k ≤ length l.symbols
      → ArePotentialsAt l.fn.table.scale (drop k l.symbols) (slice_index_or l.potentials k default);
  bounds : (k : ℕ) (default : List ℕ) → l.t ≤ k → k ≤ length l.symbols
      → (s : ℕ) → s < 4 → get_or (slice_index_or l.potentials k default) s 0 ≤ 64516 * length l.symbols;
}
