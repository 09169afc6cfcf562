use Rattle.std.proofs.Common.{◌≡◌, ℕ, ◌+◌, ◌*◌, ◌<◌, ◌≤◌, ◌++◌, [], List, length, slice_index_or, take, drop}
use Rattle.dtx_laws.specs.Branches.{after_all}
use Rattle.dtx_outer.specs.Inner.{StandsFor, IsTaken}
use Rattle.dtx_outer.specs.declared.inner.Taken.{Taken}
use Rattle.dtx_outer.specs.declared.inner.Taken.TheVariants.{None}
use Rattle.dtx_outer.proofs.inner.Inner.take_fours.Given as goal

abbrev pub invariant-loop-q : goal.invariant-loop-q
invariant-loop-q g l = record {
  white : l.self.white ≡ l.fn.self.white;
  branches : l.self.branches ≡ after_all g.row.B l.fn.self.branches l.fn.bytes;
  stands : (y : List ℕ) → StandsFor g.row.N g.row.K g.row.B g.row.M l.fn.self y
      → StandsFor g.row.N g.row.K g.row.B g.row.M
      (record l.self { branches = after_all g.row.B l.fn.self.branches (take (g.row.N * 4 * l.q) l.fn.bytes) })
      (y ++ take (g.row.N * 4 * l.q) l.fn.bytes);
  taken : (y : List ℕ) (q p : ℕ) → StandsFor g.row.N g.row.K g.row.B g.row.M l.fn.self y → q < l.q → p < 4
      → IsTaken g.row.N g.row.K g.row.B g.row.M l.fn.self.white (y ++ take (g.row.N * (4 * q + p)) l.fn.bytes)
      (take g.row.N (drop (g.row.N * (4 * q + p)) l.fn.bytes)) (slice_index_or (slice_index_or l.fn.outs q []) p [])
      (slice_index_or (slice_index_or l.outs q []) p [])
      (slice_index_or {A = Taken} (slice_index_or l.taken q []) p None);
  later : (q : ℕ) → l.q ≤ q → slice_index_or l.outs q [] ≡ slice_index_or l.fn.outs q [];
  outs : length l.outs ≡ length l.fn.outs;
  long : length l.taken ≡ length l.fn.taken;
}
