use Rattle.std.proofs.Common.{◌≡◌, ℕ, ◌*◌, ◌<◌, ◌≤◌, ◌++◌, [], List, length, slice_index_or, take, drop}
use Rattle.dtx_laws.specs.Branches.{Branching, leaving_all, after_all}
use Rattle.dtx_outer.specs.Inner.{StandsFor, IsTaken, block_behind}
use Rattle.dtx_outer.specs.declared.inner.Taken.{Taken}
use Rattle.dtx_outer.specs.declared.inner.Taken.TheVariants.{None}
use Rattle.dtx_outer.proofs.inner.Inner.take_gathered.Given as goal

abbrev pub invariant-loop-p : goal.invariant-loop-p
invariant-loop-p g l = record {
  white : l.self.white ≡ l.fn.self.white;
  branches : l.self.branches ≡ l.fn.self.branches;
  before : l.self.before ≡ block_behind g.row.N l.fn.self.before l.gathered 4;
  stands : (v : Branching) (ys y : List ℕ) → l.gathered ≡ leaving_all g.row.B v ys
      → StandsFor g.row.N g.row.K g.row.B g.row.M (record l.fn.self { branches = v }) y
      → StandsFor g.row.N g.row.K g.row.B g.row.M
      (record l.self {
        branches = after_all g.row.B v (take (g.row.N * l.p) ys);
        before = block_behind g.row.N l.fn.self.before (leaving_all g.row.B v ys) l.p;
      }) (y ++ take (g.row.N * l.p) ys);
  taken : (v : Branching) (ys y : List ℕ) (p : ℕ) → l.gathered ≡ leaving_all g.row.B v ys
      → StandsFor g.row.N g.row.K g.row.B g.row.M (record l.fn.self { branches = v }) y → p < l.p
      → IsTaken g.row.N g.row.K g.row.B g.row.M l.fn.self.white (y ++ take (g.row.N * p) ys)
      (take g.row.N (drop (g.row.N * p) ys)) (slice_index_or l.fn.outs p []) (slice_index_or l.outs p [])
      (slice_index_or {A = Taken} l.taken p None);
  later : (p : ℕ) → l.p ≤ p → slice_index_or l.outs p [] ≡ slice_index_or l.fn.outs p [];
  outs : length l.outs ≡ 4;
  long : length l.taken ≡ 4;
}
