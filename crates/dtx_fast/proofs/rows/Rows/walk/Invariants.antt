use Rattle.std.proofs.Common.{◌≡◌, ℕ, ◌<◌, get_or, length}
use Rattle.dtx_galois.specs.Field.{pow}
use Rattle.dtx_fast.specs.Recurrence.{walked}
use Rattle.dtx_fast.proofs.rows.Rows.walk.Given as goal

abbrev pub invariant-loop-k : goal.invariant-loop-k
invariant-loop-k g l = record {
  done : (q : ℕ) → q < g.row.W
      → get_or l.values q 0 ≡ walked l.k (λ i. get_or l.fn.coefficients i 0) (pow l.fn.self.base.0 q);
  long : length l.values ≡ g.row.W;
}
