use Rattle.std.proofs.Common.{◌≡◌, ℕ, ◌<◌, ◌/◌, ◌%◌, get_or, length}
use Rattle.dtx_galois.specs.Field.{mul, pow}
use Rattle.dtx_fast.specs.Rows.{half_byte}
use Rattle.dtx_fast.proofs.rows.nth_row.Given as goal

abbrev pub invariant-loop-q : goal.invariant-loop-q
invariant-loop-q g l = record {
  done : (q : ℕ) → q < l.q → get_or l.row q 0 ≡ mul (half_byte (l.fn.j % 32)) (pow (pow l.fn.base.0 q) (l.fn.j / 32));
  long : length l.row ≡ g.row.W;
}
