use Rattle.std.proofs.Common.{◌≡◌, ℕ, ◌<◌, ◌/◌, ◌%◌, get_or, slice_index_or, length, []}
use Rattle.dtx_galois.specs.Field.{mul, pow}
use Rattle.dtx_fast.specs.Rows.{half_byte}
use Rattle.dtx_fast.proofs.rows.Rows.new.Given as goal

abbrev pub invariant-loop-j : goal.invariant-loop-j
invariant-loop-j g l = record {
  done : (j q : ℕ) → j < l.j → q < g.row.W
      → get_or (slice_index_or l.rows j []) q 0 ≡ mul (half_byte (j % 32)) (pow (pow l.fn.base.0 q) (j / 32));
  long : length l.rows ≡ g.row.R;
}
