use Rattle.std.proofs.Common.{◌≡◌, ℕ, ◌<◌, ◌≤◌, [], length, slice_index_or}
use Rattle.dtx_outer.specs.declared.inner.Taken.TheVariants.{None}
use Rattle.dtx_dvb.specs.Given.{finished}
use Rattle.dtx_dvb.proofs.receiving.finish_four.Given as goal

abbrev pub invariant-loop-p : goal.invariant-loop-p
invariant-loop-p l = record {
  done : (p : ℕ) → p < l.p
      → slice_index_or l.packets p []
      ≡ finished (slice_index_or l.taken p None) (slice_index_or l.fn.packets p []);
  later : (p : ℕ) → l.p ≤ p → slice_index_or l.packets p [] ≡ slice_index_or l.fn.packets p [];
  long : length l.packets ≡ 4;
}
