use Rattle.std.proofs.Common.{◌≡◌, ℕ, ◌<◌, ◌≤◌, [], length, slice_index_or}
use Rattle.dtx_outer.specs.declared.inner.Taken.TheVariants.{None}
use Rattle.dtx_dvb.specs.Given.{finished}
use Rattle.dtx_dvb.proofs.receiving.DvbIn.batch.Given as goal

abbrev pub invariant-loop-q : goal.invariant-loop-q
invariant-loop-q l = record {
  done : (q p : ℕ) → q < l.q → p < 4
      → slice_index_or (slice_index_or l.packets q []) p []
      ≡ finished (slice_index_or (slice_index_or l.taken q []) p None)
      (slice_index_or (slice_index_or l.initial.packets q []) p []);
  later : (q : ℕ) → l.q ≤ q → slice_index_or l.packets q [] ≡ slice_index_or l.initial.packets q [];
  long : length l.packets ≡ length l.initial.packets;
}
