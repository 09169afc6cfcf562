use Rattle.std.proofs.Common.{◌≡◌, ℕ, ◌<◌, ◌≤◌, [], Ok, MatchResult, length, slice_index_or}
use Rattle.dtx_laws.specs.Words.{IsCorrected, IsLeft}
use Rattle.dtx_fast.proofs.fast.Fast.correct_each.Given as goal

abbrev pub invariant-loop-p : goal.invariant-loop-p
invariant-loop-p g l = record {
  done : (p : ℕ) → p < l.p → MatchResult (slice_index_or l.answers p (Ok 0))
      (IsCorrected g.row.N g.row.K (slice_index_or l.fn.words p []) (slice_index_or l.words p []))
      (λ _e. IsLeft g.row.N g.row.K (slice_index_or l.fn.words p []) (slice_index_or l.words p []));
  later : (p : ℕ) → l.p ≤ p → slice_index_or l.words p [] ≡ slice_index_or l.fn.words p [];
  words : length l.words ≡ 4;
  long : length l.answers ≡ 4;
}
