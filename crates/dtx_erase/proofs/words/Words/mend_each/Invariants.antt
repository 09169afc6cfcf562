use Rattle.std.proofs.Common.{◌≡◌, ℕ, ◌<◌, ◌≤◌, [], Ok, length, map, slice_index_or}
use Rattle.dtx_erase.specs.Marks.{is_set}
use Rattle.dtx_erase.specs.Mending.{IsAnswered}
use Rattle.dtx_erase.proofs.words.Words.mend_each.Given as goal

abbrev pub invariant-loop-p : goal.invariant-loop-p
invariant-loop-p l = record {
  done : (p : ℕ) → p < l.p → IsAnswered 207 187 (map is_set (slice_index_or l.flags p []))
      (slice_index_or l.fn.words p []) (slice_index_or l.words p []) (slice_index_or l.answers p (Ok 0));
  later : (p : ℕ) → l.p ≤ p → slice_index_or l.words p [] ≡ slice_index_or l.fn.words p [];
  words : length l.words ≡ 4;
  long : length l.answers ≡ 4;
}
