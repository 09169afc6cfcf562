use Rattle.std.proofs.Common.{◌≡◌, ℕ, ◌<◌, ◌*◌, ◌+◌, [], length, slice_index_or}
use Rattle.dtx_erase.specs.Sides.{word_of}
use Rattle.dtx_erase.proofs.side.Side.words.Given as goal

abbrev pub invariant-loop-p : goal.invariant-loop-p
invariant-loop-p l = record {
  words : (p : ℕ) → p < l.p → slice_index_or l.words p [] ≡ word_of l.fn.self.gathered (4 * l.group + p);
  long : (p : ℕ) → p < l.p → length (slice_index_or l.words p []) ≡ 207;
  four : length l.words ≡ 4;
}
