use Rattle.std.proofs.Common.{◌≡◌, ◌*◌, length, take}
use Rattle.dtx_rs.specs.Generator.{word_bytes}
use Rattle.dtx_rs.proofs.words.words_of.Given as goal

abbrev pub invariant-loop-i : goal.invariant-loop-i
invariant-loop-i l = record {
  front : word_bytes (take l.i l.words) ≡ take (4 * l.i) l.bytes;
  long : length l.words ≡ 5;
}
