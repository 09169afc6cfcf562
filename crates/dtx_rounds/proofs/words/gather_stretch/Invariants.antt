use Rattle.std.proofs.Common.{◌≡◌, ℕ, ◌+◌, ◌*◌, ◌<◌, get_or, length}
use Rattle.dtx_rounds.proofs.words.gather_stretch.Given as goal

abbrev pub invariant-loop-i : goal.invariant-loop-i
invariant-loop-i l = record {
  long : length l.word ≡ 207;
  gathered : (i : ℕ) → i < l.i → get_or l.word (l.j + i) 0 ≡ get_or l.bytes (l.at + 209 * i) 0;
  before : (i : ℕ) → i < l.j → get_or l.word i 0 ≡ get_or l.initial.word i 0;
}
