use Rattle.std.proofs.Common.{◌≡◌, ◌≢◌, ℕ, ◌+◌, ◌*◌, ◌<◌, Some, None, get_or}
use Rattle.dtx_rounds.proofs.words.lay_stretch.Given as goal

abbrev pub invariant-loop-i : goal.invariant-loop-i
invariant-loop-i l = record {
  laid : (i : ℕ) → i < l.i → get_or l.known (l.at + 209 * i) None ≡ Some (get_or l.word (l.j + i) 0);
  others : (n : ℕ) → ((i : ℕ) → i < l.count → n ≢ l.at + 209 * i)
      → get_or l.known n None ≡ get_or l.initial.known n None;
}
