use Rattle.std.proofs.Common.{◌≡◌, ℕ, ◌<◌, false, get_or, length}
use Rattle.dtx_erase.specs.Marks.{is_set}
use Rattle.dtx_erase.proofs.words.marks_of.Given as goal

abbrev pub invariant-loop-i : goal.invariant-loop-i
invariant-loop-i l = record {
  long : length l.marks ≡ 207;
  done : (j : ℕ) → j < l.i → get_or l.marks j false ≡ is_set (get_or l.flags j 0);
}
