use Rattle.std.proofs.Common.{◌≡◌, ℕ, ◌<◌, pos, get_or, length}
use Rattle.dtx_erase.specs.Marks.{shown}
use Rattle.dtx_erase.proofs.mark_side.as_marks.Given as goal

abbrev pub invariant-loop-i : goal.invariant-loop-i
invariant-loop-i l = record {
  long : length l.marks ≡ 832;
  done : (j : ℕ) → j < l.i → get_or l.marks j (pos 0) ≡ shown (get_or l.segment j (pos 0));
}
