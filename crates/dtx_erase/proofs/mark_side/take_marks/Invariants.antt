use Rattle.std.proofs.Common.{◌≡◌, ℕ, ℤ, ◌+◌, ◌/◌, ◌%◌, ◌<◌, ◌++◌, List, length, take, replicate}
use Rattle.dtx_receiver.specs.Receiver.{AreGrouped}
use Rattle.dtx_receiver.specs.Bytes.{symbols_in}
use Rattle.dtx_erase.specs.Marks.{shown_run}
use Rattle.dtx_erase.proofs.mark_side.take_marks.Given as goal

abbrev pub invariant-loop-i : goal.invariant-loop-i
invariant-loop-i l = record {
  long : length l.symbols ≡ 832;
  rest : l.side ≡ record (l.fn.side) { groups = l.side.groups };
  grouped : (run : List (List ℤ)) (given : List ℕ) → AreGrouped l.fn.side.groups run given
      → length run % 313 ≡ l.place + 1
      → AreGrouped l.side.groups (run ++ shown_run (symbols_in (take l.i l.segments))) given;
  held : length l.side.groups.held ≡ (l.place % 4 + l.i) / 4;
  lowest : 0 < l.i → (l.place + l.i) % 4 ≡ 0 → l.side.groups.levels ≡ replicate {A = ℕ} 3312 0
      → l.side.groups.precoder_bits ≡ replicate {A = ℕ} 12 0;
}
