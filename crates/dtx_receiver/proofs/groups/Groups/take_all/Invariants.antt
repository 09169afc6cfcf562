use Rattle.std.proofs.Common.{◌≡◌, ℕ, ◌+◌, ◌/◌, ◌%◌, ◌++◌, List, length, take}
use Rattle.std.specs.Prelude.{ℤ}
use Rattle.dtx_receiver.specs.Receiver.{AreGrouped}
use Rattle.dtx_receiver.specs.Bytes.{symbols_in}
use Rattle.dtx_receiver.proofs.groups.Groups.take_all.Given as goal

abbrev pub invariant-loop-i : goal.invariant-loop-i
invariant-loop-i l = record {
  long : length l.symbols ≡ 832;
  grouped : (run : List (List ℤ)) (given : List ℕ) → AreGrouped l.fn.self run given
      → length run % 313 ≡ l.place + 1 → AreGrouped l.self (run ++ symbols_in (take l.i l.segments)) given;
  held : length l.self.held ≡ (l.place % 4 + l.i) / 4;
}
