use Rattle.std.proofs.Common.{◌≡◌, ◌+◌, ◌%◌, ◌++◌, take, drop}
use Rattle.dtx_repeat.specs.Restored.{restored}
use Rattle.dtx_repeat.proofs.marks.restore.Given as goal

abbrev pub invariant-loop-i : goal.invariant-loop-i
invariant-loop-i l = record {
  next : l.next ≡ (l.place + l.i) % 624;
  packets : l.packets ≡ restored l.place (take l.i l.fn.packets) ++ drop l.i l.fn.packets;
}
