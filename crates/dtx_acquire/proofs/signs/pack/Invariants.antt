use Rattle.std.proofs.Common.{◌≡◌, ◌+◌, ◌-◌, ◌≤◌}
use Rattle.dtx_acquire.specs.Agreement.{packed}
use Rattle.dtx_acquire.proofs.Windows.{part}
use Rattle.dtx_acquire.proofs.signs.pack.Given as goal

abbrev pub invariant-loop-j : goal.invariant-loop-j
invariant-loop-j l = record {
  few : l.j ≤ 64;
  packed_is : l.word ≡ packed (part l.symbols (l.place + l.j) (64 - l.j));
}
