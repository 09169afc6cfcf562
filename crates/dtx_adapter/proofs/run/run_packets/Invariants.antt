use Rattle.std.proofs.Common.{◌≡◌, take, drop}
use Rattle.dtx_adapter.specs.Feed.{placeholders}
use Rattle.dtx_adapter.proofs.run.run_packets.Given as goal

abbrev pub invariant-loop-i : goal.invariant-loop-i
invariant-loop-i l = placeholders (drop 4 (take l.i l.packets)) ≡ 0
