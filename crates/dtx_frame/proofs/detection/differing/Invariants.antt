use Rattle.std.proofs.Common.{◌≡◌, ◌≤◌, map, sum}
use Rattle.std.specs.List.{range_with_len}
use Rattle.dtx_frame.specs.Detection.{differs}
use Rattle.dtx_frame.proofs.detection.differing.Given as goal

abbrev pub invariant-loop-i : goal.invariant-loop-i
invariant-loop-i l = record {
  count : l.count ≡ sum (map (differs l.segment) (range_with_len 0 l.i));
  small : l.count ≤ l.i;
}
