use Rattle.std.proofs.Common.{◌≡◌, ◌*◌, ◌<◌, EachIndex, get_or, length, take}
use Rattle.std.specs.List.{flat_map}
use Rattle.dtx_slice.specs.Slicing.{sliced_data}
use Rattle.dtx_rounds.proofs.group_bytes.write_group.Given as goal

abbrev pub invariant-loop-i : goal.invariant-loop-i
invariant-loop-i l = record {
  small : EachIndex l.levels (λ d. get_or l.levels d 0 < 8);
  long : length l.levels ≡ 3312;
  written : take (828 * l.i) l.levels ≡ flat_map sliced_data (take l.i l.segments);
}
