use Rattle.std.proofs.Common.{◌≡◌, ◌*◌, length}
use Rattle.dtx_slice.specs.Slicing.{AreSliced}
use Rattle.dtx_slice.proofs.slicing.slice_data.Given as goal

abbrev pub invariant-loop-part : goal.invariant-loop-part
invariant-loop-part l = record { long : length l.out ≡ 828; written : AreSliced (48 * l.part) l.segment l.out }
