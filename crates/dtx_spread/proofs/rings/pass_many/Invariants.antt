use Rattle.std.proofs.Common.{◌≡◌, ◌-◌, ◌≤◌, length}
use Rattle.dtx_spread.specs.Rings.{lists_of, ArePassed}
use Rattle.dtx_spread.proofs.rings.pass_many.Given as goal

abbrev pub invariant-loop-done : goal.invariant-loop-done
invariant-loop-done g l = record {
  within : l.done ≤ g.row.B;
  passed : ArePassed g.row.B l.next 0 l.done (lists_of l.fn.rings) (lists_of l.rings) l.fn.bytes l.bytes;
  count : length l.rings ≡ g.row.B;
}

abbrev pub decreases-loop-done : goal.decreases-loop-done
decreases-loop-done g l = g.row.B - l.done
