use Rattle.std.proofs.Common.{◌≡◌, drop}
use Rattle.dtx_laws.specs.Locator.{low_value}
use Rattle.dtx_laws.proofs.correcting.places.low_value.Given as goal

abbrev pub invariant-loop-i : goal.invariant-loop-i
invariant-loop-i l = l.sum.0 ≡ low_value (drop l.i l.locator) l.at.0
