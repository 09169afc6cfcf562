use Rattle.std.proofs.Common.{arith}
use Rattle.std.proofs.lemmas.Int.{ints}
use Rattle.dtx_pins.proofs.ToldLanes.{same_excess}
use Rattle.dtx_pins.proofs.told.excess_with.Goals as goal

pub returns : goal.returns
returns c =
    let total = c.requires.total in
    let more = c.requires.more in
    same_excess _ _
    (omega (arith, ints, total.far_from, total.far_to, more.far_from, more.far_to))
    (omega (arith, ints, total.other_near_from, total.other_near_to, more.near_from, more.near_to))
    (omega (arith, ints, total.near_from, total.near_to, more.other_near_from, more.other_near_to))
    (omega (arith, ints, total.other_both_from, total.other_both_to, more.both_from, more.both_to))
    (omega (arith, ints, total.both_from, total.both_to, more.other_both_from, more.other_both_to))
