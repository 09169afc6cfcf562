use Rattle.std.proofs.Common.{arith}
use Rattle.std.proofs.lemmas.Int.{ints}
use Rattle.dtx_pins.proofs.ToldLanes.{four_times}
use Rattle.dtx_pins.proofs.told.less_beside.Goals as goal

pub overflow_add-result : goal.overflow_add-result
overflow_add-result c =
    let near = four_times c.args.a _ _ c.if_bit.ensures c.requires.near_from c.requires.near_to in
    let other = four_times c.args.b _ _ c.if_bit-2.ensures c.requires.other_near_from c.requires.other_near_to in
    omega (arith, ints, near.from, near.to, other.from, other.to)

pub returns-clause-less : goal.returns-clause-less
returns-clause-less c =
    let near = four_times c.args.a _ _ c.if_bit.ensures c.requires.near_from c.requires.near_to in
    let other = four_times c.args.b _ _ c.if_bit-2.ensures c.requires.other_near_from c.requires.other_near_to in
    omega (arith, ints, near.from, near.to, other.from, other.to, near.is, other.is)

pub returns-clause-from : goal.returns-clause-from
returns-clause-from c =
    let near = four_times c.args.a _ _ c.if_bit.ensures c.requires.near_from c.requires.near_to in
    let other = four_times c.args.b _ _ c.if_bit-2.ensures c.requires.other_near_from c.requires.other_near_to in
    omega (arith, ints, near.from, near.to, other.from, other.to)

pub returns-clause-to : goal.returns-clause-to
returns-clause-to c =
    let near = four_times c.args.a _ _ c.if_bit.ensures c.requires.near_from c.requires.near_to in
    let other = four_times c.args.b _ _ c.if_bit-2.ensures c.requires.other_near_from c.requires.other_near_to in
    omega (arith, ints, near.from, near.to, other.from, other.to)
