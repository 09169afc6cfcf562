use Rattle.std.proofs.Common.{arith}
use Rattle.std.proofs.lemmas.Int.{ints}
use Rattle.dtx_pins.proofs.ToldLanes.{times_32}
use Rattle.dtx_pins.proofs.told.less_with_z2.Goals as goal

pub overflow_add-both : goal.overflow_add-both
overflow_add-both c =
    let both = times_32 c.args.a _ _ c.if_bit.ensures c.requires.both_from c.requires.both_to in
    let other = times_32 c.args.b _ _ c.if_bit-2.ensures c.requires.other_both_from c.requires.other_both_to in
    omega (arith, ints, both.from, both.to, other.from, other.to)

pub overflow_sub-result : goal.overflow_sub-result
overflow_sub-result c =
    let both = times_32 c.args.a _ _ c.if_bit.ensures c.requires.both_from c.requires.both_to in
    let other = times_32 c.args.b _ _ c.if_bit-2.ensures c.requires.other_both_from c.requires.other_both_to in
    omega (arith, ints, both.from, both.to, other.from, other.to, c.requires.far_from, c.requires.far_to)

pub returns-clause-less : goal.returns-clause-less
returns-clause-less c =
    let both = times_32 c.args.a _ _ c.if_bit.ensures c.requires.both_from c.requires.both_to in
    let other = times_32 c.args.b _ _ c.if_bit-2.ensures c.requires.other_both_from c.requires.other_both_to in
    omega (
      arith,
      ints,
      both.from,
      both.to,
      other.from,
      other.to,
      c.requires.far_from,
      c.requires.far_to,
      both.is,
      other.is,
    )

pub returns-clause-from : goal.returns-clause-from
returns-clause-from c =
    let both = times_32 c.args.a _ _ c.if_bit.ensures c.requires.both_from c.requires.both_to in
    let other = times_32 c.args.b _ _ c.if_bit-2.ensures c.requires.other_both_from c.requires.other_both_to in
    omega (arith, ints, both.from, both.to, other.from, other.to, c.requires.far_from, c.requires.far_to)

pub returns-clause-to : goal.returns-clause-to
returns-clause-to c =
    let both = times_32 c.args.a _ _ c.if_bit.ensures c.requires.both_from c.requires.both_to in
    let other = times_32 c.args.b _ _ c.if_bit-2.ensures c.requires.other_both_from c.requires.other_both_to in
    omega (arith, ints, both.from, both.to, other.from, other.to, c.requires.far_from, c.requires.far_to)
