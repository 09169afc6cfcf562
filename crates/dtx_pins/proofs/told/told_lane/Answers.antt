use Rattle.std.proofs.Common.{◌+◌, ◌/◌, ◌%◌, refl, ap, ◌∙◌, w8, arith}
use Rattle.std.proofs.lemmas.Int.{ints, to_z-of_z}
use Rattle.dtx_pins.specs.Told.{far_by, near_by}
use Rattle.dtx_pins.proofs.ToldLanes.{same_excess, same_lane, sum_kept, sum_more, summed}
use Rattle.dtx_pins.proofs.told.told_lane.Goals as goal

pub returns-clause-after : goal.returns-clause-after
returns-clause-after c =
    let small = c.requires.lane.small in
    let lane = c.args.lane.now in
    let z2 = (lane.former + c.args.pin / 2) % 2 in
    same_lane _ _ refl refl refl (same_excess _ _
    (summed lane.more.far _ _ small.far_from small.far_to c.far_by.ensures.from c.far_by.ensures.to
    (c.far_by.ensures.far ∙ ap (far_by c.args.scale z2 (c.args.pin % 2) lane.q1)
    (to_z-of_z w8 c.args.symbol c.ranges.symbol)))
    (omega (arith, ints, small.other_near_from, small.other_near_to))
    (summed lane.more.near _ _ small.near_from small.near_to c.near_by.ensures.from c.near_by.ensures.to
    (c.near_by.ensures.near ∙ ap (near_by c.args.scale z2 (c.args.pin % 2) lane.q1)
    (to_z-of_z w8 c.args.symbol c.ranges.symbol)))
    (omega (arith, ints, small.other_both_from, small.other_both_to))
    (summed lane.more.both _ _ small.both_from small.both_to c.both_by.ensures.from c.both_by.ensures.to
    c.both_by.ensures.both))

pub returns-clause-small : goal.returns-clause-small
returns-clause-small c n h =
    let most = c.requires.lane.small in
    let lane = c.args.lane.now.more in
    let small = h.small in
    let far = sum_more n lane.far _ most.far_from most.far_to c.far_by.ensures.from c.far_by.ensures.to
    small.far_from small.far_to in
    let near = sum_kept n lane.other_near most.other_near_from most.other_near_to
    small.other_near_from small.other_near_to in
    let other_near = sum_more n lane.near _ most.near_from most.near_to c.near_by.ensures.from c.near_by.ensures.to
    small.near_from small.near_to in
    let both = sum_kept n lane.other_both most.other_both_from most.other_both_to
    small.other_both_from small.other_both_to in
    let other_both = sum_more n lane.both _ most.both_from most.both_to c.both_by.ensures.from c.both_by.ensures.to
    small.both_from small.both_to in
    record {
      former = omega arith;
      q1 = omega arith;
      q0 = h.q1;
      small = record {
        far_from = far.from;
        far_to = far.to;
        near_from = near.from;
        near_to = near.to;
        other_near_from = other_near.from;
        other_near_to = other_near.to;
        both_from = both.from;
        both_to = both.to;
        other_both_from = other_both.from;
        other_both_to = other_both.to;
      };
    }
