use Rattle.std.proofs.Common.{◌≡◌, ℤ, pos, ◌+◌, get_or, sym, ap₂, ◌∙◌, subst, w8, arith, rules}
use mir.Val.{SFits}
use Rattle.std.proofs.lemmas.Int.{to_z-of_z}
use Rattle.dtx_pins.specs.Told.{IsLane, lane_after, lane_at}
use Rattle.dtx_pins.proofs.ToldLanes.{lane_stepped}
use Rattle.dtx_pins.proofs.told.told_step.Goals as goal

pub told_lane-requires-clause-lane : goal.told_lane-requires-clause-lane
told_lane-requires-clause-lane c =
    subst (IsLane 68) (sym (c.lane_of-lane.ensures ∙ c.loop-e.invariant.left c.loop-e.e (omega arith)))
    (c.requires.lanes c.loop-e.e (omega arith))

pub loop-e-preserved : goal.loop-e-preserved
loop-e-preserved c =
    lane_stepped c.args.scale c.args.pins.now c.args.symbols.now c.loop-e.e (lane_at c.args.told.now)
    (lane_at c.loop-e.told) (lane_at c.put_lane.new.told) c.put_lane.ensures.others
    (c.put_lane.ensures.written ∙ c.told_lane.ensures.after ∙ ap₂ (lane_after c.args.scale
    (get_or c.args.pins.now c.loop-e.e 0)) (to_z-of_z w8 symbol fits) lane)
    (λ m h. subst (IsLane (m + 1)) (sym c.put_lane.ensures.written)
    (c.told_lane.ensures.small m (subst (IsLane m) (sym lane) h))) fits c.loop-e.invariant
  where
    symbol : ℤ
    symbol = get_or c.args.symbols.now c.loop-e.e (pos 0)

    fits : SFits w8 (get_or c.args.symbols.now c.loop-e.e (pos 0))
    fits = search rules

    lane : c.lane_of-lane.result ≡ lane_at c.args.told.now c.loop-e.e
    lane = c.lane_of-lane.ensures ∙ c.loop-e.invariant.left c.loop-e.e (omega arith)
