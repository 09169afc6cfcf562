use Rattle.std.proofs.Common.{◌≡◌, ℕ, ◌+◌, ◌-◌, ◌*◌, ◌%◌, ◌<◌, ◌≤◌, [], get_or, pos, refl, sym, ap, ◌∙◌, subst}
use Rattle.std.proofs.Common.{◌≢◌, ◌⊎◌, inl, inr, w8, arith}
use mir.Val.{SFits}
use Rattle.std.proofs.lemmas.Bool.{cases_eq}
use Rattle.std.proofs.lemmas.List.{get_or-set_other, length-set}
use Rattle.dtx_soft.proofs.WritesLemmas.{by_entry}
use Rattle.dtx_pins.specs.Pins.{pin_at}
use Rattle.dtx_pins.specs.Told.{lane_at, lane_behind, told_mark}
use Rattle.dtx_pins.proofs.ToldWalks.{behind_more, behind_none}
use Rattle.dtx_pins.proofs.ToldLanes.{lane_more, pin_kept}
use Rattle.dtx_pins.proofs.told.told_segment.Goals as goal

pub loop-r-init : goal.loop-r-init
loop-r-init c = record {
  long = c.requires.pins;
  lanes = λ e l. sym (behind_none c.args.scale _ _ _);
  small = c.requires.lanes;
  marks = λ r e l m. absurd (omega arith);
  left = λ r l. refl;
  bytes = λ r e l m. absurd (omega arith);
}

pub told_step-requires-clause-lanes : goal.told_step-requires-clause-lanes
told_step-requires-clause-lanes c e l = lane_more c.loop-r.r 68 _ (omega arith) (c.loop-r.invariant.small e l)

pub marks_of-requires : goal.marks_of-requires
marks_of-requires c = record {
  told = λ e l. subst (λ pin. pin < 4) (sym (pin_kept c.args.cells.now c.loop-r.cells c.loop-r.r e (omega arith) l
      (omega (arith, c.requires.pins)) c.told-cells c.loop-r.invariant.left)) (c.requires.told c.loop-r.r e
      (omega (arith, c.requires.pins)) l);
}

pub loop-r-preserved : goal.loop-r-preserved
loop-r-preserved c = record {
  long = length-set c.loop-r.cells c.loop-r.r c.marks_of.result ∙ c.loop-r.invariant.long;
  lanes = λ e l. behind_more c.args.scale _ _ c.loop-r.r _ _ _ _ _ (c.loop-r.invariant.lanes e l)
      (c.lanes_of.ensures e l ∙ pin e l) (c.read_turned.ensures e l) (c.told_step.ensures.lanes e (omega arith));
  small = λ e l. c.told_step.ensures.small c.loop-r.r e l (c.loop-r.invariant.small e l);
  marks = λ r e l m. by_entry (λ r row. get_or row e 0 ≡ told_mark (pin_at (get_or c.args.cells.now r []) e))
      c.loop-r.cells c.loop-r.r c.marks_of.result (omega (arith, c.loop-r.invariant.long))
      (c.marks_of.ensures e m ∙ ap told_mark (pin e m)) r [] (λ n. c.loop-r.invariant.marks r e (omega arith) m);
  left = λ r l. get_or-set_other c.loop-r.cells c.loop-r.r r c.marks_of.result [] (λ e. absurd (omega arith))
      ∙ c.loop-r.invariant.left r (omega arith);
  bytes = λ r e l m. bytes r e l m (cases_eq r c.loop-r.r);
}
  where
    bytes : (r e : ℕ) → r < c.loop-r.r + 1 → e < 12 → (r ≡ c.loop-r.r) ⊎ (r ≢ c.loop-r.r)
        → SFits w8 (get_or c.args.heard.now (4 + 12 * r + (e + 12 - 4 * c.args.turn) % 12) (pos 0))
    bytes r e l m (inl same) =
        subst (λ r. SFits w8 (get_or c.args.heard.now (4 + 12 * r + (e + 12 - 4 * c.args.turn) % 12) (pos 0)))
        (sym same) (subst (SFits w8) (c.read_turned.ensures e m) (c.told_step.ensures.bytes e (omega arith)))
    bytes r e l m (inr d) = c.loop-r.invariant.bytes r e (omega arith) m

    pin : (e : ℕ) → e < 12 → get_or (get_or c.loop-r.cells c.loop-r.r []) e 0
        ≡ pin_at (get_or c.args.cells.now c.loop-r.r []) e
    pin e l =
        pin_kept c.args.cells.now c.loop-r.cells c.loop-r.r e (omega arith) l (omega (arith, c.requires.pins))
        c.told-cells c.loop-r.invariant.left

pub returns-clause-lanes : goal.returns-clause-lanes
returns-clause-lanes c e l =
    subst (λ n. lane_at c.loop-r.told e
    ≡ lane_behind c.args.scale (λ r. pin_at (get_or c.args.cells.now r []) e)
    (λ r. get_or c.args.heard.now (4 + 12 * r + (e + 12 - 4 * c.args.turn) % 12) (pos 0)) n
    (lane_at c.args.told.now e)) (end c.loop-r.r (omega arith) (omega arith)) (c.loop-r.invariant.lanes e l)
  where
    end : (r : ℕ) → 69 ≤ r → r ≤ 69 → r ≡ 69
    end r l m = omega arith
