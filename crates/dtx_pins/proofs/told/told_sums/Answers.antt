use Rattle.std.proofs.Common.{◌≡◌, ◌≢◌, ℕ, ◌+◌, ◌-◌, ◌*◌, ◌/◌, ◌%◌, ◌<◌, ◌≤◌, ◌⊎◌, inl, inr, [], drop, take, get_or}
use Rattle.std.proofs.Common.{length}
use Rattle.std.proofs.Common.{pos, refl, sym, ap, ap₂, ◌∙◌, subst, w8, arith, rules}
use mir.Val.{SFits}
use borrow.Rule.Slice.PartMut.{put_mid}
use Rattle.std.proofs.lemmas.Bool.{cases_eq, cases_lt}
use Rattle.std.proofs.lemmas.List.{drop_all}
use Rattle.dtx_lists.proofs.Written.{length-put_mid}
use Rattle.dtx_soft.specs.Coders.{coder_symbols}
use Rattle.dtx_soft.proofs.SoftenedLemmas.{length-coder}
use Rattle.dtx_pins.specs.Pins.{coder_pins, pin_at}
use Rattle.dtx_pins.specs.Told.{IsLane, IsWithin, beginning, excess_at, lane_at, told_mark}
use Rattle.dtx_pins.proofs.PinnedWalks.{pin_in_column}
use Rattle.dtx_pins.proofs.SegmentRows.{part_row, row_before, row_behind, row_within, symbol_in_segment}
use Rattle.dtx_pins.proofs.ToldLanes.{beginning_lane, emptied_lane, within_more, within_sum}
use Rattle.dtx_pins.proofs.ToldPaths.{AreTold, told_mark_is}
use Rattle.dtx_pins.proofs.ToldSums.{AreBytes, lane_at_end, told_sums_are}
use Rattle.dtx_pins.proofs.ToldWalks.{segment_more, whole, whole_fresh}
use Rattle.dtx_pins.proofs.told.told_sums.Goals as goal

pub loop-i-init : goal.loop-i-init
loop-i-init c = record {
  long = c.requires.pins;
  lanes = λ e l. ap₂ (λ total lane. lane_at_end c.args.scale (coder_pins c.args.cells.now e)
      (coder_symbols c.args.heard.now e) (whole total lane)) (c.alike-totals.ensures e (pos 0) (omega arith))
      (c.beginning-told.ensures e (omega arith));
  fresh = λ e l. subst (IsLane 0) (sym (c.beginning-told.ensures e l)) beginning_lane;
  totals = λ e l. subst (IsWithin 0) (sym (c.alike-totals.ensures e (pos 0) l)) beginning_lane.small;
  marks = λ t e l m. absurd (omega arith);
  left = λ t l. refl;
  bytes = λ i r e l m n. absurd (omega arith);
}

pub add-requires-clause-totals : goal.add-requires-clause-totals
add-requires-clause-totals c e l =
    within_more (69 * c.loop-i.i) 21459 (excess_at c.loop-i.totals e) (omega (arith, c.requires.few))
    (c.loop-i.invariant.totals e l)

pub loop-i-preserved : goal.loop-i-preserved
loop-i-preserved c = record {
  long = length-put_mid at k c.loop-i.cells c.told_segment.new.cells (omega (arith, c.loop-i.invariant.long)) few
      ∙ c.loop-i.invariant.long;
  lanes = λ e l. segment_more c.args.scale (coder_pins c.args.cells.now e) (coder_symbols c.args.heard.now e)
      (69 * c.loop-i.i) (69 * (c.loop-i.i + 1)) (excess_at c.loop-i.totals e) (excess_at c.add.new.totals e)
      (lane_at c.loop-i.told e) (lane_at c.told_segment.new.told e) (lane_at c.add.new.told e)
      (λ r. pin_at (get_or (take k (drop at c.loop-i.cells)) r []) e)
      (λ r. get_or (get_or c.args.heard.now c.loop-i.i []) (4 + 12 * r + (e + 12 - 4 * (c.loop-i.i % 3)) % 12) (pos 0))
      (omega arith) (omega (arith, length-coder c.args.heard.now e))
      (λ r m. row_pin r e m ∙ sym (pin_in_column c.args.cells.now e (69 * c.loop-i.i + r)))
      (λ r m. sym (symbol_in_segment c.args.heard.now (c.loop-i.i % 3) c.loop-i.i r e (omega arith) m refl))
      (c.told_segment.ensures.lanes e l) (c.add.ensures.totals e (omega arith)) (c.add.ensures.lanes e (omega arith))
      ∙ c.loop-i.invariant.lanes e l;
  fresh = λ e l. subst (IsLane 0) (sym (c.add.ensures.lanes e l)) (emptied_lane 69 (lane_at c.told_segment.new.told e)
      (c.told_segment.ensures.small e l));
  totals = λ e l. subst (IsWithin (69 * (c.loop-i.i + 1))) (sym (c.add.ensures.totals e l)) (within_sum
      (69 * c.loop-i.i) 69 (69 * (c.loop-i.i + 1)) (excess_at c.loop-i.totals e)
      (lane_at c.told_segment.new.told e).more (omega arith) (c.loop-i.invariant.totals e l)
      (c.told_segment.ensures.small e l).small);
  marks = λ t e l m. marks t e l m (cases_lt t (69 * c.loop-i.i));
  left = λ t l. row_behind at k t c.loop-i.cells c.told_segment.new.cells (omega (arith, c.loop-i.invariant.long)) few
      (omega arith) ∙ c.loop-i.invariant.left t (omega arith);
  bytes = λ i r e l m n. bytes i r e l m n (cases_eq i c.loop-i.i);
}
  where
    at : ℕ
    at = 69 * c.loop-i.i

    k : ℕ
    k = 69 * c.loop-i.i + 69 - 69 * c.loop-i.i

    few : length c.told_segment.new.cells ≡ 69 * c.loop-i.i + 69 - 69 * c.loop-i.i
    few = search rules

    row_pin : (r e : ℕ) → r < 69
        → pin_at (get_or (take (69 * c.loop-i.i + 69 - 69 * c.loop-i.i) (drop (69 * c.loop-i.i) c.loop-i.cells)) r []) e
        ≡ pin_at (get_or c.args.cells.now (69 * c.loop-i.i + r) []) e
    row_pin r e m =
        ap (λ row. pin_at row e) (part_row (69 * c.loop-i.i) k r c.loop-i.cells (omega arith)
        ∙ c.loop-i.invariant.left (69 * c.loop-i.i + r) (omega arith))

    marks : (t e : ℕ) → t < 69 * (c.loop-i.i + 1) → e < 12 → (t < 69 * c.loop-i.i) ⊎ (69 * c.loop-i.i ≤ t)
        → get_or (get_or (put_mid (69 * c.loop-i.i) (69 * c.loop-i.i + 69 - 69 * c.loop-i.i) c.loop-i.cells
        c.told_segment.new.cells) t []) e 0 ≡ told_mark (pin_at (get_or c.args.cells.now t []) e)
    marks t e l m (inl n) =
        ap (λ row. get_or row e 0) (row_before (69 * c.loop-i.i) k t c.loop-i.cells c.told_segment.new.cells
        (omega (arith, c.loop-i.invariant.long)) n) ∙ c.loop-i.invariant.marks t e n m
    marks t e l m (inr n) =
        subst (λ t. get_or (get_or (put_mid (69 * c.loop-i.i) k c.loop-i.cells c.told_segment.new.cells) t []) e 0
        ≡ told_mark (pin_at (get_or c.args.cells.now t []) e)) there
        (ap (λ row. get_or row e 0) (row_within (69 * c.loop-i.i) k (t - 69 * c.loop-i.i) c.loop-i.cells
        c.told_segment.new.cells (omega (arith, c.loop-i.invariant.long)) (omega (arith, few)))
        ∙ c.told_segment.ensures.marks (t - 69 * c.loop-i.i) e (omega arith) m
        ∙ ap told_mark (row_pin (t - 69 * c.loop-i.i) e (omega arith)))
      where
        there : 69 * c.loop-i.i + (t - 69 * c.loop-i.i) ≡ t
        there = omega arith

    bytes : (i r e : ℕ) → i < c.loop-i.i + 1 → r < 69 → e < 12 → (i ≡ c.loop-i.i) ⊎ (i ≢ c.loop-i.i)
        → SFits w8 (get_or (get_or c.args.heard.now i []) (4 + 12 * r + (e + 12 - 4 * (i % 3)) % 12) (pos 0))
    bytes i r e l m n (inl same) =
        subst (λ i. SFits w8 (get_or (get_or c.args.heard.now i []) (4 + 12 * r + (e + 12 - 4 * (i % 3)) % 12) (pos 0)))
        (sym same) (c.told_segment.ensures.bytes r e m n)
    bytes i r e l m n (inr d) = c.loop-i.invariant.bytes i r e (omega arith) m n

pub returns : goal.returns
returns c = record {
  sums_are = λ e l. told_sums_are c.args.scale (coder_pins c.args.cells.now e) (coder_symbols c.args.heard.now e)
      (length c.args.heard.now) (excess_at c.loop-i.totals e) (get_or c.all_sums.result e []) c.requires.from
      c.requires.to (told e l) (bytes e l) (length-coder c.args.heard.now e) (at_end e l)
      (λ p a b. c.all_sums.ensures e p a b l);
  marks_are = λ t e l m n. told_mark_is c.args.scale (coder_pins c.args.cells.now e)
      (coder_symbols c.args.heard.now e) t _ (omega (arith, length-coder c.args.heard.now e)) (told e n)
      (c.loop-i.invariant.marks t e (omega (arith, end)) n
      ∙ ap told_mark (sym (pin_in_column c.args.cells.now e t)));
}
  where
    end : c.loop-i.i ≡ length c.args.heard.now
    end = omega arith

    told : (e : ℕ) → e < 12
        → AreTold (coder_pins c.args.cells.now e) (length (coder_symbols c.args.heard.now e))
    told e l t m =
        subst (λ pin. pin < 4) (sym (pin_in_column c.args.cells.now e t))
        (c.requires.told t e (omega (arith, m, length-coder c.args.heard.now e, c.requires.pins)) l)

    bytes : (e : ℕ) → e < 12 → AreBytes (coder_symbols c.args.heard.now e)
    bytes e l t m =
        subst (SFits w8) (sym same ∙ ap (λ t. get_or (coder_symbols c.args.heard.now e) t (pos 0)) there)
        (c.loop-i.invariant.bytes (t / 69) (t % 69) e (omega (arith, end, m, length-coder c.args.heard.now e))
        (omega arith) l)
      where
        there : 69 * (t / 69) + t % 69 ≡ t
        there = omega arith

        same : get_or (coder_symbols c.args.heard.now e) (69 * (t / 69) + t % 69) (pos 0)
            ≡ get_or (get_or c.args.heard.now (t / 69) []) (4 + 12 * (t % 69) + (e + 12 - 4 * (t / 69 % 3)) % 12)
            (pos 0)
        same = symbol_in_segment c.args.heard.now (t / 69 % 3) (t / 69) (t % 69) e
            (omega (arith, m, length-coder c.args.heard.now e)) (omega arith) refl

    at_end : (e : ℕ) → e < 12
        → (lane_at_end c.args.scale (coder_pins c.args.cells.now e) (coder_symbols c.args.heard.now e) beginning).more
        ≡ excess_at c.loop-i.totals e
    at_end e l =
        ap (λ lane. lane.more) (sym (c.loop-i.invariant.lanes e l))
        ∙ ap (λ symbols. (lane_at_end c.args.scale (drop (69 * c.loop-i.i) (coder_pins c.args.cells.now e)) symbols
        (whole (excess_at c.loop-i.totals e) (lane_at c.loop-i.told e))).more)
        (drop_all (69 * c.loop-i.i) (coder_symbols c.args.heard.now e)
        (omega (arith, end, length-coder c.args.heard.now e)))
        ∙ whole_fresh (excess_at c.loop-i.totals e) (lane_at c.loop-i.told e)
        (c.loop-i.invariant.fresh e (omega arith))
