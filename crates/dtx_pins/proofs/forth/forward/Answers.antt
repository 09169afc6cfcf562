use Rattle.std.proofs.Common.{◌≡◌, ℕ, ℤ, pos, ◌+◌, ◌-◌, ◌*◌, ◌<◌, List, [], get_or, length, map, slice_set, sum, refl}
use Rattle.std.proofs.Common.{sym, ap, ap₂, ◌∙◌, subst, arith}
use Rattle.std.specs.List.{range_with_len}
use Rattle.std.proofs.lemmas.List.{get_or-set_same, get_or-set_other, length-set, set-get_or}
use Rattle.dtx_lists.proofs.Range.{map-range_same}
use Rattle.dtx_soft.specs.Coders.{coder_symbols}
use Rattle.dtx_soft.specs.Paths.{cost}
use Rattle.dtx_soft.proofs.SoftenedLemmas.{length-coder}
use Rattle.dtx_soft.proofs.WritesLemmas.{by_entry}
use Rattle.dtx_pins.specs.LeastPinned.{least_pinned_levels}
use Rattle.dtx_pins.specs.PinnedField.{moved_in, rows_moved, AreLeastPinned, pinned_coder_cost, pinned_cost}
use Rattle.dtx_pins.specs.Pins.{coder_pins}
use Rattle.dtx_pins.specs.Trace.{AreStarts, IsStand, IsStart, stand_at}
use Rattle.dtx_pins.specs.Walks.{AreWalked}
use Rattle.dtx_pins.proofs.MovedSums.{moved_more}
use Rattle.dtx_pins.proofs.PinnedTraces.{arrives, sets_out}
use Rattle.dtx_pins.proofs.PinnedWalks.{pin_in_column}
use Rattle.dtx_pins.proofs.TracedSegments.{segment_traced}
use Rattle.dtx_pins.proofs.forth.forward.Goals as goal

pub loop-i-init : goal.loop-i-init
loop-i-init c = record {
  long = refl;
  left = λ k l. refl;
  syncs = λ i k l. refl;
  moved = refl;
  few = omega arith;
  still = λ e. refl;
  stands = c.requires.stands;
  under_way = λ pins sums walked begun e l. sets_out c.args.scale (coder_pins pins e)
      (coder_symbols c.args.heard.now e) (coder_symbols c.args.decided.now e) (sums e) (stand_at c.args.stands e)
      (subst (λ pin. IsStart pin (sums e) (stand_at c.args.stands e)) (sym (pin_in_column pins e 0))
      (begun.starts e l)) (walked.sums_are e l);
}

pub loop-i-preserved : goal.loop-i-preserved
loop-i-preserved c = record {
  long = length-set c.loop-i.decided i row ∙ c.loop-i.invariant.long;
  left = λ k l. get_or-set_other c.loop-i.decided i k row [] (λ e. absurd (omega (arith, l, e)))
      ∙ c.loop-i.invariant.left k (omega (arith, l));
  syncs = λ j k l. by_entry (λ j row. get_or row k (pos 0) ≡ get_or (get_or c.args.decided.now j []) k (pos 0))
      c.loop-i.decided i row within (c.move_symbols.ensures.sync k l ∙ c.loop-i.invariant.syncs i k l) j []
      (λ n. c.loop-i.invariant.syncs j k l);
  moved = moved_more (λ k. moved_in (get_or c.args.decided.now k []) (get_or c.loop-i.decided k []))
      (λ k. moved_in (get_or c.args.decided.now k []) (get_or (slice_set c.loop-i.decided i row) k [])) i
      c.loop-i.moved c.move_symbols.result
      (λ k l. ap (moved_in (get_or c.args.decided.now k [])) (get_or-set_other c.loop-i.decided i k row []
      (λ e. absurd (omega (arith, l, e))))) c.loop-i.invariant.moved
      (c.move_symbols.ensures.moved
      ∙ ap₂ moved_in (c.loop-i.invariant.left i (omega arith))
      (sym (get_or-set_same c.loop-i.decided i row [] within)));
  few = omega (arith, c.loop-i.invariant.few, c.move_symbols.ensures.most);
  still = λ e. ap (slice_set c.loop-i.decided i) (c.move_symbols.ensures.still (omega (arith, e)))
      ∙ set-get_or c.loop-i.decided i [] ∙ c.loop-i.invariant.still (omega (arith, e));
  stands = λ e l. subst (λ t. IsStand t (stand_at c.trace_turned-path.new.stands e)) next
      (c.trace_turned-path.ensures.stands (69 * i) e l (c.loop-i.invariant.stands e l));
  under_way = λ pins sums walked begun e l. segment_traced c.args.scale i (69 * i + 69 - 69 * i) pins c.args.marks.now
      c.args.heard.now c.loop-i.decided c.trace_turned-path.result row sums c.loop-i.stands
      c.trace_turned-path.new.stands (omega arith) c.loop-i-test.true same walked c.trace_turned-path.ensures
      c.move_symbols.ensures.data e l (c.loop-i.invariant.under_way pins sums walked begun e l);
}
  where
    i : ℕ
    i = c.loop-i.i

    row : List ℤ
    row = c.move_symbols.new.segment

    same : length c.loop-i.decided ≡ length c.args.heard.now
    same = c.loop-i.invariant.long ∙ c.requires.same

    within : c.loop-i.i < length c.loop-i.decided
    within = omega (arith, same, c.loop-i-test.true)

    next : 69 * c.loop-i.i + 69 ≡ 69 * (c.loop-i.i + 1)
    next = omega arith

-- where all symbols were walked over
arrived : (c : goal.After-total) (pins : List (List ℕ)) (sums : ℕ → List (List ℕ))
    → AreWalked c.args.scale 0 pins c.args.heard.now sums c.args.marks.now → AreStarts pins sums c.args.stands
    → (e : ℕ) → e < 12
    → AreLeastPinned c.args.scale 1 (coder_pins pins e) (coder_symbols c.args.heard.now e)
    (coder_symbols c.loop-i.decided e)
    × (get_or c.loop-i.stands.cost e 0
    ≡ cost c.args.scale (coder_symbols c.args.heard.now e)
    (least_pinned_levels c.args.scale (coder_pins pins e) (coder_symbols c.args.heard.now e)))
arrived c pins sums walked begun e l =
    let same : length c.loop-i.decided ≡ length c.args.heard.now = c.loop-i.invariant.long ∙ c.requires.same in
    arrives c.args.scale (coder_pins pins e) (coder_symbols c.args.heard.now e) (coder_symbols c.loop-i.decided e)
    (69 * c.loop-i.i) (stand_at c.loop-i.stands e) (omega (arith, length-coder c.args.heard.now e))
    (omega (arith, same, length-coder c.args.heard.now e, length-coder c.loop-i.decided e))
    (c.loop-i.invariant.under_way pins sums walked begun e l)

pub returns-clause-paths : goal.returns-clause-paths
returns-clause-paths c pins sums room walked begun = record {
  long = c.loop-i.invariant.long;
  syncs = c.loop-i.invariant.syncs;
  coders = λ e l. (arrived c pins sums walked begun e l).0;
}

pub returns-clause-cost : goal.returns-clause-cost
unfolding pinned_cost pinned_coder_cost
returns-clause-cost c pins sums room walked begun =
    c.total.ensures
    ∙ ap sum (map-range_same (λ e. get_or c.loop-i.stands.cost e 0)
    (pinned_coder_cost c.args.scale pins c.args.heard.now) 0 12
    (λ e a b. (arrived c pins sums walked begun e (omega (arith, b))).1))

pub returns-clause-moved : goal.returns-clause-moved
unfolding rows_moved
returns-clause-moved c =
    let all : c.loop-i.i ≡ length c.args.decided.now = omega (arith, c.requires.same) in
    c.loop-i.invariant.moved
    ∙ ap (λ n. sum (map (λ k. moved_in (get_or c.args.decided.now k []) (get_or c.loop-i.decided k []))
    (range_with_len 0 n))) all
