use Rattle.std.proofs.Common.{◌≡◌, ℤ, ◌+◌, ◌%◌, List, refl, sym, subst, ◌∙◌, ap, take, drop, ◌++◌, ◌*◌, arith}
use Rattle.dtx_slice.specs.Slicing.{sliced_data}
use Rattle.dtx_receiver.specs.Bytes.{data_count}
use Rattle.dtx_receiver.specs.Receiver.{AreGrouped, Grouping}
use Rattle.dtx_receiver.proofs.SegmentsLemmas.{segment_long}
use Rattle.dtx_receiver.proofs.LevelsLemmas.{whole_now, part_now, not_due_now}
use Rattle.dtx_receiver.proofs.GroupedLemmas.{grouping, grouped_group, grouped_data}
use Rattle.dtx_receiver.proofs.groups.Groups.take.Goals as goal

pub returns-then-part-eq-GROUP_SEGMENTS-clause-grouped : goal.returns-then-part-eq-GROUP_SEGMENTS-clause-grouped
returns-then-part-eq-GROUP_SEGMENTS-clause-grouped c = λ run given d e.
    let old = c.self.inside in
    let kept = grouping old.levels old.unroll (take old.held old.bytes) in
    let here : AreGrouped kept run given = subst (λ (k : Grouping). AreGrouped k run given) (sym c.self.view_is) d in
    let w = whole_now c.args.segment.now old.levels run c.args.place c.put_levels.new.group e
    c.if-part-eq-GROUP_SEGMENTS.true c.self.told.0 (segment_long c.args.segment.now c.told-segment)
    c.put_levels.ensures.levels in
    grouped_group c.args.segment.now kept
    (grouping c.put_levels.new.group c.write_group.new.unroll (take (old.held + 1) c.write_group.new.groups)) run given
    c.args.place c.put_levels.new.group w here refl c.write_group.ensures.precoder_bits c.write_group.ensures.long
    c.write_group.ensures.groups

pub returns-else-part-eq-GROUP_SEGMENTS-clause-grouped : goal.returns-else-part-eq-GROUP_SEGMENTS-clause-grouped
returns-else-part-eq-GROUP_SEGMENTS-clause-grouped c = λ run given d e.
    let old = c.self.inside in
    let kept = grouping old.levels old.unroll (take old.held old.bytes) in
    let here : AreGrouped kept run given = subst (λ (k : Grouping). AreGrouped k run given) (sym c.self.view_is) d in
    let part : data_count run % 4 ≡ c.args.place % 4 = part_now run c.args.place e in
    let x : List ℤ = c.args.segment.now in
    grouped_data x kept (grouping c.put_levels.new.group old.unroll (take old.held old.bytes)) run given here
    (not_due_now run c.args.place e) (λ z. c.if-part-eq-GROUP_SEGMENTS.false (omega (arith, part, z)))
    c.self.told.0 (segment_long x c.told-segment)
    (c.put_levels.ensures.levels
    ∙ ap (λ n. take (828 * n) kept.levels ++ sliced_data x ++ drop (828 * n + 828) kept.levels) (sym part))
    refl refl
