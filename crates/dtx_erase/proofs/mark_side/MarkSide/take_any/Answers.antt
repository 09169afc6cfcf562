use Rattle.std.proofs.Common.{◌*◌, ◌++◌, ◌∙◌, sym, ap, subst, take, drop, arith}
use Rattle.dtx_laws.specs.Branches.{after_all}
use Rattle.dtx_receiver.specs.Bytes.{bytes_in, symbols_in}
use Rattle.dtx_receiver.specs.Receiver.{Grouping}
use Rattle.dtx_receiver.proofs.GroupedLemmas.{flat, grouped_none}
use Rattle.dtx_erase.specs.Marks.{shown_run}
use Rattle.dtx_erase.specs.Sides.{Side, Holds, IsFurther}
use Rattle.dtx_erase.proofs.Quiet.{known_more}
use Rattle.dtx_erase.proofs.Stands.{held_passed, further_held}
use Rattle.dtx_erase.proofs.mark_side.MarkSide.take_any.Goals as goal

pub invariant_of-self : goal.invariant_of-self
invariant_of-self c =
    let old = c.self.inside.side in
    let laid = c.lay_out-count in
    let groups = c.pass.ensures.groups ∙ ap (λ (k : Side). k.groups) laid.ensures.side in (
      known_more old c.pass.new.self c.self.inside.quiet c.is_blank-blank.result c.is_over-self-inside.result
          c.self.inside.zeros laid.result c.counted-zeros.result
          (take (828 * laid.result) (drop 156 laid.new.self.gathered)) c.self.invariant.0
          (ap (λ (g : Grouping). g.held) groups) (c.pass.ensures.branches
          ∙ ap (λ (k : Side). after_all 52 k.branches (take (828 * laid.result) (drop 156 laid.new.self.gathered)))
          (laid.ensures.side) ∙ ap (λ (k : Side). after_all 52 k.branches (take (828 * laid.result)
          (drop 156 laid.new.self.gathered))) c.take_marks.ensures.rest)
          c.is_blank-blank.ensures.0 c.counted-zeros.ensures.none c.counted-zeros.ensures.more
          (λ t. let i = c.is_over-self-inside.ensures.0 t in
          let lowest = c.is_lowest-lowest.ensures.0 i.1 in (
            lowest,
            ap (λ (g : Grouping). g.precoder_bits) groups
                ∙ c.take_marks.ensures.lowest c.requires.some (c.is_whole-whole.ensures.0 i.0)
                (sym (ap (λ (g : Grouping). g.levels) groups) ∙ lowest),
            i.2,
            c.is_empty-empty.ensures.0 i.3,
          )),
      c.counted-zeros.ensures.most,
    )

pub returns : goal.returns
returns c = λ run d e.
    let old = c.self.inside.side in
    let here : Holds old run = subst (λ (k : Side). Holds k run) (sym c.self.view_is) d in
    let laid = c.lay_out-count in
    let held = c.take_marks.ensures.grouped run (bytes_in run) (grouped_none old.groups run here.levels here.none) e in
    subst (λ n. IsFurther c.pass.new.self n run (run ++ shown_run (symbols_in c.args.segments.now)))
    (laid.ensures.count ∙ c.take_marks.ensures.held) (grind (arith, further_held, flat, held_passed))
