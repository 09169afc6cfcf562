use Rattle.std.proofs.Common.{◌≡◌, ◌<◌, false, pos, get_or, sym, ap, ◌∙◌, arith, to_z, of_z, w8}
use Rattle.std.proofs.lemmas.Int.{to_z-of_z}
use Rattle.dtx_slice.specs.Slicing.{sliced}
use Rattle.dtx_frame.specs.Segments.{sync_symbols}
use Rattle.dtx_frame.specs.Detection.{differs}
use Rattle.dtx_frame.proofs.AlikeLemmas.{table_level}
use Rattle.dtx_frame.proofs.CountsLemmas.{same_is, other_is}
use Rattle.dtx_frame.proofs.detection.differs.Goals as goal

pub returns-then-level-clause-differs : goal.returns-then-level-clause-differs
unfolding differs
returns-then-level-clause-differs c =
    let l : c.args.i < 832 = omega (arith, c.requires) in
    let e : to_z w8 (of_z w8 (get_or c.args.segment.now c.args.i (pos 0)))
    ≡ get_or c.args.segment.now c.args.i (pos 0) = grind (arith, to_z-of_z) in
    sym (same_is (sliced (get_or c.args.segment.now c.args.i (pos 0)))
    (sliced (get_or (sync_symbols false) c.args.i (pos 0)))
    (sym (c.level.ensures.level ∙ ap sliced e) ∙ c.if-level.true ∙ c.level-2.ensures.level
    ∙ table_level c.args.i (omega (arith, c.requires))))

pub returns-else-level-clause-differs : goal.returns-else-level-clause-differs
unfolding differs
returns-else-level-clause-differs c =
    let l : c.args.i < 832 = omega (arith, c.requires) in
    let e : to_z w8 (of_z w8 (get_or c.args.segment.now c.args.i (pos 0)))
    ≡ get_or c.args.segment.now c.args.i (pos 0) = grind (arith, to_z-of_z) in
    sym (other_is (sliced (get_or c.args.segment.now c.args.i (pos 0)))
    (sliced (get_or (sync_symbols false) c.args.i (pos 0)))
    (λ q. c.if-level.false (c.level.ensures.level ∙ ap sliced e ∙ q
    ∙ sym (c.level-2.ensures.level ∙ table_level c.args.i (omega (arith, c.requires))))))
