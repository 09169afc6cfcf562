use Rattle.std.proofs.Common.{◌≡◌, ◌+◌, ◌/◌, ◌<◌, pos, get_or, sym, ap, ◌∙◌, arith, to_z, of_z, w8}
use Rattle.std.proofs.lemmas.Int.{to_z-of_z}
use Rattle.dtx_slice.specs.Slicing.{sliced}
use Rattle.dtx_frame.specs.Segments.{pn63}
use Rattle.dtx_frame.specs.Detection.{opposite}
use Rattle.dtx_frame.proofs.AlikeLemmas.{table_sign}
use Rattle.dtx_frame.proofs.CountsLemmas.{same_is, other_is}
use Rattle.dtx_frame.proofs.detection.opposite.Goals as goal

pub returns-then-level-clause-opposite : goal.returns-then-level-clause-opposite
unfolding opposite
returns-then-level-clause-opposite c =
    let l : 578 + c.args.i < 832 = omega (arith, c.requires) in
    let e : to_z w8 (of_z w8 (get_or c.args.segment.now (578 + c.args.i) (pos 0)))
    ≡ get_or c.args.segment.now (578 + c.args.i) (pos 0) = grind (arith, to_z-of_z) in
    sym (same_is (sliced (get_or c.args.segment.now (578 + c.args.i) (pos 0)) / 4) (get_or pn63 c.args.i 0)
    (ap (λ x. x / 4) (sym (c.level.ensures.level ∙ ap sliced e)) ∙ c.if-level.true
    ∙ ap (λ x. x / 4) c.level-2.ensures.level ∙ table_sign c.args.i (omega (arith, c.requires))))

pub returns-else-level-clause-opposite : goal.returns-else-level-clause-opposite
unfolding opposite
returns-else-level-clause-opposite c =
    let l : 578 + c.args.i < 832 = omega (arith, c.requires) in
    let e : to_z w8 (of_z w8 (get_or c.args.segment.now (578 + c.args.i) (pos 0)))
    ≡ get_or c.args.segment.now (578 + c.args.i) (pos 0) = grind (arith, to_z-of_z) in
    sym (other_is (sliced (get_or c.args.segment.now (578 + c.args.i) (pos 0)) / 4) (get_or pn63 c.args.i 0)
    (λ q. c.if-level.false (ap (λ x. x / 4) (c.level.ensures.level ∙ ap sliced e) ∙ q
    ∙ sym (ap (λ x. x / 4) c.level-2.ensures.level ∙ table_sign c.args.i (omega (arith, c.requires))))))
