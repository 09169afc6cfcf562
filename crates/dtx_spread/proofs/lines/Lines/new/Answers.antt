use Rattle.std.proofs.Common.{[], ◌∷◌, ◌++◌, replicate, sym, subst, ap, ap₂, ◌∙◌, arith}
use Rattle.std.proofs.lemmas.List.{map_push}
use Rattle.std.proofs.lemmas.List.FromFn.{map-range_with_len_more}
use Rattle.dtx_laws.specs.Branches.{HasWidths}
use Rattle.dtx_laws.proofs.InterleavingLemmas.{HasWidths-zeroed}
use Rattle.dtx_spread.specs.Rings.{lists_of}
use Rattle.dtx_spread.proofs.Lent.{zeroed_rings}
use Rattle.dtx_spread.proofs.lines.Lines.new.Goals as goal

pub loop-i-preserved : goal.loop-i-preserved
loop-i-preserved g c =
    ap lists_of c.in_ok-push.ensures.items
    ∙ map_push (λ r. r.items) c.loop-i.rings.items c.in_ok-zeros.field-0
    ∙ ap₂ (λ xs y. xs ++ y ∷ []) c.loop-i.invariant
    (ap (λ r. r.items) c.in_ok-zeros.ensures ∙ ap (λ n. replicate n 0) c.width.ensures)
    ∙ sym (map-range_with_len_more (λ i. replicate (g.W.Widths.widths i) 0) 0 c.loop-i.i c.loop-i.i (omega arith))

pub invariant_of-result : goal.invariant_of-result
invariant_of-result g c = (
  c.requires,
  subst (λ v. HasWidths g.row.B g.W.Widths.widths v)
      (sym (zeroed_rings g.row.B c.loop-i.i g.W.Widths.widths c.loop-i.rings.items (omega arith) c.loop-i.invariant))
      (HasWidths-zeroed g.row.B g.W.Widths.widths (omega (arith, c.requires.some))),
)

pub returns : goal.returns
returns g c =
    zeroed_rings g.row.B c.loop-i.i g.W.Widths.widths c.loop-i.rings.items (omega arith) c.loop-i.invariant
