use Rattle.std.proofs.Common.{sym, ap, subst, arith}
use Rattle.dtx_laws.specs.Branches.{Branching, HasWidths, gathering}
use Rattle.dtx_laws.proofs.InterleavingLemmas.{HasWidths-aligned}
use Rattle.dtx_erase.proofs.Stands.{holds_first, side}
use Rattle.dtx_erase.proofs.side.Side.begin.Goals as goal

pub returns : goal.returns
returns c = holds_first c.args.sync.now
    (side c.begin.new.self c.align.new.self c.self.inside.begun c.self.inside.gathered)
    c.begin.ensures.grouped c.begin.ensures.held (subst (HasWidths 52 (gathering 52 4)) (sym c.align.ensures)
    (grind (arith, HasWidths-aligned, c.known.ensures.widths))) (ap (λ (v : Branching). v.next) c.align.ensures)
