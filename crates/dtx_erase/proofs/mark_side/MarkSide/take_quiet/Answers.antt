use Rattle.std.proofs.Common.{sym, subst, arith}
use Rattle.dtx_erase.specs.Sides.{Side, Holds, IsQuiet}
use Rattle.dtx_erase.proofs.Quiet.{known_quiet, quiet_further, quiet_still}
use Rattle.dtx_erase.proofs.mark_side.MarkSide.take_quiet.Goals as goal

pub invariant_of-self : goal.invariant_of-self
invariant_of-self c = (
  known_quiet c.move_on.new.self c.self.inside.quiet (quiet_still c.self.inside.side c.move_on.new.self _
      (subst IsQuiet (sym c.self.view_is) c.requires.quiet) c.move_on.ensures) c.known.ensures,
  omega arith,
)

pub returns : goal.returns
returns c = λ run xs z l d e.
    quiet_further c.self.inside.side c.move_on.new.self _ c.args.place run xs
    (subst IsQuiet (sym c.self.view_is) c.requires.quiet) z (subst (λ (k : Side). Holds k run) (sym c.self.view_is) d) e
    (omega (arith, l, c.requires.place)) (omega (arith, l, c.requires.most)) (omega (arith, l)) c.move_on.ensures
