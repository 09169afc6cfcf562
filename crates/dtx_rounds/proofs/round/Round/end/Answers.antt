use Rattle.std.proofs.Common.{sym, subst}
use Rattle.dtx_rounds.specs.RunField.{IsRounded}
use Rattle.dtx_rounds.proofs.HeldFields.{held_last}
use Rattle.dtx_rounds.proofs.round.Round.end.Goals as goal

pub returns-clause-rounded : goal.returns-clause-rounded
returns-clause-rounded c = λ heard given before f long stays some most h.
    subst (IsRounded c.args.means.now.decoder heard given f) (sym c.swap.ensures.y_after)
    (held_last c.args.means.now.decoder f heard given before c.args.self.now.held c.clear.new.self c.turn.new.held
    c.turn.new.next long stays some most h c.clear.ensures.count c.turn.ensures.long c.turn.ensures.turned)
