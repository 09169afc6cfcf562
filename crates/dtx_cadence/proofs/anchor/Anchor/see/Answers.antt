use Rattle.std.proofs.Common.{Option, [], ◌∷◌, ◌++◌, subst, sym, ◌∙◌}
use Rattle.dtx_cadence.specs.declared.anchor.Lock.{Lock}
use Rattle.dtx_cadence.specs.Anchor.{StandsFor}
use Rattle.dtx_cadence.proofs.NextPlace.{stands_next, seen_next}
use Rattle.dtx_cadence.proofs.anchor.Anchor.see.Goals as goal

pub returns-clause-seen : goal.returns-clause-seen
returns-clause-seen c = λ d h. c.step.ensures.answer ∙ seen_next c.args.self.now d c.args.sync h

pub returns-clause-stands : goal.returns-clause-stands
returns-clause-stands c =
    λ d h. subst (λ (o : Option Lock). StandsFor o (d ++ c.args.sync ∷ [])) (sym c.step.ensures.kept)
    (stands_next c.args.self.now d c.args.sync h)
