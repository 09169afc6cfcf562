use Rattle.std.proofs.Common.{◌≡◌, ℕ, List, [], ◌∷◌, get_or, min, refl}
use Rattle.dtx_soft.proofs.WritesLemmas.{four}
use Rattle.dtx_pins.specs.Steps.{cost_at}
use Rattle.dtx_pins.proofs.PinnedStarts.{start_is}
use Rattle.dtx_pins.proofs.start.start_of.Goals as goal

pub returns : goal.returns
returns c pin named =
    start_is pin c.args.x2 c.args.behind.now costs c.least_of-state.result _ named c.requires
    c.least_of-state.ensures.small
    (four (λ s. get_or costs s 0 ≡ min (cost_at c.args.behind.now 0 s) (cost_at c.args.behind.now 1 s))
    c.min.ensures c.min-2.ensures c.min-3.ensures c.min-4.ensures)
    c.least_of-state.ensures.least c.least_of-state.ensures.first c.better-former.ensures refl refl refl
  where
    costs : List ℕ
    costs = c.min.result ∷ c.min-2.result ∷ c.min-3.result ∷ c.min-4.result ∷ []
