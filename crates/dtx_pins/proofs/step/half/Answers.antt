use Rattle.std.proofs.Common.{◌≡◌, ◌+◌, ◌/◌, min, [], ◌∷◌, get_or}
use Rattle.dtx_soft.specs.Paths.{next_state}
use Rattle.dtx_soft.proofs.WritesLemmas.{four}
use Rattle.dtx_pins.specs.Steps.{level_by}
use Rattle.dtx_pins.proofs.step.half.Goals as goal

pub returns : goal.returns
unfolding next_state
returns c =
    four (λ s. get_or (c.lesser.result ∷ c.lesser-2.result ∷ c.lesser-3.result ∷ c.lesser-4.result ∷ []) s 0
    ≡ min (get_or c.args.sums.now (next_state s (level_by s 0)) 0 + get_or c.args.fares.now (s / 2) 0)
    (get_or c.args.sums.now (next_state s (level_by s 1)) 0 + get_or c.args.fares.now (2 + s / 2) 0))
    c.lesser.ensures c.lesser-2.ensures c.lesser-3.ensures c.lesser-4.ensures
