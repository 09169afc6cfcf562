use Rattle.std.proofs.Common.{◌≡◌, ◌+◌, ◌*◌, [], ◌∷◌, pos, ◌-ℤ◌}
use Rattle.dtx_pins.specs.Steps.{cost_at}
use Rattle.dtx_pins.specs.Told.{less_by}
use Rattle.dtx_pins.proofs.ToldLanes.{eight}
use Rattle.dtx_pins.proofs.told.coder_sums.Goals as goal

pub returns : goal.returns
returns c =
    eight (λ p a b. pos (cost_at ((c.sum_by.result ∷ c.sum_by-2.result ∷ c.sum_by-3.result ∷ c.sum_by-4.result ∷ [])
    ∷ (c.sum_by-5.result ∷ c.sum_by-6.result ∷ c.sum_by-7.result ∷ c.sum_by-8.result ∷ []) ∷ []) p (2 * a + b))
    ≡ (pos 1_000_000_000 -ℤ less_by p a b c.args.more)) c.sum_by.ensures c.sum_by-2.ensures c.sum_by-3.ensures
    c.sum_by-4.ensures c.sum_by-5.ensures c.sum_by-6.ensures c.sum_by-7.ensures c.sum_by-8.ensures
