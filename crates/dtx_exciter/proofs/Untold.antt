-- A transmitter without an entry in force.
use Rattle.std.proofs.Common.{◌≡◌, ℕ, cond, None, List, ◌∷◌, arith}
use Rattle.std.proofs.lemmas.Bool.{cond-true, eq-eqb}
use Rattle.dtx_exciter.specs.declared.answers.Why.TheVariants.{Unlisted}
use Rattle.dtx_exciter.specs.declared.answers.Told.TheVariants.{Quiet, Muted}
use Rattle.dtx_exciter.specs.Order.{Order}
use Rattle.dtx_exciter.specs.Pages.{of_one_cycle, all_pages_told, entry_in_force}
use Rattle.dtx_exciter.specs.Told.{served, told_at}

pub untold : (a d : ℕ) (order : Order) (older : List Order) → entry_in_force a (order ∷ older) ≡ None
    → told_at a d order.place (order ∷ older)
    ≡ cond (all_pages_told (of_one_cycle (order ∷ older))) (Muted Unlisted) Quiet
unfolding served
untold a d order older e = grind (arith, cond-true, eq-eqb)
