-- What is left of the maximum delay and the offset.
use Rattle.std.proofs.Common.{◌≡◌, ℕ, Some, Err, arith}
use Rattle.std.proofs.lemmas.Int.{ints}
use Rattle.std.specs.Prelude.{ℤ, pos, ◌-ℤ◌, ◌<ℤ◌}
use Rattle.dtx_exciter.specs.declared.answers.Why.TheVariants.{Late}
use Rattle.dtx_exciter.specs.Told.{left_of}

pub late_left : (most : ℤ) (delay : ℕ) → most <ℤ pos delay → Err (Some Late) ≡ left_of (most -ℤ pos delay)
late_left most delay l = grind (arith, ints)
