-- How far a symbol is below the greatest one, and what is the same of a level's weight at each symbol.
use Rattle.std.proofs.Common.{◌≡◌, ◌≢◌, ℕ, ℤ, pos, ◌≤◌, ◌-ℤ◌, nat_abs, w8, arith}
use mir.Syntax.{w16}
use mir.Val.{SFits}
use Rattle.std.proofs.lemmas.Int.{ints, to_z-of_z}
use Rattle.std.proofs.lemmas.Bool.Decides.{nat_tests}
use Rattle.dtx_soft.proofs.WrapsLemmas.{difference_read, read}
use Rattle.dtx_pins.specs.Steps.{depth, ground}

pub depth_is : (scale : ℕ) (v : ℤ) → scale ≢ 0 → SFits w8 v
    → nat_abs (read w16 (pos 127 -ℤ read w16 (read w8 v))) ≡ depth scale v
unfolding depth
depth_is scale v n f = grind (arith, read, difference_read, to_z-of_z, ints, nat_tests)

pub ground_small : (scale z : ℕ) → ground scale z ≤ 3584
unfolding ground
ground_small scale z = omega arith
