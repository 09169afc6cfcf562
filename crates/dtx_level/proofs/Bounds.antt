-- What symbols become is a signed byte.
use Rattle.std.proofs.Common.{◌≡◌, ◌≤◌, ℤ, nat_abs, arith, to_z, of_z, w8}
use Rattle.std.proofs.lemmas.Int.{clamps, ints}
use Rattle.dtx_level.specs.Levelled.{By, level, levelled_symbol}

pub level_small : (by : By) (x : ℤ) → nat_abs (level by x) ≤ 127
unfolding levelled_symbol
level_small by x = grind (arith, ints, clamps)

pub same_byte : (z : ℤ) → nat_abs z ≤ 127 → to_z w8 (of_z w8 z) ≡ z
same_byte z l = omega (arith, ints, l)
