use Rattle.std.proofs.Common.{◌≡◌, ℕ, ◌*◌, ◌<◌, nat_eq, arith}
use mir.Val.{bool_byte}
use mathlib.Core.Bool.{not}
use Rattle.std.proofs.lemmas.Bool.{eqb-true, eqb-false}
use Rattle.std.proofs.lemmas.Nat.Bits.{and_pow, bit_at-lt}
use Rattle.dtx_soft.proofs.trace.pair.Goals as goal

-- a bit of some weight is 1 where it isn't nothing
bit_is : (x weight bit : ℕ) → x ≡ bit * weight → 0 < weight → bit < 2 → bool_byte (not (nat_eq x 0)) ≡ bit
bit_is x weight bit e l m = grind (arith, not, eqb-true, eqb-false)

pub returns-clause-pair : goal.returns-clause-pair
returns-clause-pair c = grind (arith, bit_is, and_pow, bit_at-lt)
