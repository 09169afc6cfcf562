-- The level of a symbol at a scale, as it is computed.
use Rattle.std.proofs.Common.{◌≡◌, ℕ, pos, ◌+◌, ◌*◌, ◌-◌, ◌/◌, ◌<◌, ◌≤◌, ◌-ℤ◌, min, arith}
use Rattle.std.proofs.lemmas.Bool.{cases_lt}
use Rattle.std.proofs.lemmas.Int.{ints}
use Rattle.std.proofs.Math.Nat.{div-lt_iff_lt-mul}
use Rattle.dtx_acquire.specs.Acquired.{scaled_level}

few_steps : (x c : ℕ) → 0 < c → x ≤ 8 * c → x / (2 * c) < 8
few_steps x c l m = (div-lt_iff_lt-mul {k = 2 * c} {x = x} {y = 8} (omega arith)).1 (omega arith)

pub level_is : (scale n : ℕ) → 0 < scale → n < 256
    → min ((n + 8 * scale - 128) / (2 * scale)) 7 ≡ scaled_level scale (pos n -ℤ pos 128)
unfolding scaled_level
level_is scale n l m = grind (arith, cases_lt, ints, few_steps)
