-- The symbol below the limit, as it is computed.
use Rattle.std.proofs.Common.{◌≡◌, ℕ, ℤ, pos, ◌*◌, ◌≤◌, ◌+ℤ◌, ◌-ℤ◌, ◌*ℤ◌, ◌≤ℤ◌, false, to_z, w8, arith, rules}
use Rattle.std.specs.Prelude.{int_lt}
use mir.Val.{SFits}
use Rattle.std.proofs.lemmas.Int.{ints, to_z-of_z}
use Rattle.dtx_soft.specs.Trace.{limit_of, nearer_symbol}
use Rattle.dtx_soft.proofs.WrapsLemmas.{read}
use Rattle.dtx_soft.proofs.trace.nearer.Goals as goal

limit_fits : (limit : ℤ) (scale : ℕ) → scale ≤ 18 → pos 0 ≤ℤ (limit +ℤ pos (3 * scale)) → limit ≤ℤ pos (3 * scale)
    → SFits w8 limit
limit_fits limit scale l from to = omega (arith, ints)

lowered : (limit : ℤ) (scale : ℕ) → scale ≤ 18 → pos 0 ≤ℤ (limit +ℤ pos (3 * scale)) → limit ≤ℤ pos (3 * scale)
    → read w8 (read w8 limit -ℤ read w8 (pos 4 *ℤ to_z w8 scale)) ≡ limit -ℤ pos (4 * scale)
lowered limit scale l from to = search rules

lower : (limit symbol : ℤ) (scale q1 pair : ℕ) → limit ≡ limit_of scale q1 pair → int_lt limit symbol ≡ false
    → limit -ℤ pos (4 * scale) ≡ nearer_symbol scale symbol q1 pair
lower limit symbol scale q1 pair e l = grind arith

below_from : (limit : ℤ) (scale : ℕ) → scale ≤ 18 → pos 0 ≤ℤ (limit +ℤ pos (3 * scale))
    → pos 0 ≤ℤ ((limit -ℤ pos (4 * scale)) +ℤ pos 126)
below_from limit scale l from = omega (arith, ints)

below_to : (limit : ℤ) (scale : ℕ) → limit ≤ℤ pos (3 * scale) → (limit -ℤ pos (4 * scale)) ≤ℤ pos 126
below_to limit scale to = omega (arith, ints)

pub returns-else-symbol-limit : goal.returns-else-symbol-limit
returns-else-symbol-limit c = grind (arith, limit_fits, lowered, lower, to_z-of_z, read, below_from, below_to)
