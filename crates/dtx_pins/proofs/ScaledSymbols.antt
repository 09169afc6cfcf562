-- The symbols of levels, as they are computed.
use Rattle.std.proofs.Common.{◌≡◌, ℕ, zero, suc, ℤ, pos, ◌*◌, ◌<◌, ◌≤◌, ◌+ℤ◌, ◌-ℤ◌, ◌*ℤ◌, ◌≤ℤ◌, FitsSigned, sym}
use Rattle.std.proofs.Common.{ap, ap₂, ◌∙◌, subst, to_z, w8, arith}
use mir.Syntax.{w16}
use mir.Val.{SFits}
use Rattle.std.proofs.lemmas.Int.{ints, to_z-of_z}
use Rattle.dtx_soft.specs.Paths.{symbol_at}
use Rattle.dtx_soft.proofs.WrapsLemmas.{read}

-- the symbol of a level at scale 1
abbrev pub computed : ℕ → ℤ
computed z = read w16 (read w16 (pos 2 *ℤ to_z w16 z) -ℤ pos 7)

-- what is computed of a level of a path
pub record IsScaled (scale z : ℕ) : Type 0 where
  pub fits : FitsSigned w16 (to_z w16 scale *ℤ computed z)
  pub symbol : read w16 (to_z w16 scale *ℤ computed z) ≡ symbol_at scale z
  pub written : read w8 (computed z) ≡ symbol_at 1 z
  pub from : pos 0 ≤ℤ (symbol_at scale z +ℤ pos 126)
  pub to : symbol_at scale z ≤ℤ pos 126

eight : (P : ℕ → Type 0) → P 0 → P 1 → P 2 → P 3 → P 4 → P 5 → P 6 → P 7 → (z : ℕ) → z < 8 → P z
eight P a b c d e f g h zero l = a
eight P a b c d e f g h (suc zero) l = b
eight P a b c d e f g h (suc (suc zero)) l = c
eight P a b c d e f g h (suc (suc (suc zero))) l = d
eight P a b c d e f g h (suc (suc (suc (suc zero)))) l = e
eight P a b c d e f g h (suc (suc (suc (suc (suc zero))))) l = f
eight P a b c d e f g h (suc (suc (suc (suc (suc (suc zero)))))) l = g
eight P a b c d e f g h (suc (suc (suc (suc (suc (suc (suc zero))))))) l = h
eight P a b c d e f g h (suc (suc (suc (suc (suc (suc (suc (suc z)))))))) l = absurd (omega arith)

product : (scale z : ℕ) → z < 8 → pos scale *ℤ (pos (2 * z) -ℤ pos 7) ≡ symbol_at scale z
unfolding symbol_at
product scale = eight (λ z. pos scale *ℤ (pos (2 * z) -ℤ pos 7) ≡ pos (scale * (2 * z)) -ℤ pos (scale * 7))
    (omega (arith, ints)) (omega (arith, ints)) (omega (arith, ints)) (omega (arith, ints)) (omega (arith, ints))
    (omega (arith, ints)) (omega (arith, ints)) (omega (arith, ints))

from_low : (scale z : ℕ) → scale ≤ 18 → pos 0 ≤ℤ (symbol_at scale z +ℤ pos 126)
unfolding symbol_at
from_low scale z l = omega (arith, ints)

to_high : (scale : ℕ) → scale ≤ 18 → (z : ℕ) → z < 8 → symbol_at scale z ≤ℤ pos 126
unfolding symbol_at
to_high scale l =
    eight (λ z. (pos (scale * (2 * z)) -ℤ pos (scale * 7)) ≤ℤ pos 126) (omega (arith, ints)) (omega (arith, ints))
    (omega (arith, ints)) (omega (arith, ints)) (omega (arith, ints)) (omega (arith, ints)) (omega (arith, ints))
    (omega (arith, ints))

computed_is : (z : ℕ) → z < 8 → computed z ≡ pos (2 * z) -ℤ pos 7
computed_is z l = omega (arith, ints)

at_one : (z : ℕ) → z < 8 → read w8 (pos (2 * z) -ℤ pos 7) ≡ symbol_at 1 z
unfolding symbol_at
at_one z l = omega (arith, ints)

wide : (scale : ℕ) → scale ≤ 18 → to_z w16 scale ≡ pos scale
wide scale l = omega (arith, ints)

narrow : (v : ℤ) → pos 0 ≤ℤ (v +ℤ pos 126) → v ≤ℤ pos 126 → SFits w16 v
narrow v l m = omega (arith, ints)

pub is_scaled : (scale z : ℕ) → scale ≤ 18 → z < 8 → IsScaled scale z
is_scaled scale z l m =
    let value : to_z w16 scale *ℤ computed z ≡ symbol_at scale z =
    ap₂ (λ a b. a *ℤ b) (wide scale l) (computed_is z m) ∙ product scale z m in
    let fits : SFits w16 (symbol_at scale z) = narrow (symbol_at scale z) (from_low scale z l) (to_high scale l z m) in
    record {
      fits = subst (SFits w16) (sym value) fits;
      symbol = ap (read w16) value ∙ to_z-of_z w16 (symbol_at scale z) fits;
      written = ap (read w8) (computed_is z m) ∙ at_one z m;
      from = from_low scale z l;
      to = to_high scale l z m;
    }
