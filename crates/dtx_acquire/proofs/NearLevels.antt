-- Symbols that lie near those that were sent: their levels and their signs.
use Rattle.std.proofs.Common.{◌≡◌, ℕ, ℤ, pos, negsuc, zero, suc, ◌+◌, ◌-◌, ◌*◌, ◌/◌, ◌<◌, ◌≤◌, ◌-ℤ◌, ◌*ℤ◌, nat_abs, min}
use Rattle.std.proofs.Common.{true, false, ap, subst, refl, arith}
use Rattle.std.proofs.lemmas.Bool.{lt-ltb}
use Rattle.std.proofs.lemmas.Int.{ints}
use Rattle.std.proofs.lemmas.Nat.{div-mul-add}
use Rattle.dtx_trellis.specs.Trellis.{symbol_of}
use Rattle.dtx_soft.specs.Paths.{symbol_at}
use Rattle.dtx_acquire.specs.Agreement.{is_plus}
use Rattle.dtx_acquire.specs.Acquired.{decided, scaled_level}
use Rattle.dtx_acquire.specs.Sent.{IsNear}

-- scale times the symbol of a level
pub times_symbol : (c z : ℕ) → z < 8 → pos c *ℤ symbol_of z ≡ symbol_at c z
unfolding symbol_of symbol_at
times_symbol c zero l = omega (arith, ints)
times_symbol c (suc zero) l = omega (arith, ints)
times_symbol c (suc (suc zero)) l = omega (arith, ints)
times_symbol c (suc (suc (suc zero))) l = omega (arith, ints)
times_symbol c (suc (suc (suc (suc zero)))) l = omega (arith, ints)
times_symbol c (suc (suc (suc (suc (suc zero))))) l = omega (arith, ints)
times_symbol c (suc (suc (suc (suc (suc (suc zero)))))) l = omega (arith, ints)
times_symbol c (suc (suc (suc (suc (suc (suc (suc zero))))))) l = omega (arith, ints)
times_symbol c (suc (suc (suc (suc (suc (suc (suc (suc z)))))))) l = absurd (omega arith)

-- a quotient by its bounds
quotient : (a w q : ℕ) → q * w ≤ a → a < q * w + w → a / w ≡ q
quotient a w q l m = grind (arith, div-mul-add)

-- the symbol lies between the middles
level_near : (c z : ℕ) (x : ℤ) → z < 8 → nat_abs (x -ℤ symbol_at c z) < c → scaled_level c x ≡ z
unfolding scaled_level symbol_at
level_near c z (pos n) l h =
    let high : 8 * c + n < z * (2 * c) + 2 * c = omega (arith, ints) in
    least ((8 * c + n) / (2 * c)) (quotient (8 * c + n) (2 * c) z (omega (arith, ints)) high)
  where
    least : (y : ℕ) → y ≡ z → min 7 y ≡ z
    least y e = omega arith
level_near c z (negsuc n) l h =
    let low : z * (2 * c) ≤ 8 * c - suc n = omega (arith, ints) in
    let high : 8 * c - suc n < z * (2 * c) + 2 * c = omega (arith, ints) in
    quotient (8 * c - suc n) (2 * c) z low high

pub decided_near : (c z : ℕ) (x : ℤ) → z < 8 → IsNear c (symbol_of z) x → decided c x ≡ symbol_of z
decided_near c z x l h = ap symbol_of (level_near c z x l (subst (λ y. nat_abs (x -ℤ y) < c) (times_symbol c z l) h))

plus_near : (c : ℕ) (x : ℤ) → IsNear c (pos 5) x → is_plus x ≡ true
plus_near c (pos zero) h = absurd (omega (arith, ints))
plus_near c (pos (suc n)) h = lt-ltb zero (suc n) (omega arith)
plus_near c (negsuc n) h = absurd (omega (arith, ints))

minus_near : (c : ℕ) (x : ℤ) → IsNear c (negsuc 4) x → is_plus x ≡ false
minus_near c (pos zero) h = refl
minus_near c (pos (suc n)) h = absurd (omega (arith, ints))
minus_near c (negsuc n) h = refl

-- a symbol of a sync keeps its sign
pub sign_near : (c : ℕ) (sent x : ℤ) → nat_abs sent ≡ 5 → IsNear c sent x → is_plus x ≡ is_plus sent
sign_near c (pos n) x e h = grind (arith, plus_near)
sign_near c (negsuc n) x e h =
    let four : n ≡ 4 = omega arith in
    minus_near c x (subst (λ k. IsNear c (negsuc k) x) four h)
