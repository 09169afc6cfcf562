-- The remainder by long division is a remainder.
use Rattle.std.proofs.Common.{◌≡◌, ℕ, zero, suc, ◌+◌, ◌*◌, ◌/◌, ◌%◌, ◌^◌, ◌<◌, ◌⊎◌, bit_xor, sym, ap, ◌∙◌, subst, arith}
use Rattle.std.proofs.Common.{inl, inr, zero-mul, one-mul, pow_pos, pow-suc, add-zero, pow-add}
use Rattle.std.specs.Int.{bit_at}
use Rattle.std.specs.Int.Bits.{xor_assoc, xor_comm, xor_self, xor_zero_r, xor_lt, xor_block}
use Rattle.std.proofs.lemmas.Nat.{shr_split, mod_below, div_below, shl_below, div-mul-add}
use Rattle.std.proofs.lemmas.Nat.Bits.{bit_at-lt, bit_at_cat_low}
use Rattle.std.proofs.Math.Nat.{mod-eq_of_lt}
use Rattle.dtx_galois.specs.Field.{product, remainder}
use Rattle.dtx_galois.proofs.LinearLemmas.{bit_cases, product_same}

-- a polynomial whose term at d + n is cleared, of two with the same bit there
same_top : (k u r s : ℕ) → r < 2 ^ k → s < 2 ^ k → bit_xor (u * 2 ^ k + r) (u * 2 ^ k + s) < 2 ^ k
same_top k u r s hr hs = subst (λ (x : ℕ). x < 2 ^ k) (sym
    (rw (xor_block k u u r s hr hs, xor_self u, zero-mul (2 ^ k), zero_add (bit_xor r s)))) (xor_lt k r s hr hs)
  where
    zero_add : (x : ℕ) → 0 + x ≡ x
    zero_add x = omega arith

top_bit : (k p : ℕ) → p < 2 ^ suc k → bit_at p k ≡ p / 2 ^ k
top_bit k p l = grind (arith, mod-eq_of_lt, div_below, pow-suc)

shifted : (d low n u : ℕ) → u * ((2 ^ d + low) * 2 ^ n) ≡ u * 2 ^ (d + n) + u * (low * 2 ^ n)
shifted d low n u = rw pow-add (grind arith)

small_times : (k u x : ℕ) → (u ≡ 0) ⊎ (u ≡ 1) → x < 2 ^ k → u * x < 2 ^ k
small_times k u x (inl e) l = grind (arith, zero-mul)
small_times k u x (inr e) l = grind (arith, one-mul)

-- a step of the division leaves a polynomial of lower degree
clear_top : (d low n p : ℕ) → low < 2 ^ d → p < 2 ^ suc (d + n)
    → bit_xor p (bit_at p (d + n) * ((2 ^ d + low) * 2 ^ n)) < 2 ^ (d + n)
clear_top d low n p hl hp =
    subst (λ (u : ℕ). bit_xor p (u * ((2 ^ d + low) * 2 ^ n)) < 2 ^ (d + n)) (sym (top_bit (d + n) p hp))
    (grind (arith, shifted, shr_split, same_top, mod_below, small_times, bit_cases, bit_at-lt, shl_below))

-- the remainder has a lower degree than the divisor
pub remainder_small : (d low n p : ℕ) → low < 2 ^ d → p < 2 ^ (d + n) → remainder d (2 ^ d + low) n p < 2 ^ d
unfolding remainder
remainder_small d low zero p hl hp = subst (λ (k : ℕ). p < 2 ^ k) (add-zero d) hp
remainder_small d low (suc n) p hl hp = remainder_small d low n _ hl (clear_top d low n p hl (grind (arith, d_suc)))
  where
    d_suc : (d n : ℕ) → d + suc n ≡ suc (d + n)
    d_suc d n = omega arith

-- ---- what was divided is a multiple of the divisor and the remainder

xor_twice : (p x : ℕ) → bit_xor x (bit_xor p x) ≡ p
xor_twice p x = rw (xor_comm p x, ← xor_assoc x x p, xor_self x, xor_comm 0 p, xor_zero_r p)

top_of : (n u r : ℕ) → u < 2 → r < 2 ^ n → bit_at (u * 2 ^ n + r) n ≡ u
top_of n u r hu hr = ap (λ (x : ℕ). x % 2) (div-mul-add u (2 ^ n) r hr) ∙ mod-eq_of_lt hu

-- one term more of the quotient
product_term : (n u q g : ℕ) → u < 2 → q < 2 ^ n
    → product (suc n) (u * 2 ^ n + q) g ≡ bit_xor (u * (g * 2 ^ n)) (product n q g)
unfolding product
product_term n u q g hu hq = grind (arith, top_of, product_same, bit_at_cat_low)

quotient_below : (n u q : ℕ) → u < 2 → q < 2 ^ n → u * 2 ^ n + q < 2 ^ suc n
quotient_below n u q hu hq = grind (arith, bit_cases, pow-suc, zero-mul, one-mul)

pub remainder_multiple : (d g n p : ℕ) → (q : ℕ) × (q < 2 ^ n) × (p ≡ bit_xor (product n q g) (remainder d g n p))
unfolding product remainder
remainder_multiple d g zero p = (0, pow_pos 0, sym (xor_zero_r p) ∙ xor_comm p 0)
remainder_multiple d g (suc n) p = one_more (remainder_multiple d g n (bit_xor p (bit_at p (d + n) * (g * 2 ^ n))))
  where
    one_more : (q : ℕ) × (q < 2 ^ n)
        × (bit_xor p (bit_at p (d + n) * (g * 2 ^ n)) ≡ bit_xor (product n q g) (remainder d g (suc n) p))
        → (q : ℕ) × (q < 2 ^ suc n) × (p ≡ bit_xor (product (suc n) q g) (remainder d g (suc n) p))
    one_more (q, l, e) = (
      bit_at p (d + n) * 2 ^ n + q,
      quotient_below n (bit_at p (d + n)) q (bit_at-lt p (d + n)) l,
      sym (xor_twice p (bit_at p (d + n) * (g * 2 ^ n))) ∙ ap (bit_xor (bit_at p (d + n) * (g * 2 ^ n))) e
          ∙ sym (xor_assoc (bit_at p (d + n) * (g * 2 ^ n)) (product n q g) (remainder d g (suc n) p))
          ∙ ap (λ (x : ℕ). bit_xor x (remainder d g (suc n) p))
          (sym (product_term n (bit_at p (d + n)) q g (bit_at-lt p (d + n)) l)),
    )
