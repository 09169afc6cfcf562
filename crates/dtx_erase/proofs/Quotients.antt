-- The product over the suspect places and its quotients: each is the product over the others.
use Rattle.std.proofs.Common.{◌≡◌, ℕ, zero, suc, ◌+◌, ◌-◌, ◌<◌, ◌≤◌, Bool, true, List, [], ◌∷◌, length, get_or, bit_xor}
use Rattle.std.proofs.Common.{refl, sym, ap, ap₂, ◌∙◌, arith, add-one}
use Rattle.std.specs.Int.Bits.{xor_self, xor_zero_r, xor_comm, xor_assoc, xor_lt}
use Rattle.dtx_galois.specs.Field.{mul, pow}
use Rattle.dtx_galois.proofs.LinearLemmas.{mul_right, xor_swap}
use Rattle.dtx_galois.proofs.FieldLemmas.{mul_comm, mul_assoc, mul_one, mul_zero, mul_small, mul_swap, pow_small}
use Rattle.dtx_laws.specs.Locator.{others, weight, without, error_at, combination, low_value, power_at}
use Rattle.dtx_laws.proofs.OthersLemmas.{weight_small}
use Rattle.dtx_laws.proofs.PairsLemmas.{without_is}
use Rattle.dtx_fast.proofs.QuotientLemmas.{combination_turned, turned_small}
use Rattle.dtx_fast.specs.Recurrence.{discrepancy, moved, connection, quotient, turned, error_value}
use Rattle.dtx_fast.proofs.RecurrenceLemmas.{discrepancy_mended, discrepancy_moved, discrepancy_longer}
use Rattle.dtx_fast.proofs.RecurrenceLemmas.{same_coefficients}
use Rattle.dtx_erase.proofs.Marked.{others_with, length_with}

-- ---- products

product_small : (ys : List ℕ) (k : ℕ) → connection ys k < 256
unfolding connection
product_small [] zero = omega arith
product_small [] (suc k) = omega arith
product_small (y ∷ ys) k = xor_lt 8 (connection ys k) (mul y (moved 1 (connection ys) k)) (product_small ys k)
    (mul_small y (moved 1 (connection ys) k))

product_end : (ys : List ℕ) (k : ℕ) → length ys < k → connection ys k ≡ 0
unfolding connection moved
product_end ys zero l = absurd (omega arith)
product_end [] (suc k) l = refl
product_end (y ∷ ys) (suc k) l =
    ap₂ bit_xor (product_end ys (suc k) (omega arith)) (ap (mul y) (product_end ys k (omega arith)) ∙ mul_zero y)

-- one more factor
pub product_more : (y l : ℕ) (ys old new : List ℕ) → l ≡ length ys → ((k : ℕ) → get_or old k 0 ≡ connection ys k)
    → get_or new 0 0 ≡ get_or old 0 0
    → ((k : ℕ) → k ≤ l → get_or new (k + 1) 0 ≡ bit_xor (get_or old (k + 1) 0) (mul y (get_or old k 0)))
    → ((k : ℕ) → l < k → get_or new (k + 1) 0 ≡ get_or old (k + 1) 0) → (k : ℕ) → get_or new k 0 ≡ connection (y ∷ ys) k
unfolding connection moved
product_more y l ys old new e h f g b zero =
    f ∙ h 0 ∙ sym (ap (bit_xor (connection ys 0)) (mul_zero y) ∙ xor_zero_r (connection ys 0))
product_more y l ys old new e h f g b (suc k) = grind (arith, add-one, product_end, mul_zero)

-- ---- the order of the factors is free

product_swapped : (a b : ℕ) (zs : List ℕ) (k : ℕ) → connection (a ∷ b ∷ zs) k ≡ connection (b ∷ a ∷ zs) k
unfolding connection moved
product_swapped a b zs zero =
    ap₂ (λ (u v : ℕ). bit_xor (bit_xor (connection zs 0) u) v) (mul_zero b ∙ sym (mul_zero a)) (mul_zero a
    ∙ sym (mul_zero b))
product_swapped a b zs (suc k) = grind (arith, mul_right, xor_swap, mul_swap)

product_behind : (y : ℕ) (zs ws : List ℕ) → ((k : ℕ) → connection zs k ≡ connection ws k)
    → (k : ℕ) → connection (y ∷ zs) k ≡ connection (y ∷ ws) k
unfolding connection moved
product_behind y zs ws h zero = ap (λ (z : ℕ). bit_xor z (mul y 0)) (h 0)
product_behind y zs ws h (suc k) = ap₂ (λ (u v : ℕ). bit_xor u (mul y v)) (h (suc k)) (h k)

-- a marked place's factor is one of them
product_with : (n p : ℕ) (mark : ℕ → Bool) → p < n → mark p ≡ true
    → (k : ℕ) → connection (others n mark n n) k ≡ connection (power_at n p ∷ others n mark p n) k
product_with n p mark m t = others_with (λ ys zs. (k : ℕ) → connection ys k ≡ connection zs k) (λ ys k. refl)
    (λ x y ys zs h k. product_behind y ys (x ∷ zs) h k ∙ product_swapped y x zs k) n p n mark (omega arith) m t

-- ---- quotients

quotient_is : (x : ℕ) (c : ℕ → ℕ) (zs : List ℕ) → ((k : ℕ) → c k ≡ connection (x ∷ zs) k)
    → (k : ℕ) → quotient x c k ≡ connection zs k
unfolding quotient connection moved
quotient_is x c zs h zero = h 0 ∙ ap (bit_xor (connection zs 0)) (mul_zero x) ∙ xor_zero_r (connection zs 0)
quotient_is x c zs h (suc k) = ap₂ bit_xor (rw (quotient_is x c zs h k, mul_comm (connection zs k) x)) (h (suc k))
    ∙ cancelled (mul x (connection zs k)) (connection zs (suc k))
  where
    cancelled : (a b : ℕ) → bit_xor a (bit_xor b a) ≡ b
    cancelled a b = xor_comm a (bit_xor b a) ∙ xor_assoc b a a ∙ ap (bit_xor b) (xor_self a) ∙ xor_zero_r b

-- the combination by a product is the sequence without its powers
product_sum : (ys : List ℕ) (s : ℕ → ℕ) (i : ℕ) → ((j : ℕ) → s j < 256)
    → discrepancy (suc (length ys)) (connection ys) s (i + length ys) ≡ without ys s i
unfolding discrepancy connection without
product_sum [] s i b = grind (arith, mul_one)
product_sum (y ∷ ys) s i b =
    discrepancy_mended (suc (suc (length ys))) y (connection ys) (moved 1 (connection ys)) s (i + suc (length ys))
    ∙ ap₂ (λ (u v : ℕ). bit_xor u (mul y v))
    (ap₂ (λ w j. discrepancy w (connection ys) s j) (one_more (length ys)) (later i (length ys))
    ∙ discrepancy_longer (suc (length ys)) 1 (connection ys) s (suc i + length ys)
    (λ k p q. product_end ys k (omega arith)) ∙ product_sum ys s (suc i) b)
    (ap (λ w. discrepancy w (moved 1 (connection ys)) s (i + suc (length ys))) (one_before (length ys))
    ∙ discrepancy_moved 1 (suc (length ys)) (connection ys) s (i + suc (length ys))
    ∙ ap (discrepancy (suc (length ys)) (connection ys) s) (before i (length ys)) ∙ product_sum ys s i b)
  where
    one_more : (w : ℕ) → suc (suc w) ≡ suc w + 1
    one_more w = omega arith

    one_before : (w : ℕ) → suc (suc w) ≡ 1 + suc w
    one_before w = omega arith

    later : (i w : ℕ) → i + suc w ≡ suc i + w
    later i w = omega arith

    before : (i w : ℕ) → i + suc w - 1 ≡ i + w
    before i w = omega arith

-- a product's value is the weight
combination_powers : (cs : List ℕ) (x i : ℕ) → combination cs (pow x) i ≡ mul (pow x i) (low_value cs x)
unfolding pow
combination_powers [] x i = sym (mul_zero (pow x i))
combination_powers (c ∷ cs) x i = ap₂ bit_xor (mul_comm c (pow x i))
    (combination_powers cs x (suc i) ∙ ap (λ (y : ℕ). mul y (low_value cs x)) (mul_comm x (pow x i))
    ∙ mul_assoc (pow x i) x (low_value cs x)) ∙ sym (mul_right (pow x i) c (mul x (low_value cs x)))

without_powers : (zs : List ℕ) (x : ℕ) → without zs (pow x) 0 ≡ weight x zs
unfolding pow
without_powers zs x = without_is zs (pow x) 0 (suc (0 + length zs)) ((1, x) ∷ [])
    (λ j l. sym (mul_one (pow x j) (pow_small x j)) ∙ sym (xor_zero_r (mul 1 (pow x j)))) (omega arith)
    ∙ xor_zero_r (mul (mul 1 (weight x zs)) 1) ∙ grind (arith, mul_comm, mul_one, mul_small, weight_small)

product_value : (zs : List ℕ) (x : ℕ) → low_value (turned (suc (length zs)) (connection zs)) x ≡ weight x zs
unfolding pow
product_value zs x = sym (grind (arith, mul_one, turned_small, product_small))
    ∙ sym (combination_powers (turned (suc (length zs)) (connection zs)) x 0)
    ∙ combination_turned (length zs) (connection zs) (pow x) 0
    ∙ product_sum zs (pow x) 0 (pow_small x) ∙ without_powers zs x

-- ---- the error's value

turned_same : (w : ℕ) (c d : ℕ → ℕ) → ((k : ℕ) → c k ≡ d k) → turned w c ≡ turned w d
unfolding turned
turned_same zero c d h = refl
turned_same (suc w) c d h = ap₂ ◌∷◌ (h w) (turned_same w c d h)

by_quotient : (x : ℕ) (zs : List ℕ) (c s : ℕ → ℕ) → ((k : ℕ) → c k ≡ connection (x ∷ zs) k) → ((j : ℕ) → s j < 256)
    → error_value (suc (length zs)) c s x ≡ mul (without zs s 0) (pow (weight x zs) 254)
unfolding error_value
by_quotient x zs c s h b = ap₂ (λ (u v : ℕ). mul u (pow v 254))
    (same_coefficients (suc (length zs)) (quotient x c) (connection zs) s (suc (length zs) - 1)
    (λ k l. quotient_is x c zs h k)
    ∙ ap (discrepancy (suc (length zs)) (connection zs) s) (omega arith) ∙ product_sum zs s 0 b)
    (ap (λ cs. low_value cs x) (grind (arith, turned_same, quotient_is)) ∙ product_value zs x)

pub error_by_quotient : (n p l : ℕ) (mark : ℕ → Bool) (c s : ℕ → ℕ) → p < n → mark p ≡ true
    → l ≡ length (others n mark n n) → ((k : ℕ) → c k ≡ connection (others n mark n n) k) → ((j : ℕ) → s j < 256)
    → error_value l c s (power_at n p) ≡ error_at n mark s p
unfolding error_at
error_by_quotient n p l mark c s m t e h b = ap (λ w. error_value w c s (power_at n p)) (e ∙ length_with n p mark m t)
    ∙ by_quotient (power_at n p) (others n mark p n) c s (λ k. h k ∙ product_with n p mark m t k) b
