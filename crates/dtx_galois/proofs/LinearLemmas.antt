-- Sums by xor, functions that keep them, and what such a function is known by.
use Rattle.std.proofs.Common.{◌≡◌, ℕ, zero, suc, ◌+◌, ◌*◌, ◌/◌, ◌%◌, ◌^◌, ◌<◌, ◌⊎◌, bit_xor, refl, sym, ap, ap₂, ◌∙◌}
use Rattle.std.proofs.Common.{subst, arith, inl, inr, zero-mul, one-mul, pow-suc, add-zero, pow_pos}
use Rattle.std.specs.Int.{bit_at}
use Rattle.std.specs.Int.Bits.{xor_assoc, xor_self, xor_zero_r, xor_shifted, xor_block, xor_lt}
use Rattle.std.proofs.lemmas.Nat.{xor_comm, xor_mod, shr_split, mod_below, div_below}
use Rattle.std.proofs.lemmas.Nat.Bits.{bit_at_xor, bit_at-lt, bit_at_cat_low}
use Rattle.dtx_galois.specs.Field.{product, remainder, mul}

pub xor_swap : (a b c d : ℕ) → bit_xor (bit_xor a b) (bit_xor c d) ≡ bit_xor (bit_xor a c) (bit_xor b d)
xor_swap a b c d =
    rw (xor_assoc a b (bit_xor c d), ← xor_assoc b c d, xor_comm b c, xor_assoc c b d, ← xor_assoc a c (bit_xor b d))

-- a bit is 0 or 1
pub bit_cases : (u : ℕ) → u < 2 → (u ≡ 0) ⊎ (u ≡ 1)
bit_cases zero h = inl refl
bit_cases (suc zero) h = inr refl
bit_cases (suc (suc u)) h = absurd (omega arith)

pub zero_times : (c : ℕ) → bit_xor (0 * c) (0 * c) ≡ 0
zero_times c = rw zero-mul refl

scale_cases : (u v c : ℕ) → (u ≡ 0) ⊎ (u ≡ 1) → (v ≡ 0) ⊎ (v ≡ 1) → ((u + v) % 2) * c ≡ bit_xor (u * c) (v * c)
scale_cases u v c (inl p) (inl q) = grind (arith, zero-mul, zero_times)
scale_cases u v c (inl p) (inr q) = grind (arith, zero-mul)
scale_cases u v c (inr p) (inl q) = subst (λ (x : ℕ). ((x + v) % 2) * c ≡ bit_xor (x * c) (v * c)) (sym p)
    (subst (λ (y : ℕ). ((1 + y) % 2) * c ≡ bit_xor (1 * c) (y * c)) (sym q) (sym (ap (bit_xor (1 * c)) (zero-mul c)
    ∙ xor_zero_r (1 * c))))
scale_cases u v c (inr p) (inr q) = subst (λ (x : ℕ). ((x + v) % 2) * c ≡ bit_xor (x * c) (v * c)) (sym p)
    (subst (λ (y : ℕ). ((1 + y) % 2) * c ≡ bit_xor (1 * c) (y * c)) (sym q) (zero-mul c ∙ sym (xor_self (1 * c))))

-- the bit of a sum, times c
pub bit_of_sum : (a b i c : ℕ) → bit_at (bit_xor a b) i * c ≡ bit_xor (bit_at a i * c) (bit_at b i * c)
bit_of_sum a b i c = grind (arith, bit_at_xor, scale_cases, bit_cases, bit_at-lt)

pub shift_of_sum : (b c n : ℕ) → bit_xor b c * 2 ^ n ≡ bit_xor (b * 2 ^ n) (c * 2 ^ n)
shift_of_sum b c n = sym (add-zero (bit_xor b c * 2 ^ n)) ∙ sym (xor_block n b c 0 0 (pow_pos n) (pow_pos n))
    ∙ ap₂ bit_xor (add-zero (b * 2 ^ n)) (add-zero (c * 2 ^ n))

times_cases : (u x y : ℕ) → (u ≡ 0) ⊎ (u ≡ 1) → u * bit_xor x y ≡ bit_xor (u * x) (u * y)
times_cases u x y (inl p) = grind (arith, zero-mul)
times_cases u x y (inr p) = grind (arith, one-mul)

pub product_left : (n a c b : ℕ) → product n (bit_xor a c) b ≡ bit_xor (product n a b) (product n c b)
unfolding product
product_left zero a c b = refl
product_left (suc n) a c b = ap₂ bit_xor (bit_of_sum a c n (b * 2 ^ n)) (product_left n a c b)
    ∙ xor_swap (bit_at a n * (b * 2 ^ n)) (bit_at c n * (b * 2 ^ n)) (product n a b) (product n c b)

pub product_right : (n a b c : ℕ) → product n a (bit_xor b c) ≡ bit_xor (product n a b) (product n a c)
unfolding product
product_right zero a b c = refl
product_right (suc n) a b c = ap₂ bit_xor (ap (λ (x : ℕ). bit_at a n * x) (shift_of_sum b c n)
    ∙ times_cases (bit_at a n) (b * 2 ^ n) (c * 2 ^ n) (bit_cases (bit_at a n) (bit_at-lt a n))) (product_right n a b c)
    ∙ xor_swap (bit_at a n * (b * 2 ^ n)) (bit_at a n * (c * 2 ^ n)) (product n a b) (product n a c)

pub remainder_sum : (d g n p q : ℕ) → remainder d g n (bit_xor p q) ≡ bit_xor (remainder d g n p) (remainder d g n q)
unfolding remainder
remainder_sum d g zero p q = refl
remainder_sum d g (suc n) p q = ap (remainder d g n) (grind (arith, bit_of_sum, xor_swap))
    ∙ remainder_sum d g n (bit_xor p (bit_at p (d + n) * (g * 2 ^ n))) (bit_xor q (bit_at q (d + n) * (g * 2 ^ n)))

pub mul_left : (a c b : ℕ) → mul (bit_xor a c) b ≡ bit_xor (mul a b) (mul c b)
unfolding mul
mul_left a c b = grind (arith, product_left, remainder_sum)

pub mul_right : (a b c : ℕ) → mul a (bit_xor b c) ≡ bit_xor (mul a b) (mul a c)
unfolding mul
mul_right a b c = simp (xor_mod, product_right, remainder_sum)

-- only the low eight bits count
bit_low : (a i : ℕ) → i < 8 → bit_at a i ≡ bit_at (a % 256) i
bit_low a i l = ap (λ (x : ℕ). bit_at x i) (sym (shr_split a 8)) ∙ bit_at_cat_low (a / 256) 8 (a % 256) i l

-- a product of n terms is known by the n low bits
pub product_same : (n a c b : ℕ) → ((i : ℕ) → i < n → bit_at a i ≡ bit_at c i) → product n a b ≡ product n c b
unfolding product
product_same zero a c b h = refl
product_same (suc n) a c b h =
    ap₂ (λ (x y : ℕ). bit_xor (x * (b * 2 ^ n)) y) (h n (omega arith)) (product_same n a c b (λ i l. h i (omega arith)))

mod_mod : (b : ℕ) → b % 256 ≡ b % 256 % 256
mod_mod b = omega arith

pub mul_low : (a b : ℕ) → mul a b ≡ mul (a % 256) (b % 256)
unfolding mul
mul_low a b = grind (arith, product_same, bit_low, mod_mod)

-- a function that keeps sums
pub record KeepsSums (f : ℕ → ℕ) : Type 0 where
  pub sums : (a b : ℕ) → f (bit_xor a b) ≡ bit_xor (f a) (f b)

pub at_zero : (f : ℕ → ℕ) → KeepsSums f → f 0 ≡ 0
at_zero f k = (k.sums 0 0) ∙ xor_self (f 0)

split_high : (n a : ℕ) → a ≡ bit_xor (a / 2 ^ n * 2 ^ n) (a % 2 ^ n)
split_high n a = sym (shr_split a n) ∙ sym (xor_shifted (a / 2 ^ n) n (a % 2 ^ n) (mod_below a (2 ^ n) (pow_pos n)))

same_high : (f h : ℕ → ℕ) → KeepsSums f → KeepsSums h → (n u : ℕ) → f (2 ^ n) ≡ h (2 ^ n) → (u ≡ 0) ⊎ (u ≡ 1)
    → f (u * 2 ^ n) ≡ h (u * 2 ^ n)
same_high f h kf kh n u e (inl p) = grind (arith, zero-mul, at_zero)
same_high f h kf kh n u e (inr p) = grind (arith, one-mul)

-- two such functions that agree at the powers of 2 agree
pub same_sums : (f h : ℕ → ℕ) → KeepsSums f → KeepsSums h → (n : ℕ) → ((i : ℕ) → i < n → f (2 ^ i) ≡ h (2 ^ i))
    → (a : ℕ) → a < 2 ^ n → f a ≡ h a
same_sums f h kf kh zero e a l = ap f (omega arith) ∙ at_zero f kf ∙ sym (at_zero h kh) ∙ ap h (omega arith)
same_sums f h kf kh (suc n) e a l = ap f (split_high n a) ∙ kf.sums (a / 2 ^ n * 2 ^ n) (a % 2 ^ n) ∙ ap₂ bit_xor
    (same_high f h kf kh n (a / 2 ^ n) (e n (omega arith)) (bit_cases (a / 2 ^ n) (grind (arith, div_below, pow-suc))))
    (same_sums f h kf kh n (λ i k. e i (omega arith)) (a % 2 ^ n) (mod_below a (2 ^ n) (pow_pos n)))
    ∙ sym (kh.sums (a / 2 ^ n * 2 ^ n) (a % 2 ^ n)) ∙ ap h (sym (split_high n a))

small_high : (f : ℕ → ℕ) → KeepsSums f → (m n u : ℕ) → f (2 ^ n) < 2 ^ m → (u ≡ 0) ⊎ (u ≡ 1) → f (u * 2 ^ n) < 2 ^ m
small_high f k m n u e (inl p) = grind (arith, zero-mul, at_zero)
small_high f k m n u e (inr p) = subst (λ (x : ℕ). f x < 2 ^ m) (sym (ap (λ (x : ℕ). x * 2 ^ n) p ∙ one-mul (2 ^ n))) e

-- such a function is below 2 ^ m where it is at the powers of 2
pub small_sums : (f : ℕ → ℕ) → KeepsSums f → (m n : ℕ) → ((i : ℕ) → i < n → f (2 ^ i) < 2 ^ m) → (a : ℕ) → a < 2 ^ n
    → f a < 2 ^ m
small_sums f k m zero e a l =
    subst (λ (x : ℕ). f x < 2 ^ m) (omega arith) (subst (λ (x : ℕ). x < 2 ^ m) (sym (at_zero f k)) (pow_pos m))
small_sums f k m (suc n) e a l =
    let top : a / 2 ^ n < 2 = div_below a (2 ^ n) 2 (pow_pos n) (grind (arith, pow-suc)) in
    subst (λ (x : ℕ). x < 2 ^ m) (sym (grind (arith, split_high))) (xor_lt m (f (a / 2 ^ n * 2 ^ n)) (f (a % 2 ^ n))
    (small_high f k m n (a / 2 ^ n) (e n (omega arith)) (bit_cases (a / 2 ^ n) top))
    (small_sums f k m n (λ i h. e i (omega arith)) (a % 2 ^ n) (mod_below a (2 ^ n) (pow_pos n))))
