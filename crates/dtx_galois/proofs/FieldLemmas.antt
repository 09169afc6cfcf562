-- The laws of the field of 256 elements.
use Rattle.std.proofs.Common.{◌≡◌, ◌≢◌, ℕ, zero, suc, ◌%◌, ◌^◌, ◌<◌, ◌==◌, ◌⊎◌, Bool, true, nat_lt, bit_xor, refl, sym}
use Rattle.std.proofs.Common.{◌+◌, ap, ap₂, ◌∙◌, subst, arith, inr}
use Rattle.std.proofs.lemmas.Bool.{eqb-true, ltb-true}
use Rattle.std.specs.Int.Bits.{xor_assoc, xor_self, xor_zero_r}
use Rattle.std.proofs.lemmas.Nat.{mod_below}
use Rattle.dtx_lists.proofs.Below.{holds_below, at_below}
use Rattle.dtx_galois.specs.Field.{product, remainder, mul, pow}
use Rattle.dtx_galois.proofs.LinearLemmas.{KeepsSums, at_zero, same_sums, mul_left, mul_right, mul_low, small_sums}

pub left_of : (b : ℕ) → KeepsSums (λ a. mul a b)
left_of b = record { sums = λ a c. mul_left a c b }

pub right_of : (a : ℕ) → KeepsSums (λ b. mul a b)
right_of a = record { sums = λ b c. mul_right a b c }

comm_row : ℕ → ℕ → Bool
comm_row i j = mul (2 ^ i) (2 ^ j) == mul (2 ^ j) (2 ^ i)

comm_test : holds_below (λ i. holds_below (comm_row i) 8) 8 ≡ true
unfolding comm_row mul product remainder
comm_test = refl

comm_powers : (i j : ℕ) → i < 8 → j < 8 → mul (2 ^ i) (2 ^ j) ≡ mul (2 ^ j) (2 ^ i)
unfolding comm_row mul
comm_powers i j p q =
    eqb-true _ _ (at_below (comm_row i) 8 j (at_below (λ i. holds_below (comm_row i) 8) 8 i comm_test p) q)

comm_bytes : (a b : ℕ) → a < 256 → b < 256 → mul a b ≡ mul b a
comm_bytes a b p q = same_sums (λ a. mul a b) (λ a. mul b a) (left_of b) (right_of b) 8
    (λ i l. same_sums (λ b. mul (2 ^ i) b) (λ b. mul b (2 ^ i)) (right_of (2 ^ i)) (left_of (2 ^ i)) 8
    (λ j m. comm_powers i j l m) b q) a p

assoc_at : ℕ → ℕ → ℕ → Bool
assoc_at i j k = mul (mul (2 ^ i) (2 ^ j)) (2 ^ k) == mul (2 ^ i) (mul (2 ^ j) (2 ^ k))

assoc_test : holds_below (λ i. holds_below (λ j. holds_below (assoc_at i j) 8) 8) 8 ≡ true
unfolding assoc_at mul product remainder
assoc_test = refl

assoc_powers : (i j k : ℕ) → i < 8 → j < 8 → k < 8
    → mul (mul (2 ^ i) (2 ^ j)) (2 ^ k) ≡ mul (2 ^ i) (mul (2 ^ j) (2 ^ k))
unfolding assoc_at mul
assoc_powers i j k p q r = eqb-true _ _ (at_below (assoc_at i j) 8 k (at_below (λ j. holds_below (assoc_at i j) 8) 8 j
    (at_below (λ i. holds_below (λ j. holds_below (assoc_at i j) 8) 8) 8 i assoc_test p) q) r)

after : (f h : ℕ → ℕ) → KeepsSums f → KeepsSums h → KeepsSums (λ a. f (h a))
after f h kf kh = record { sums = λ a b. ap f (kh.sums a b) ∙ kf.sums (h a) (h b) }

assoc_bytes : (a b c : ℕ) → a < 256 → b < 256 → c < 256 → mul (mul a b) c ≡ mul a (mul b c)
assoc_bytes a b c p q r = same_sums (λ a. mul (mul a b) c) (λ a. mul a (mul b c))
    (after (λ x. mul x c) (λ a. mul a b) (left_of c) (left_of b)) (left_of (mul b c)) 8
    (λ i l. same_sums (λ b. mul (mul (2 ^ i) b) c) (λ b. mul (2 ^ i) (mul b c))
    (after (λ x. mul x c) (λ b. mul (2 ^ i) b) (left_of c) (right_of (2 ^ i)))
    (after (λ x. mul (2 ^ i) x) (λ b. mul b c) (right_of (2 ^ i)) (left_of c)) 8
    (λ j m. same_sums (λ c. mul (mul (2 ^ i) (2 ^ j)) c) (λ c. mul (2 ^ i) (mul (2 ^ j) c))
    (right_of (mul (2 ^ i) (2 ^ j))) (after (λ x. mul (2 ^ i) x) (λ c. mul (2 ^ j) c) (right_of (2 ^ i))
    (right_of (2 ^ j))) 8 (λ k n. assoc_powers i j k l m n) c r) b q) a p

low : (a : ℕ) → a % 256 < 256
low a = mod_below a 256 (omega arith)

pub mul_comm : (a b : ℕ) → mul a b ≡ mul b a
mul_comm a b = mul_low a b ∙ comm_bytes (a % 256) (b % 256) (low a) (low b) ∙ sym (mul_low b a)

small_at : ℕ → ℕ → Bool
small_at i j = nat_lt (mul (2 ^ i) (2 ^ j)) 256

small_test : holds_below (λ i. holds_below (small_at i) 8) 8 ≡ true
unfolding small_at mul product remainder
small_test = refl

small_powers : (i j : ℕ) → i < 8 → j < 8 → mul (2 ^ i) (2 ^ j) < 256
unfolding small_at
small_powers i j p q =
    ltb-true _ _ (at_below (small_at i) 8 j (at_below (λ i. holds_below (small_at i) 8) 8 i small_test p) q)

-- a product is a byte
pub mul_small : (a b : ℕ) → mul a b < 256
mul_small a b = subst (λ (x : ℕ). x < 256) (sym (mul_low a b))
    (small_sums (λ a. mul a (b % 256)) (left_of (b % 256)) 8 8
    (λ i l. small_sums (λ b. mul (2 ^ i) b) (right_of (2 ^ i)) 8 8 (λ j m. small_powers i j l m) (b % 256) (low b))
    (a % 256) (low a))

byte_low : (a : ℕ) → a < 256 → a ≡ a % 256
byte_low a l = omega arith

mul_low_right : (a b : ℕ) → mul a b ≡ mul a (b % 256)
mul_low_right a b = mul_low a b ∙ ap (mul (a % 256)) (byte_low (b % 256) (low b)) ∙ sym (mul_low a (b % 256))

mul_low_left : (a b : ℕ) → mul a b ≡ mul (a % 256) b
mul_low_left a b = grind (arith, mul_low, byte_low, low)

pub mul_assoc : (a b c : ℕ) → mul (mul a b) c ≡ mul a (mul b c)
mul_assoc a b c = grind (arith, mul_low, mul_low_right, assoc_bytes, low, mul_low_left)

-- 1 is neutral, and each other element but 0 has an inverse
one_test : holds_below (λ a. mul 1 a == a) 256 ≡ true
unfolding mul product remainder
one_test = refl

pub mul_one : (a : ℕ) → a < 256 → mul 1 a ≡ a
mul_one a p = eqb-true _ _ (at_below (λ a. mul 1 a == a) 256 a one_test p)

pub mul_zero : (a : ℕ) → mul a 0 ≡ 0
mul_zero a = at_zero (λ b. mul a b) (right_of a)

pub zero_mul : (a : ℕ) → mul 0 a ≡ 0
zero_mul a = at_zero (λ b. mul b a) (left_of a)

pub pow_small : (a n : ℕ) → pow a n < 256
unfolding pow
pow_small a zero = omega arith
pow_small a (suc n) = mul_small a (pow a n)

-- the product of two powers has the sum of their numbers of factors
pub pow_add : (a i j : ℕ) → pow a (i + j) ≡ mul (pow a i) (pow a j)
unfolding pow
pow_add a zero j = grind (arith, mul_one, pow_small)
pow_add a (suc i) j = ap (pow a) (suc_add i j) ∙ ap (mul a) (pow_add a i j) ∙ sym (mul_assoc a (pow a i) (pow a j))
  where
    suc_add : (i j : ℕ) → suc i + j ≡ suc (i + j)
    suc_add i j = omega arith

-- from a power to that with twice as many factors and one
doubled : ℕ → ℕ → ℕ
doubled a p = mul a (mul p p)

doubled_is : (a n p : ℕ) → p ≡ pow a n → doubled a p ≡ pow a (suc (n + n))
unfolding doubled pow
doubled_is a n p e = ap (mul a) (ap₂ mul e e ∙ sym (pow_add a n n))

-- the power 254 by seven squarings
power_254 : ℕ → ℕ
power_254 a =
    let p = doubled a (doubled a (doubled a (doubled a (doubled a (doubled a a))))) in
    mul p p

power_254_is : (a : ℕ) → a < 256 → power_254 a ≡ pow a 254
unfolding power_254
power_254_is a l =
    let p = doubled_is a 63 _ (doubled_is a 31 _ (doubled_is a 15 _ (doubled_is a 7 _ (doubled_is a 3 _
    (doubled_is a 1 a (one a l)))))) in
    ap₂ mul p p ∙ sym (pow_add a 127 127)
  where
    one : (a : ℕ) → a < 256 → a ≡ pow a 1
    one a l = unfold pow in sym (mul_comm a 1 ∙ mul_one a l)

-- each element but 0 has an inverse, its power 254
inverse_test : holds_below (λ a. mul (suc a) (power_254 (suc a)) == 1) 255 ≡ true
unfolding power_254 doubled mul product remainder
inverse_test = refl

pub mul_inverse : (a : ℕ) → 0 < a → a < 256 → mul a (pow a 254) ≡ 1
mul_inverse (suc a) p q = ap (mul (suc a)) (sym (power_254_is (suc a) q))
    ∙ eqb-true _ _ (at_below (λ a. mul (suc a) (power_254 (suc a)) == 1) 255 a inverse_test (omega arith))
mul_inverse zero p q = absurd (omega arith)

pub xor_zero : (a b : ℕ) → bit_xor a b ≡ 0 → a ≡ b
xor_zero a b e = rw (← xor_zero_r a, ← xor_self b, ← xor_assoc a b b, e)

-- a product is 0 only where a factor is
pub no_divisors : (a b : ℕ) → a < 256 → b < 256 → b ≢ 0 → mul a b ≡ 0 → a ≡ 0
no_divisors a b p q h e =
    sym (mul_comm a 1 ∙ mul_one a p) ∙ ap (mul a) (sym (mul_inverse b (pos b h) q)) ∙ sym (mul_assoc a b (pow b 254))
    ∙ ap (λ (x : ℕ). mul x (pow b 254)) e ∙ zero_mul (pow b 254)
  where
    pos : (b : ℕ) → b ≢ 0 → 0 < b
    pos b h = omega arith

pub mul_swap : (a b c : ℕ) → mul a (mul b c) ≡ mul b (mul a c)
mul_swap a b c = sym (mul_assoc a b c) ∙ ap (λ (x : ℕ). mul x c) (mul_comm a b) ∙ mul_assoc b a c

-- of a product that is 0 a factor is
pub zero_factor : (a b : ℕ) → a < 256 → b < 256 → mul a b ≡ 0 → (a ≡ 0) ⊎ (b ≡ 0)
zero_factor a zero p q e = inr refl
zero_factor a (suc b) p q e = grind (arith, no_divisors)
