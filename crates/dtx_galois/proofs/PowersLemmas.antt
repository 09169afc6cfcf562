-- Powers, and that those of 2 below 255 differ.
use Rattle.std.proofs.Common.{◌≡◌, ◌≢◌, ℕ, zero, suc, ◌+◌, ◌-◌, ◌*◌, ◌<◌, ◌==◌, not, true, refl, sym, ap, ◌∙◌, arith}
use Rattle.std.proofs.Common.{◌/◌, ◌%◌, get_or, mul-zero}
use Rattle.std.proofs.lemmas.Bool.{eq-eqb, eqb-true, not-true, false≢true}
use Rattle.dtx_lists.proofs.Below.{holds_below, at_below}
use Rattle.dtx_galois.specs.Field.{product, remainder, mul, pow}
use Rattle.dtx_galois.proofs.FieldLemmas.{mul_comm, mul_assoc, mul_inverse, mul_one, zero_mul, pow_small}
pub use Rattle.dtx_galois.proofs.FieldLemmas.{pow_add}
use Rattle.dtx_galois.specs.declared.tables.TheConstants.{POWERS}

pub pow_one : (n : ℕ) → pow 1 n ≡ 1
unfolding pow
pow_one zero = refl
pow_one (suc n) = mul_one (pow 1 n) (pow_small 1 n) ∙ pow_one n

pub pow_mul : (a b n : ℕ) → pow (mul a b) n ≡ mul (pow a n) (pow b n)
unfolding pow
pow_mul a b zero = sym (mul_one 1 (omega arith))
pow_mul a b (suc n) = ap (mul (mul a b)) (pow_mul a b n) ∙ mul_assoc a b (mul (pow a n) (pow b n))
    ∙ ap (mul a) (grind (arith, mul_assoc, mul_comm)) ∙ sym (mul_assoc a (pow a n) (mul b (pow b n)))

-- the order of two exponents is free
pub pow_swap : (a i j : ℕ) → pow (pow a i) j ≡ pow (pow a j) i
unfolding pow
pow_swap a zero j = pow_one j
pow_swap a (suc i) j = pow_mul a (pow a i) j ∙ ap (mul (pow a j)) (pow_swap a i j)

-- the table has the powers of 2: each is twice the one before
powers_step : holds_below (λ i. get_or POWERS (suc i) 0 == mul 2 (get_or POWERS i 0)) 254 ≡ true
unfolding mul product remainder
powers_step = refl

pub power_at : (i : ℕ) → i < 255 → get_or POWERS i 0 ≡ pow 2 i
unfolding pow
power_at zero l = refl
power_at (suc i) l =
    eqb-true _ _ (at_below (λ i. get_or POWERS (suc i) 0 == mul 2 (get_or POWERS i 0)) 254 i powers_step (omega arith))
    ∙ ap (mul 2) (power_at i (omega arith))

-- no power of 2 from 1 to 254 is 1
order_test : holds_below (λ k. not (get_or POWERS (suc k) 0 == 1)) 254 ≡ true
order_test = refl

not_one : (k : ℕ) → k < 254 → pow 2 (suc k) ≢ 1
not_one k l e = false≢true (sym (not-true (get_or POWERS (suc k) 0 == 1)
    (at_below (λ k. not (get_or POWERS (suc k) 0 == 1)) 254 k order_test l))
    ∙ eq-eqb (get_or POWERS (suc k) 0) 1 (power_at (suc k) (omega arith) ∙ e))

-- and power 255 is
pub cycle : pow 2 255 ≡ 1
unfolding pow
cycle = mul_inverse 2 (omega arith) (omega arith)

-- 2 ^ i has an inverse
two_inverse : (i : ℕ) → mul (pow 2 i) (pow (pow 2 254) i) ≡ 1
two_inverse i = rw (← pow_mul 2 (pow 2 254) i, mul_inverse 2 (omega arith) (omega arith), pow_one i)

later_differs : (i k : ℕ) → k < 254 → pow 2 i ≢ pow 2 (i + suc k)
later_differs i k l e = not_one k l (sym (mul_one (pow 2 (suc k)) (pow_small 2 (suc k)))
    ∙ ap (λ (x : ℕ). mul x (pow 2 (suc k))) (sym (two_inverse i) ∙ mul_comm (pow 2 i) (pow (pow 2 254) i))
    ∙ mul_assoc (pow (pow 2 254) i) (pow 2 i) (pow 2 (suc k))
    ∙ ap (mul (pow (pow 2 254) i)) (sym (pow_add 2 i (suc k)) ∙ sym e) ∙ mul_comm (pow (pow 2 254) i) (pow 2 i)
    ∙ two_inverse i)

-- the powers of 2 below 255 differ
pub powers_differ : (i j : ℕ) → i < j → j < 255 → pow 2 i ≢ pow 2 j
powers_differ i j l m e = later_differs i (j - suc i) (omega arith) (e ∙ ap (pow 2) (back i j l))
  where
    back : (i j : ℕ) → i < j → j ≡ i + suc (j - suc i)
    back i j l = omega arith

-- a power of a power
pub pow_times : (a i n : ℕ) → pow (pow a i) n ≡ pow a (i * n)
unfolding pow
pow_times a i zero = sym (ap (pow a) (mul-zero i))
pow_times a i (suc n) = rw (pow_times a i n, ← pow_add a i (i * n), ← times_suc i n)
  where
    times_suc : (i n : ℕ) → i * suc n ≡ i + i * n
    times_suc i n = grind arith

-- exponents of 2 count modulo 255
pub pow_mod : (n : ℕ) → pow 2 (n % 255) ≡ pow 2 n
pow_mod n = sym (ap (pow 2) (omega arith) ∙ pow_add 2 (255 * (n / 255)) (n % 255)
    ∙ ap (λ (x : ℕ). mul x (pow 2 (n % 255))) (sym (pow_times 2 255 (n / 255)) ∙ ap (λ (x : ℕ). pow x (n / 255)) cycle
    ∙ pow_one (n / 255)) ∙ mul_one (pow 2 (n % 255)) (pow_small 2 (n % 255)))

-- the powers of 0
pub zero_pow : (n : ℕ) → 0 < n → pow 0 n ≡ 0
unfolding pow
zero_pow zero l = absurd (omega arith)
zero_pow (suc n) l = zero_mul (pow 0 n)
