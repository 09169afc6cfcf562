-- A recurrence as a locator, its quotients by X - x, and the values that they give.
use Rattle.std.proofs.Common.{◌≡◌, ◌≢◌, ℕ, zero, suc, ◌+◌, ◌<◌, ◌≤◌, List, [], ◌∷◌, length, bit_xor, refl, sym, ap}
use Rattle.std.proofs.Common.{ap₂, ◌∙◌, arith}
use Rattle.std.specs.List.{AllByRecursion}
use Rattle.std.specs.Int.Bits.{xor_assoc, xor_self, xor_zero_r, xor_comm, xor_lt}
use Rattle.dtx_galois.specs.Field.{mul, AreBytes, AreDifferent}
use Rattle.dtx_galois.proofs.LinearLemmas.{mul_left, mul_right}
use Rattle.dtx_galois.proofs.FieldLemmas.{mul_comm, mul_zero, zero_mul, mul_small, xor_zero, no_divisors, mul_swap}
use Rattle.dtx_laws.specs.Locator.{combination, low_value}
use Rattle.dtx_fast.specs.Recurrence.{discrepancy, turned, quotient}

-- ---- the recurrence as a locator

pub length_turned : (w : ℕ) (c : ℕ → ℕ) → length (turned w c) ≡ w
unfolding turned
length_turned zero c = refl
length_turned (suc w) c = ap suc (length_turned w c)

pub bytes_turned : (w : ℕ) (c : ℕ → ℕ) → ((k : ℕ) → c k < 256) → AreBytes (turned w c)
unfolding turned
bytes_turned zero c b = tt
bytes_turned (suc w) c b = (b w, bytes_turned w c b)

-- a combination from term i on is the discrepancy at the last term that is met
pub combination_turned : (w : ℕ) (c s : ℕ → ℕ) (i : ℕ)
    → combination (turned (suc w) c) s i ≡ discrepancy (suc w) c s (i + w)
unfolding turned discrepancy
combination_turned zero c s i = xor_comm (mul (c 0) (s i)) 0 ∙ ap (λ j. bit_xor 0 (mul (c 0) (s j))) (omega arith)
combination_turned (suc w) c s i = xor_comm (mul (c (suc w)) (s i)) (combination (turned (suc w) c) s (suc i))
    ∙ ap₂ (λ (x : ℕ) (j : ℕ). bit_xor x (mul (c (suc w)) (s j)))
    (combination_turned w c s (suc i) ∙ ap (discrepancy (suc w) c s) (omega arith)) (omega arith)

-- ---- quotients

pub quotient_small : (x : ℕ) (c : ℕ → ℕ) (k : ℕ) → ((j : ℕ) → c j < 256) → quotient x c k < 256
unfolding quotient
quotient_small x c zero b = b 0
quotient_small x c (suc k) b = xor_lt 8 (mul (quotient x c k) x) (c (suc k)) (mul_small (quotient x c k) x) (b (suc k))

-- the polynomial is y - x times its quotient, and the value at x
pub divides : (w x y : ℕ) (c : ℕ → ℕ) → low_value (turned (suc w) c) y
    ≡ bit_xor (mul (bit_xor y x) (low_value (turned w (quotient x c)) y)) (quotient x c w)
unfolding turned quotient
divides zero x y c = rw (mul_zero y, xor_comm (c 0) 0, mul_zero (bit_xor y x))
divides (suc w) x y c =
    let q : ℕ = quotient x c w in
    let v : ℕ = low_value (turned w (quotient x c)) y in
    ap (λ (z : ℕ). bit_xor (c (suc w)) (mul y z)) (divides w x y c)
    ∙ regroup (c (suc w)) x y (quotient x c w) (low_value (turned w (quotient x c)) y)
  where
    -- c + y ((y + x) v + q) = (y + x) (q + y v) + (q x + c)
    regroup : (c x y q v : ℕ) → bit_xor c (mul y (bit_xor (mul (bit_xor y x) v) q))
        ≡ bit_xor (mul (bit_xor y x) (bit_xor q (mul y v))) (bit_xor (mul q x) c)
    regroup c x y q v =
        let a : ℕ = mul (bit_xor y x) (mul y v) in
        let e : mul y (bit_xor (mul (bit_xor y x) v) q) ≡ bit_xor (mul (bit_xor y x) (mul y v)) (mul y q) =
        mul_right y (mul (bit_xor y x) v) q ∙ ap (λ z. bit_xor z (mul y q)) (mul_swap y (bit_xor y x) v) in
        ap (bit_xor c) e ∙ shuffle c (mul (bit_xor y x) (mul y v)) (mul y q) (mul q x)
        ∙ sym (ap (λ z. bit_xor z (bit_xor (mul q x) c)) (mul_right (bit_xor y x) q (mul y v)
        ∙ ap (λ z. bit_xor z (mul (bit_xor y x) (mul y v))) (mul_left y x q ∙ ap (bit_xor (mul y q)) (mul_comm x q))))
      where
        -- c + (a + m) = ((m + p) + a) + (p + c)
        shuffle : (c a m p : ℕ) → bit_xor c (bit_xor a m) ≡ bit_xor (bit_xor (bit_xor m p) a) (bit_xor p c)
        shuffle c a m p = sym (ap (λ z. bit_xor z (bit_xor p c)) (xor_comm (bit_xor m p) a ∙ sym (xor_assoc a m p))
            ∙ xor_assoc (bit_xor a m) p (bit_xor p c)
            ∙ ap (bit_xor (bit_xor a m)) (sym (xor_assoc p p c) ∙ ap (λ z. bit_xor z c) (xor_self p)
            ∙ xor_comm 0 c ∙ xor_zero_r c) ∙ xor_comm (bit_xor a m) c)

pub turned_small : (w : ℕ) (c : ℕ → ℕ) (x : ℕ) → ((k : ℕ) → c k < 256) → low_value (turned w c) x < 256
unfolding turned
turned_small zero c x b = omega arith
turned_small (suc w) c x b = xor_lt 8 (c w) (mul x (low_value (turned w c) x)) (b w) (grind (arith, mul_small))

-- the last of the quotient is the value
last_is : (w x : ℕ) (c : ℕ → ℕ) → low_value (turned (suc w) c) x ≡ quotient x c w
last_is w x c = divides w x x c
    ∙ ap (λ z. bit_xor z (quotient x c w)) (ap (λ z. mul z (low_value (turned w (quotient x c)) x)) (xor_self x)
    ∙ zero_mul (low_value (turned w (quotient x c)) x)) ∙ xor_comm 0 (quotient x c w) ∙ xor_zero_r (quotient x c w)

-- by a zero the quotient vanishes at each other zero
pub other_zero : (w x y : ℕ) (c : ℕ → ℕ) → ((k : ℕ) → c k < 256) → x < 256 → y < 256 → y ≢ x
    → low_value (turned (suc w) c) x ≡ 0 → low_value (turned (suc w) c) y ≡ 0
    → low_value (turned w (quotient x c)) y ≡ 0
other_zero w x y c b lx ly d e f = no_divisors (low_value (turned w (quotient x c)) y) (bit_xor y x)
    (turned_small w (quotient x c) y (λ k. quotient_small x c k b)) (xor_lt 8 y x ly lx) (λ z. d (xor_zero y x z))
    (mul_comm (low_value (turned w (quotient x c)) y) (bit_xor y x)
    ∙ sym (xor_zero_r (mul (bit_xor y x) (low_value (turned w (quotient x c)) y)))
    ∙ ap (bit_xor (mul (bit_xor y x) (low_value (turned w (quotient x c)) y))) (sym (sym (last_is w x c) ∙ e))
    ∙ sym (divides w x y c) ∙ f)

abbrev pub AllVanish : ℕ → (ℕ → ℕ) → List ℕ → Type 0
AllVanish w c xs = AllByRecursion (λ x. low_value (turned w c) x ≡ 0) xs

all_others : (w x : ℕ) (c : ℕ → ℕ) (ys : List ℕ) → ((k : ℕ) → c k < 256) → x < 256 → AreBytes ys
    → AllByRecursion (λ y. y ≢ x) ys → low_value (turned (suc w) c) x ≡ 0 → AllVanish (suc w) c ys
    → AllVanish w (quotient x c) ys
all_others w x c [] b lx bs d e h = tt
all_others w x c (y ∷ ys) b lx bs d e h =
    (other_zero w x y c b lx bs.0 d.0 e h.0, all_others w x c ys b lx bs.1 d.1 e h.1)

-- where the highest coefficient is 1, there are fewer zeros than coefficients
pub fewer_zeros : (w : ℕ) (c : ℕ → ℕ) (xs : List ℕ) → c 0 ≡ 1 → ((k : ℕ) → c k < 256) → AreBytes xs → AreDifferent xs
    → AllVanish (suc w) c xs → length xs ≤ w
unfolding turned quotient
fewer_zeros w c [] o b bs d h = omega arith
fewer_zeros zero c (x ∷ xs) o b bs d h = grind (arith, mul_zero)
fewer_zeros (suc w) c (x ∷ xs) o b bs d h =
    let r : length xs ≤ w = fewer_zeros w (quotient x c) xs o (λ k. quotient_small x c k b) bs.1 d.1
    (all_others (suc w) x c xs b bs.0 bs.1 d.0 h.0 h.1) in
    omega arith
