-- Signs packed into words: parts of words, and how many signs of two words are unlike.
use Rattle.std.proofs.Common.{◌≡◌, ℕ, zero, suc, ℤ, ◌+◌, ◌*◌, ◌/◌, ◌%◌, ◌^◌, ◌<◌, ◌≤◌, Bool, true, false, cond, List}
use Rattle.std.proofs.Common.{[], ◌∷◌, length, take, drop, bit_xor, count_ones, sym, ap, ap₂, ◌∙◌, arith}
use Rattle.std.proofs.lemmas.Nat.{xor_block, mod_low, shr_high}
use Rattle.std.proofs.lemmas.List.{drop-take, take-take}
use Rattle.std.proofs.Math.Nat.{pow-suc}
use lib.Count.{ones_step, ones-le}
use Rattle.dtx_acquire.specs.Agreement.{are_unlike, is_plus, packed}

-- ---- parts

abbrev bit : Bool → ℕ
bit b = cond b 1 0

bit_small : (b : Bool) → bit b < 2
bit_small true = omega arith
bit_small false = omega arith

pub packed_small : (xs : List ℤ) → packed xs < 2 ^ length xs
packed_small [] = omega arith
packed_small (x ∷ xs) =
    let rest = packed_small xs in
    let one = bit_small (is_plus x) in
    let more : 2 ^ length (x ∷ xs) ≡ 2 ^ length xs * 2 = pow-suc 2 (length xs) in
    omega arith

-- the first n, and the others behind them
packed_split : (xs : List ℤ) (n : ℕ) → packed xs ≡ packed (drop n xs) * 2 ^ n + packed (take n xs)
packed_split xs zero = grind arith
packed_split [] (suc n) = none (2 ^ suc n)
  where
    none : (x : ℕ) → 0 ≡ 0 * x + 0
    none x = omega arith
packed_split (x ∷ xs) (suc n) =
    joined (bit (is_plus x)) (packed xs) (packed (drop n xs)) (packed (take n xs)) (2 ^ n) (2 ^ suc n)
    (packed_split xs n) (pow-suc 2 n)
  where
    joined : (b all high low p q : ℕ) → all ≡ high * p + low → q ≡ p * 2 → b + 2 * all ≡ high * q + (b + 2 * low)
    joined b all high low p q e f = grind arith

take_small : (xs : List ℤ) (n : ℕ) → packed (take n xs) < 2 ^ n
take_small xs zero = omega arith
take_small [] (suc n) = positive (2 ^ n) (2 ^ suc n) (pow-suc 2 n) (take_small [] n)
  where
    positive : (p q : ℕ) → q ≡ p * 2 → packed (take n []) < p → 0 < q
    positive p q e l = omega arith
take_small (x ∷ xs) (suc n) =
    let rest = take_small xs n in
    let one = bit_small (is_plus x) in
    omega arith

pub packed_take : (xs : List ℤ) (n : ℕ) → packed xs % 2 ^ n ≡ packed (take n xs)
packed_take xs n = rw (packed_split xs n, mod_low (packed (drop n xs)) n (packed (take n xs)) (take_small xs n))

pub packed_drop : (xs : List ℤ) (n : ℕ) → packed xs / 2 ^ n ≡ packed (drop n xs)
packed_drop xs n = rw (packed_split xs n, shr_high (packed (drop n xs)) n (packed (take n xs)) (take_small xs n))

-- two words side by side
pub packed_two : (xs : List ℤ) (m n : ℕ)
    → packed (take n (drop m xs)) * 2 ^ m + packed (take m xs) ≡ packed (take (m + n) xs)
packed_two xs m n = sym (packed_split (take (m + n) xs) m
    ∙ ap₂ (λ a b. packed a * 2 ^ m + packed b) (drop-take m n xs) (take-take m (m + n) xs (omega arith)))

-- ---- unlike signs

xor_bits : (a b : Bool) (m n : ℕ) → bit_xor (bit a + 2 * m) (bit b + 2 * n) ≡ bit (are_unlike a b) + 2 * bit_xor m n
xor_bits a b m n = by_bits a b
  where
    turned : (x y : ℕ) → x + 2 * y ≡ y * 2 ^ 1 + x
    turned x y = omega arith

    by_bits : (a b : Bool) → bit_xor (bit a + 2 * m) (bit b + 2 * n) ≡ bit (are_unlike a b) + 2 * bit_xor m n
    by_bits true true = ap₂ bit_xor (turned 1 m) (turned 1 n) ∙ xor_block 1 m n 1 1 (omega arith) (omega arith)
        ∙ sym (turned 0 (bit_xor m n))
    by_bits true false = ap₂ bit_xor (turned 1 m) (turned 0 n) ∙ xor_block 1 m n 1 0 (omega arith) (omega arith)
        ∙ sym (turned 1 (bit_xor m n))
    by_bits false true = ap₂ bit_xor (turned 0 m) (turned 1 n) ∙ xor_block 1 m n 0 1 (omega arith) (omega arith)
        ∙ sym (turned 1 (bit_xor m n))
    by_bits false false = ap₂ bit_xor (turned 0 m) (turned 0 n) ∙ xor_block 1 m n 0 0 (omega arith) (omega arith)
        ∙ sym (turned 0 (bit_xor m n))

ones_bits : (b : Bool) (n : ℕ) → count_ones (bit b + 2 * n) ≡ bit b + count_ones n
ones_bits b n = ones_step (bit b + 2 * n)
    ∙ ap₂ (λ x y. x + count_ones y) (low (bit b) (bit_small b)) (high (bit b) (bit_small b))
  where
    low : (x : ℕ) → x < 2 → (x + 2 * n) % 2 ≡ x
    low x l = omega arith

    high : (x : ℕ) → x < 2 → (x + 2 * n) / 2 ≡ n
    high x l = omega arith

-- how many signs of two lists are unlike
abbrev pub unlike_signs : List ℤ → List ℤ → ℕ
unlike_signs [] ys = 0
unlike_signs (x ∷ xs) [] = 0
unlike_signs (x ∷ xs) (y ∷ ys) = cond (are_unlike (is_plus x) (is_plus y)) 1 0 + unlike_signs xs ys

pub ones_unlike : (xs ys : List ℤ) → length xs ≡ length ys
    → count_ones (bit_xor (packed xs) (packed ys)) ≡ unlike_signs xs ys
ones_unlike [] [] e = none (count_ones (bit_xor 0 0)) (ones-le 0 0 (omega arith))
  where
    none : (n : ℕ) → n ≤ 0 → n ≡ 0
    none n l = omega arith
ones_unlike [] (y ∷ ys) e = absurd (omega arith)
ones_unlike (x ∷ xs) [] e = absurd (omega arith)
ones_unlike (x ∷ xs) (y ∷ ys) e = ap count_ones (xor_bits (is_plus x) (is_plus y) (packed xs) (packed ys))
    ∙ ones_bits (are_unlike (is_plus x) (is_plus y)) (bit_xor (packed xs) (packed ys))
    ∙ ap (λ n. cond (are_unlike (is_plus x) (is_plus y)) 1 0 + n) (ones_unlike xs ys (omega arith))
