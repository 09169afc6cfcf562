-- A product by the rows of the two halves of a byte, and a word's values from its last byte on.
use Rattle.std.proofs.Common.{◌≡◌, ℕ, zero, suc, ◌+◌, ◌-◌, ◌*◌, ◌/◌, ◌%◌, ◌^◌, ◌<◌, ◌≤◌, List, [], ◌∷◌, length, get_or}
use Rattle.std.proofs.Common.{bit_xor, cond, refl, sym, ap, ap₂, ◌∙◌, arith, add-one, take}
use Rattle.std.proofs.lemmas.List.{get_or-take, length-take-le}
use Rattle.std.proofs.lemmas.Bool.{lt-ltb, le-ltb}
use Rattle.std.specs.Int.Bits.{xor_block, xor_comm, xor_zero_r}
use Rattle.dtx_galois.specs.Field.{mul, pow, value}
use Rattle.dtx_galois.proofs.LinearLemmas.{mul_left}
use Rattle.dtx_fast.specs.Recurrence.{walked}
use Rattle.dtx_fast.specs.Rows.{half_byte}

halves : (c : ℕ) → c < 256 → bit_xor (c % 16) (16 * (c / 16)) ≡ c
halves c l = ap₂ bit_xor (low c) (high c)
    ∙ xor_block 4 0 (c / 16) (c % 16) 0 (omega arith) (omega arith)
    ∙ ap₂ (λ (a b : ℕ). a * 16 + b) (xor_comm 0 (c / 16) ∙ xor_zero_r (c / 16)) (xor_zero_r (c % 16)) ∙ back c
  where
    low : (c : ℕ) → c % 16 ≡ 0 * 2 ^ 4 + c % 16
    low c = omega arith

    high : (c : ℕ) → 16 * (c / 16) ≡ c / 16 * 2 ^ 4 + 0
    high c = omega arith

    back : (c : ℕ) → c / 16 * 16 + c % 16 ≡ c
    back c = omega arith

low_half : (n : ℕ) → n < 16 → half_byte n ≡ n
unfolding half_byte
low_half n l = ap (λ u. cond u n (16 * (n - 16))) (lt-ltb n 16 l)

high_half : (n : ℕ) → half_byte (16 + n) ≡ 16 * n
unfolding half_byte
high_half n = grind (arith, le-ltb)

-- a product is the sum of those of the two halves
pub two_halves : (c x : ℕ) → c < 256 → bit_xor (mul (half_byte (c % 16)) x) (mul (half_byte (16 + c / 16)) x) ≡ mul c x
two_halves c x l = ap₂ (λ (a b : ℕ). bit_xor (mul a x) (mul b x)) (low_half (c % 16) (omega arith)) (high_half (c / 16))
    ∙ sym (mul_left (c % 16) (16 * (c / 16)) x) ∙ ap (λ (z : ℕ). mul z x) (halves c l)

-- the value of a word is the walk's over its bytes from the last on
pub value_walked : (xs : List ℕ) (d : ℕ → ℕ) (y : ℕ)
    → ((k : ℕ) → k < length xs → d k ≡ get_or xs (length xs - 1 - k) 0) → value xs y ≡ walked (length xs) d y
unfolding value walked
value_walked [] d y h = refl
value_walked (x ∷ xs) d y h = ap₂ (λ (u v : ℕ). bit_xor (mul u (pow y (length xs))) v) (sym (grind (arith, last)))
    (value_walked xs d y (λ k l. h k (omega arith) ∙ ap (λ j. get_or (x ∷ xs) j 0) (inner (length xs) k l)))
    ∙ xor_comm (mul (d (length xs)) (pow y (length xs))) (walked (length xs) d y)
  where
    last : (n : ℕ) → suc n - 1 - n ≡ 0
    last n = omega arith

    inner : (n k : ℕ) → k < n → suc n - 1 - k ≡ suc (n - 1 - k)
    inner n k l = omega arith

-- ---- the walk

pub walked_next : (w y : ℕ) (c : ℕ → ℕ) → walked (w + 1) c y ≡ bit_xor (walked w c y) (mul (c w) (pow y w))
unfolding walked
walked_next w y c = ap (λ v. walked v c y) (add-one w)

pub walked_same : (w y : ℕ) (c d : ℕ → ℕ) → ((k : ℕ) → k < w → c k ≡ d k) → walked w c y ≡ walked w d y
unfolding walked
walked_same zero y c d h = refl
walked_same (suc w) y c d h =
    ap₂ (λ (u v : ℕ). bit_xor u (mul v (pow y w))) (walked_same w y c d (λ k l. h k (omega arith))) (h w (omega arith))

-- over a front part of a list
pub walked_front : (w y : ℕ) (xs : List ℕ) → w ≤ length xs
    → walked (length (take w xs)) (λ k. get_or (take w xs) k 0) y ≡ walked w (λ k. get_or xs k 0) y
walked_front w y xs l = grind (arith, length-take-le, walked_same, get_or-take)

-- what the rows of a coefficient's two halves add
pub two_rows : (R k c q g : ℕ) (rows : List (List ℕ)) → c < 256 → 32 * k + 31 < R
    → ((j : ℕ) → j < R → get_or (get_or rows j []) q 0 ≡ mul (half_byte (j % 32)) (pow (pow g q) (j / 32)))
    → bit_xor (get_or (get_or rows (32 * k + c % 16) []) q 0) (get_or (get_or rows (32 * k + 16 + c / 16) []) q 0)
    ≡ mul c (pow (pow g q) k)
two_rows R k c q g rows l m h = ap₂ bit_xor (one (32 * k + c % 16) (c % 16) (omega arith) (omega arith))
    (one (32 * k + 16 + c / 16) (16 + c / 16) (omega arith) (omega arith)) ∙ two_halves c (pow (pow g q) k) l
  where
    one : (j n : ℕ) → j ≡ 32 * k + n → n < 32 → get_or (get_or rows j []) q 0 ≡ mul (half_byte n) (pow (pow g q) k)
    one j n e u = grind arith
