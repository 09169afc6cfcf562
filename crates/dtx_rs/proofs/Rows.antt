-- What is fed to zeros is a sum of rows.
use Rattle.std.proofs.Common.{◌≡◌, ℕ, suc, ◌+◌, ◌<◌, List, [], ◌∷◌, ◌++◌, length, get_or}
use Rattle.std.proofs.Common.{take, replicate, bit_xor, refl, sym, ap, ap₂, ◌∙◌, arith}
use Rattle.std.proofs.lemmas.List.{length-replicate, take_more}
use Rattle.std.specs.Int.Bits.{xor_zero_r}
use Rattle.dtx_galois.specs.Field.{sums}
use Rattle.dtx_laws.specs.Register.{fed, register}
use Rattle.dtx_laws.proofs.EncodingLemmas.{length_register}
use Rattle.dtx_rs.specs.Generator.{row}
use Rattle.dtx_rs.proofs.Linear.{zeros_sums, register_sums, register_append, zero_fed, big_step}

pub length_row : (divisor : List ℕ) (f k : ℕ) → length (row divisor f k) ≡ length divisor
length_row divisor f k = simp (length_register, length-replicate)

-- the first byte's part is its row
rows_sum : (divisor bs : List ℕ) (b : ℕ) → register divisor (replicate (length divisor) 0) (b ∷ bs)
    ≡ sums (row divisor b (length bs)) (register divisor (replicate (length divisor) 0) bs)
rows_sum divisor bs b =
    ap₂ (register divisor) (sym (zeros_zeros divisor)) (ap₂ ◌∷◌ (sym (xor_zero_r b)) (sym (zeros_sums bs)))
    ∙ register_sums divisor (replicate (length divisor) 0) (replicate (length divisor) 0) (b ∷ replicate (length bs) 0)
    (0 ∷ bs) refl (length-replicate {A = ℕ} (length divisor) 0) (ap suc (length-replicate {A = ℕ} (length bs) 0))
    ∙ ap (λ xs. sums (row divisor b (length bs)) (register divisor xs bs)) (zero_fed divisor (length divisor))
  where
    zeros_zeros : (divisor : List ℕ) → sums (replicate (length divisor) 0) (replicate (length divisor) 0)
        ≡ replicate (length divisor) 0
    zeros_zeros [] = refl
    zeros_zeros (c ∷ divisor) = ap (◌∷◌ 0) (zeros_zeros divisor)

four_rows : (divisor : List ℕ) (a b c d : ℕ) → register divisor (replicate (length divisor) 0) (a ∷ b ∷ c ∷ d ∷ [])
    ≡ sums (row divisor a 3) (sums (row divisor b 2) (sums (row divisor c 1) (row divisor d 0)))
four_rows divisor a b c d =
    rw (rows_sum divisor (b ∷ c ∷ d ∷ []) a, rows_sum divisor (c ∷ d ∷ []) b, rows_sum divisor (d ∷ []) c)

-- A step by four bytes: the register moves by four places, and four rows are added.
pub four_fed : (divisor rest : List ℕ) (s0 s1 s2 s3 b0 b1 b2 b3 : ℕ) → length rest + 4 ≡ length divisor
    → register divisor (s0 ∷ s1 ∷ s2 ∷ s3 ∷ rest) (b0 ∷ b1 ∷ b2 ∷ b3 ∷ [])
    ≡ sums (rest ++ replicate 4 0) (sums (row divisor (bit_xor b0 s0) 3)
    (sums (row divisor (bit_xor b1 s1) 2) (sums (row divisor (bit_xor b2 s2) 1) (row divisor (bit_xor b3 s3) 0))))
four_fed divisor rest s0 s1 s2 s3 b0 b1 b2 b3 l =
    let m : length ((s0 ∷ s1 ∷ s2 ∷ s3 ∷ []) ++ rest) ≡ length divisor = omega arith in
    big_step divisor (s0 ∷ s1 ∷ s2 ∷ s3 ∷ []) rest (b0 ∷ b1 ∷ b2 ∷ b3 ∷ []) refl m ∙ ap (sums (rest ++ replicate 4 0))
    (grind (arith, four_rows))

-- ---- along the data

register_more : (divisor rs bs : List ℕ) (i : ℕ) → i < length bs
    → fed divisor (register divisor rs (take i bs)) (get_or bs i 0) ≡ register divisor rs (take (i + 1) bs)
register_more divisor rs bs i l = sym (ap (register divisor rs) (take_more bs i 0 l)
    ∙ register_append divisor rs (take i bs) (get_or bs i 0 ∷ []))

register_four : (divisor rs bs : List ℕ) (i : ℕ) → i + 3 < length bs
    → register divisor (register divisor rs (take i bs))
    (get_or bs i 0 ∷ get_or bs (i + 1) 0 ∷ get_or bs (i + 2) 0 ∷ get_or bs (i + 3) 0 ∷ [])
    ≡ register divisor rs (take (i + 4) bs)
register_four divisor rs bs i l =
    let a2 : i + 2 + 1 ≡ i + 3 = omega arith in
    let a3 : i + 3 + 1 ≡ i + 4 = omega arith in
    let more : (j : ℕ) → j < length bs → fed divisor (register divisor rs (take j bs)) (get_or bs j 0)
    ≡ register divisor rs (take (j + 1) bs) = λ j m. register_more divisor rs bs j m in
    ap (λ xs. register divisor xs (get_or bs (i + 1) 0 ∷ get_or bs (i + 2) 0 ∷ get_or bs (i + 3) 0 ∷ []))
    (more i (omega arith))
    ∙ ap (λ xs. register divisor xs (get_or bs (i + 2) 0 ∷ get_or bs (i + 3) 0 ∷ [])) (grind arith)
    ∙ ap (λ xs. register divisor xs (get_or bs (i + 3) 0 ∷ [])) (more (i + 2) (omega arith)
    ∙ ap (λ j. register divisor rs (take j bs)) a2)
    ∙ more (i + 3) (omega arith) ∙ ap (λ j. register divisor rs (take j bs)) a3

-- one turn of the loop over the steps, where state and next are the registers' bytes
pub step_along : (divisor rs head state next : List ℕ) (at : ℕ) → at + 3 < length head
    → state ≡ register divisor rs (take at head)
    → next ≡ register divisor state (get_or head at 0 ∷ get_or head (at + 1) 0 ∷ get_or head (at + 2) 0 ∷ get_or head
    (at + 3) 0 ∷ []) → next ≡ register divisor rs (take (at + 4) head)
step_along divisor rs head state next at l e f = grind (arith, register_four)
