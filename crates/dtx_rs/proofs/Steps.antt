-- A step by four bytes, as the code takes it over words.
use Rattle.std.proofs.Common.{◌≡◌, ℕ, suc, ◌*◌, ◌<◌, List, [], ◌∷◌, ◌++◌, length, get_or, drop, bit_xor}
use Rattle.std.proofs.Common.{refl, sym, ap, ap₂, ◌∙◌, arith}
use Rattle.std.proofs.lemmas.List.{length_push}
use Rattle.std.proofs.lemmas.Nat.{le_bytes_4}
use Rattle.std.specs.Int.{to_le_bytes, from_le_bytes, w32}
use Rattle.dtx_galois.specs.Field.{sums}
use Rattle.dtx_galois.proofs.WordsLemmas.{length_sums}
use Rattle.dtx_laws.specs.Register.{register}
use Rattle.dtx_rs.specs.Generator.{row, word_bytes}
use Rattle.dtx_rs.proofs.Rows.{four_fed, length_row}
use Rattle.dtx_rs.proofs.WordBytes.{to_le_bytes-xor, length-word_bytes, word_bytes-append, word_bytes-sums}
use Rattle.dtx_rs.proofs.WordBytes.{list_of_four}

-- a row has as many words as the register
row_words : (divisor words : List ℕ) (f k n : ℕ) → length divisor ≡ 4 * n → word_bytes words ≡ row divisor f k
    → length words ≡ n
row_words divisor words f k n l e = omega (arith, length-word_bytes words, ap length e, length_row divisor f k)

-- where fs are the sums of the bytes and the register's first four
pub step_is : (divisor state bytes fs r3 r2 r1 r0 : List ℕ) → 0 < length state → length divisor ≡ 4 * length state
    → length bytes ≡ 4 → ((i : ℕ) → get_or bytes i 0 < 256)
    → fs ≡ to_le_bytes w32 (bit_xor (from_le_bytes w32 bytes) (get_or state 0 0))
    → word_bytes r3 ≡ row divisor (get_or fs 0 0) 3 → word_bytes r2 ≡ row divisor (get_or fs 1 0) 2
    → word_bytes r1 ≡ row divisor (get_or fs 2 0) 1 → word_bytes r0 ≡ row divisor (get_or fs 3 0) 0
    → word_bytes (sums (drop 1 state ++ 0 ∷ []) (sums r3 (sums r2 (sums r1 r0))))
    ≡ register divisor (word_bytes state) bytes
step_is divisor [] bytes fs r3 r2 r1 r0 s l b small f e3 e2 e1 e0 = absurd (omega arith)
step_is divisor (w ∷ ws) bytes fs r3 r2 r1 r0 s l b small f e3 e2 e1 e0 =
    let l3 : length r3 ≡ suc (length ws) = row_words divisor r3 (get_or fs 0 0) 3 (suc (length ws)) l e3 in
    let l2 : length r2 ≡ suc (length ws) = row_words divisor r2 (get_or fs 1 0) 2 (suc (length ws)) l e2 in
    let l1 : length r1 ≡ suc (length ws) = row_words divisor r1 (get_or fs 2 0) 1 (suc (length ws)) l e1 in
    let l0 : length r0 ≡ suc (length ws) = row_words divisor r0 (get_or fs 3 0) 0 (suc (length ws)) l e0 in
    let m1 : length (sums r1 r0) ≡ suc (length ws) = length_sums r1 r0 ∙ l1 in
    let m2 : length (sums r2 (sums r1 r0)) ≡ suc (length ws) = length_sums r2 (sums r1 r0) ∙ l2 in
    let m3 : length (sums r3 (sums r2 (sums r1 r0))) ≡ suc (length ws) = length_sums r3 (sums r2 (sums r1 r0)) ∙ l3 in
    let four : bytes ≡ get_or bytes 0 0 ∷ get_or bytes 1 0 ∷ get_or bytes 2 0 ∷ get_or bytes 3 0 ∷ [] =
    list_of_four bytes b in
    let factors : fs ≡ sums (get_or bytes 0 0 ∷ get_or bytes 1 0 ∷ get_or bytes 2 0 ∷ get_or bytes 3 0 ∷ [])
    (to_le_bytes w32 w) = f ∙ to_le_bytes-xor (from_le_bytes w32 bytes) w
    ∙ ap (λ xs. sums xs (to_le_bytes w32 w)) (le_bytes_4 bytes (from_le_bytes w32 bytes) b small refl ∙ four) in
    word_bytes-sums (ws ++ 0 ∷ []) (sums r3 (sums r2 (sums r1 r0))) (omega (arith, length_push ws 0))
    ∙ ap₂ sums (word_bytes-append ws (0 ∷ [])) (grind (arith, word_bytes-sums))
    ∙ sym (four_fed divisor (word_bytes ws) _ _ _ _ (get_or bytes 0 0) (get_or bytes 1 0) (get_or bytes 2 0)
    (get_or bytes 3 0) (omega (arith, length-word_bytes ws))) ∙ ap (register divisor (word_bytes (w ∷ ws))) (sym four)

-- where the first word of each stands apart
pub split_sum : (rest r3 r2 r1 r0 : List ℕ) (first : ℕ) (words : List ℕ) → 0 < length rest → 0 < length r3
    → 0 < length r2 → 0 < length r1 → 0 < length r0
    → first ≡ bit_xor (get_or rest 0 0) (bit_xor (get_or r3 0 0) (bit_xor (get_or r2 0 0)
    (bit_xor (get_or r1 0 0) (get_or r0 0 0))))
    → words ≡ sums (drop 1 rest ++ 0 ∷ []) (sums (drop 1 r3) (sums (drop 1 r2) (sums (drop 1 r1) (drop 1 r0))))
    → first ∷ words ≡ sums (rest ++ 0 ∷ []) (sums r3 (sums r2 (sums r1 r0)))
split_sum [] r3 r2 r1 r0 first words l l3 l2 l1 l0 e f = absurd (omega arith)
split_sum (x ∷ xs) [] r2 r1 r0 first words l l3 l2 l1 l0 e f = absurd (omega arith)
split_sum (x ∷ xs) (c ∷ cs) [] r1 r0 first words l l3 l2 l1 l0 e f = absurd (omega arith)
split_sum (x ∷ xs) (c ∷ cs) (d ∷ ds) [] r0 first words l l3 l2 l1 l0 e f = absurd (omega arith)
split_sum (x ∷ xs) (c ∷ cs) (d ∷ ds) (g ∷ gs) [] first words l l3 l2 l1 l0 e f = absurd (omega arith)
split_sum (x ∷ xs) (c ∷ cs) (d ∷ ds) (g ∷ gs) (h ∷ hs) first words l l3 l2 l1 l0 e f = ap₂ ◌∷◌ e f
