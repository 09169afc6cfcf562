-- The bytes of words.
use Rattle.std.proofs.Common.{◌≡◌, ℕ, suc, ◌+◌, ◌*◌, ◌/◌, ◌%◌, ◌^◌, ◌<◌, List, [], ◌∷◌, ◌++◌, length, get_or, take}
use Rattle.std.proofs.Common.{bit_xor, refl, sym, ap, ap₂, ◌∙◌, arith}
use Rattle.std.proofs.lemmas.List.{append_assoc, take_more}
use Rattle.std.proofs.lemmas.Nat.{xor_shr, xor_mod}
use Rattle.std.specs.Int.{to_le_bytes, w32}
use Rattle.dtx_galois.specs.Field.{sums}
use Rattle.dtx_rs.specs.Generator.{word_bytes}

xor_byte : (u v k : ℕ) → bit_xor u v / 2 ^ k % 256 ≡ bit_xor (u / 2 ^ k % 256) (v / 2 ^ k % 256)
xor_byte u v k = ap (λ (x : ℕ). x % 256) (xor_shr u v k) ∙ xor_mod (u / 2 ^ k) (v / 2 ^ k) 8

pub to_le_bytes-xor : (u v : ℕ) → to_le_bytes w32 (bit_xor u v) ≡ sums (to_le_bytes w32 u) (to_le_bytes w32 v)
to_le_bytes-xor u v = ap₂ ◌∷◌ (xor_mod u v 8) (ap₂ ◌∷◌ (xor_byte u v 8)
    (ap₂ ◌∷◌ (xor_byte u v 16) (ap (λ (x : ℕ). x ∷ []) (xor_byte u v 24))))

pub length-word_bytes : (ws : List ℕ) → length (word_bytes ws) ≡ 4 * length ws
length-word_bytes [] = refl
length-word_bytes (w ∷ ws) = ap (λ n. suc (suc (suc (suc n)))) (length-word_bytes ws) ∙ four_more (length ws)
  where
    four_more : (n : ℕ) → suc (suc (suc (suc (4 * n)))) ≡ 4 * suc n
    four_more n = omega arith

pub word_bytes-append : (us vs : List ℕ) → word_bytes (us ++ vs) ≡ word_bytes us ++ word_bytes vs
word_bytes-append [] vs = refl
word_bytes-append (u ∷ us) vs = ap (λ xs. to_le_bytes w32 u ++ xs) (word_bytes-append us vs)

pub word_bytes-sums : (us vs : List ℕ) → length us ≡ length vs
    → word_bytes (sums us vs) ≡ sums (word_bytes us) (word_bytes vs)
word_bytes-sums [] vs l = refl
word_bytes-sums (u ∷ us) [] l = absurd (omega arith)
word_bytes-sums (u ∷ us) (v ∷ vs) l = ap₂ ◌∷◌ (xor_mod u v 8) (ap₂ ◌∷◌ (xor_byte u v 8)
    (ap₂ ◌∷◌ (xor_byte u v 16) (ap₂ ◌∷◌ (xor_byte u v 24) (word_bytes-sums us vs (omega arith)))))

-- one more word
pub word_bytes-more : (ws : List ℕ) (i : ℕ) → i < length ws
    → word_bytes (take (i + 1) ws) ≡ word_bytes (take i ws) ++ to_le_bytes w32 (get_or ws i 0)
word_bytes-more ws i l = ap word_bytes (take_more ws i 0 l) ∙ word_bytes-append (take i ws) (get_or ws i 0 ∷ [])

-- four bytes of a list
pub list_of_four : (xs : List ℕ) → length xs ≡ 4
    → xs ≡ get_or xs 0 0 ∷ get_or xs 1 0 ∷ get_or xs 2 0 ∷ get_or xs 3 0 ∷ []
list_of_four [] l = absurd (omega arith)
list_of_four (a ∷ []) l = absurd (omega arith)
list_of_four (a ∷ b ∷ []) l = absurd (omega arith)
list_of_four (a ∷ b ∷ c ∷ []) l = absurd (omega arith)
list_of_four (a ∷ b ∷ c ∷ d ∷ []) l = refl
list_of_four (a ∷ b ∷ c ∷ d ∷ e ∷ xs) l = absurd (omega arith)

-- four bytes more of a list
pub take_four : (xs : List ℕ) (i : ℕ) → i + 3 < length xs
    → take i xs ++ get_or xs i 0 ∷ get_or xs (i + 1) 0 ∷ get_or xs (i + 2) 0 ∷ get_or xs (i + 3) 0 ∷ []
    ≡ take (i + 4) xs
take_four xs i l =
    let a2 : i + 2 + 1 ≡ i + 3 = omega arith in
    sym (ap (λ n. take n xs) (sym (omega arith)) ∙ take_more xs (i + 3) 0 l ∙ ap (λ ys. ys ++ get_or xs (i + 3) 0 ∷ [])
    (ap (λ n. take n xs) (sym a2) ∙ take_more xs (i + 2) 0 (omega arith) ∙ ap (λ ys. ys ++ get_or xs (i + 2) 0 ∷ [])
    (ap (λ n. take n xs) (sym (omega arith)) ∙ take_more xs (i + 1) 0 (omega arith)
    ∙ ap (λ ys. ys ++ get_or xs (i + 1) 0 ∷ []) (take_more xs i 0 (omega arith)))) ∙ simp append_assoc)
