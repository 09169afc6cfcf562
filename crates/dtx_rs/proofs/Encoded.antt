-- The data and then the register that was fed with them are the codeword.
use Rattle.std.proofs.Common.{◌≡◌, ℕ, zero, suc, ◌+◌, ◌-◌, ◌<◌, ◌≤◌, List, [], ◌∷◌, ◌++◌, get_or, length, map, take}
use Rattle.std.proofs.Common.{replicate, refl, sym, ap, ap₂, ◌∙◌, subst, arith}
use Rattle.std.proofs.lemmas.List.{length-replicate, length-take-le, take_at, take-replicate}
use Rattle.std.proofs.lemmas.List.{replicate-append-replicate}
use Rattle.std.proofs.Math.Seq.{take-append-add}
use Rattle.dtx_galois.specs.Field.{AreBytes}
use Rattle.dtx_laws.specs.Codeword.{IsCode, IsCodeword}
use Rattle.dtx_laws.specs.Register.{generator, register}
use Rattle.dtx_laws.specs.Words.{codeword, completed}
use Rattle.dtx_laws.proofs.EncodingLemmas.{encoded, encoded_is, length_generator, length_register}
use Rattle.dtx_laws.proofs.ChoiceLemmas.{codeword_is, codeword_only}
use Rattle.dtx_laws.proofs.CompletedLemmas.{completed_four}
use Rattle.dtx_laws.proofs.PartsLemmas.{bytes_take}
use Rattle.dtx_rs.proofs.Linear.{register_padded}

-- the first bytes of a word
abbrev pub IsFront : ℕ → List ℕ → List ℕ → Type 0
IsFront k head word = (head ≡ take k word) × (length head ≡ k) × AreBytes head

pub encoded_codeword : (n k : ℕ) (head : List ℕ) → n ≤ 255 → k < n → length head ≡ k → AreBytes head
    → encoded (n - k) head ≡ codeword n k head
encoded_codeword n k head s l e b = codeword_only n k head (encoded (n - k) head) s l e b (encoded_is n k head l e b)
    (take_at head (register (generator (n - k)) (replicate (n - k) 0) head) k e)

-- with zeros behind the generator, the register's first bytes are those without
pub register_front : (m n : ℕ) (divisor head : List ℕ) → 0 < m → m ≤ n → divisor ≡ generator m ++ replicate (n - m) 0
    → take m (register divisor (replicate n 0) head) ≡ register (generator m) (replicate m 0) head
register_front m n divisor head p l e =
    let whole : m + (n - m) ≡ n = omega arith in
    let zeros : replicate {A = ℕ} n 0 ≡ replicate m 0 ++ replicate (n - m) 0 =
    sym (replicate-append-replicate m (n - m) 0 ∙ ap (λ k. replicate k 0) whole) in
    let long : length (replicate {A = ℕ} m 0) ≡ m = length-replicate {A = ℕ} m 0 in
    ap (take m) (grind (arith, register_padded, length_generator))
    ∙ take_at (register (generator m) (replicate m 0) head) (replicate (n - m) 0) m (grind (arith, length_register))

front_padded : (m n w : ℕ) (divisor : List ℕ) → m ≤ w → w ≤ n → divisor ≡ generator m ++ replicate (n - m) 0
    → take w divisor ≡ generator m ++ replicate (w - m) 0
front_padded m n w divisor l r e =
    ap₂ take (omega (arith, length_generator m)) e ∙ take-append-add (generator m) (replicate (n - m) 0) (w - m)
    ∙ ap (λ xs. generator m ++ xs) (take-replicate (w - m) (n - m) 0 (omega arith))

-- by a table of a divisor of w coefficients
pub table_codeword : (n k w : ℕ) (divisor table head parity word new : List ℕ) → IsCode n k → n - k ≤ w → w ≤ 256
    → divisor ≡ generator (n - k) ++ replicate (256 - (n - k)) 0 → table ≡ take w divisor
    → length head ≡ k → length word ≡ n → AreBytes head → parity ≡ register table (replicate w 0) head
    → new ≡ head ++ take (length word - length head) parity → new ≡ codeword n k head
table_codeword n k w divisor table head parity word new code few wide d t lh lw b r e =
    grind (arith, register_front, front_padded, encoded_codeword)

-- what was made is a codeword
pub made_codeword : (n k : ℕ) (head new : List ℕ) → IsCode n k → length head ≡ k → AreBytes head
    → new ≡ codeword n k head → IsCodeword n k new
made_codeword n k head new code l b e = subst (IsCodeword n k) (sym e) (codeword_is n k head code.longer l b)

-- the parity bytes of data are a table's register
pub table_parity : (n k : ℕ) (divisor table head : List ℕ) → IsCode n k → n - k ≤ 20
    → divisor ≡ generator (n - k) ++ replicate (256 - (n - k)) 0 → table ≡ take 20 divisor
    → length head ≡ k → AreBytes head → IsCodeword n k (head ++ take (n - k) (register table (replicate 20 0) head))
table_parity n k divisor table head code few d t l b =
    let parity : List ℕ = register table (replicate 20 0) head in
    let long : length (replicate {A = ℕ} n 0) ≡ n = length-replicate {A = ℕ} n 0 in
    made_codeword n k head (head ++ take (n - k) parity) code l b
    (table_codeword n k 20 divisor table head parity (replicate n 0) (head ++ take (n - k) parity) code few
    (omega arith) d t l long b refl (ap (λ j. head ++ take j parity) (sym (ap₂ ◌-◌ long l))))

-- those of four
pub four_parities : (n k : ℕ) (divisor table : List ℕ) (words parities : List (List ℕ)) (one two three four : List ℕ)
    → IsCode n k → n - k ≤ 20 → divisor ≡ generator (n - k) ++ replicate (256 - (n - k)) 0 → table ≡ take 20 divisor
    → parities ≡ map (register table (replicate 20 0)) (one ∷ two ∷ three ∷ four ∷ [])
    → IsFront k one (get_or words 0 []) → IsFront k two (get_or words 1 [])
    → IsFront k three (get_or words 2 []) → IsFront k four (get_or words 3 []) → (p : ℕ) → p < 4
    → IsCodeword n k (take k (get_or words p []) ++ take (n - k) (get_or parities p []))
four_parities n k divisor table words parities one two three four code few d t e f1 f2 f3 f4 p l =
    subst (λ ps. IsCodeword n k (take k (get_or words p []) ++ take (n - k) (get_or ps p []))) (sym e) (at p l)
  where
    made : (head word : List ℕ) → IsFront k head word
        → IsCodeword n k (take k word ++ take (n - k) (register table (replicate 20 0) head))
    made head word f = subst (λ xs. IsCodeword n k (xs ++ take (n - k) (register table (replicate 20 0) head))) f.0
        (table_parity n k divisor table head code few d t f.1 f.2)

    at : (p : ℕ) → p < 4 → IsCodeword n k (take k (get_or words p [])
        ++ take (n - k) (get_or (map (register table (replicate 20 0)) (one ∷ two ∷ three ∷ four ∷ [])) p []))
    at zero l = made one (get_or words 0 []) f1
    at (suc zero) l = made two (get_or words 1 []) f2
    at (suc (suc zero)) l = made three (get_or words 2 []) f3
    at (suc (suc (suc zero))) l = made four (get_or words 3 []) f4
    at (suc (suc (suc (suc p)))) l = absurd (omega arith)

-- with its data's parity bytes behind them, a word is a codeword
pub put_codeword : (n k : ℕ) (divisor table head parity word new : List ℕ) → IsCode n k → n - k ≤ 20
    → divisor ≡ generator (n - k) ++ replicate (256 - (n - k)) 0 → table ≡ take 20 divisor
    → IsFront k head word → length word ≡ n → parity ≡ register table (replicate 20 0) head
    → new ≡ take k word ++ take (length word - k) parity → new ≡ codeword n k (take k word)
put_codeword n k divisor table head parity word new code few d t f l r e =
    table_codeword n k 20 divisor table head parity word new code few (omega arith) d t f.1 l f.2 r
    (e ∙ ap₂ (λ (x : List ℕ) (i : ℕ). x ++ take (length word - i) parity) (sym f.0) (sym f.1))
    ∙ ap (codeword n k) f.0

-- four words of n bytes, one behind the other, and what became of each
pub record AreFour (n : ℕ) (words one two three four : List ℕ) : Type 0 where
  pub joined : words ≡ one ++ (two ++ (three ++ four))
  pub first : length one ≡ n
  pub second : length two ≡ n
  pub third : length three ≡ n
  pub fourth : length four ≡ n

pub four_completed : (n k : ℕ) (words one two three four new1 new2 new3 new4 : List ℕ) → IsCode n k
    → AreFour n words one two three four
    → new1 ≡ codeword n k (take k one) → new2 ≡ codeword n k (take k two) → new3 ≡ codeword n k (take k three)
    → new4 ≡ codeword n k (take k four) → new1 ++ (new2 ++ (new3 ++ new4)) ≡ completed n k 4 words
four_completed n k words one two three four new1 new2 new3 new4 code are e1 e2 e3 e4 = grind (arith, completed_four)

-- byte by byte
pub register_codeword : (n k : ℕ) (divisor head new : List ℕ) → IsCode n k
    → divisor ≡ generator (n - k) ++ replicate (256 - (n - k)) 0 → length head ≡ k → AreBytes head
    → new ≡ head ++ register (take (n - k) divisor) (replicate (length (take (n - k) divisor)) 0) head
    → new ≡ codeword n k head
register_codeword n k divisor head new code d lh b e = grind (arith, take_at, length_generator, encoded_codeword)

-- what stands behind the data became the register that was fed with them
abbrev pub IsDivided : List ℕ → List ℕ → List ℕ → Type 0
IsDivided divisor word new = new ≡ take (length word - length divisor) word
    ++ register divisor (replicate (length divisor) 0) (take (length word - length divisor) word)

-- of the data of a word
pub register_put : (n k : ℕ) (divisor word new : List ℕ) → IsCode n k
    → divisor ≡ generator (n - k) ++ replicate (256 - (n - k)) 0 → length word ≡ n → AreBytes word
    → IsDivided (take (n - k) divisor) word new → new ≡ codeword n k (take k word)
register_put n k divisor word new code d l b e =
    grind (arith, take_at, length_generator, register_codeword, length-take-le, bytes_take)
