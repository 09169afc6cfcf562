-- The register keeps sums, so that many bytes are fed in one step.
use Rattle.std.proofs.Common.{◌≡◌, ℕ, zero, suc, ◌<◌, List, [], ◌∷◌, ◌++◌, length, replicate, bit_xor, refl, sym, ap}
use Rattle.std.proofs.Common.{ap₂, ◌∙◌, arith}
use Rattle.std.proofs.lemmas.List.{length_push, append_assoc, append-nil, length-replicate}
use Rattle.std.specs.Int.Bits.{xor_comm, xor_assoc, xor_self, xor_zero_r}
use Rattle.dtx_galois.specs.Field.{mul, sums, scaled}
use Rattle.dtx_galois.proofs.LinearLemmas.{mul_left, xor_swap}
use Rattle.dtx_galois.proofs.FieldLemmas.{mul_zero, zero_mul}
use Rattle.dtx_galois.proofs.WordsLemmas.{length_sums, length_scaled}
use Rattle.dtx_laws.specs.Register.{fed, register}
use Rattle.dtx_laws.proofs.EncodingLemmas.{length_register}

-- ---- sums of words of one length

sums_swap : (a b c d : List ℕ) → length a ≡ length b → length c ≡ length d → length a ≡ length c
    → sums (sums a b) (sums c d) ≡ sums (sums a c) (sums b d)
sums_swap [] b c d l m n = refl
sums_swap (x ∷ a) [] c d l m n = absurd (omega arith)
sums_swap (x ∷ a) (y ∷ b) [] d l m n = absurd (omega arith)
sums_swap (x ∷ a) (y ∷ b) (z ∷ c) [] l m n = absurd (omega arith)
sums_swap (x ∷ a) (y ∷ b) (z ∷ c) (w ∷ d) l m n =
    ap₂ ◌∷◌ (xor_swap x y z w) (sums_swap a b c d (omega arith) (omega arith) (omega arith))

pub sums_append : (xs ys us vs : List ℕ) → length xs ≡ length ys → sums (xs ++ us) (ys ++ vs) ≡ sums xs ys ++ sums us vs
sums_append [] [] us vs l = refl
sums_append [] (y ∷ ys) us vs l = absurd (omega arith)
sums_append (x ∷ xs) [] us vs l = absurd (omega arith)
sums_append (x ∷ xs) (y ∷ ys) us vs l = ap (◌∷◌ (bit_xor x y)) (sums_append xs ys us vs (omega arith))

zero_scaled : (xs divisor : List ℕ) → sums xs (scaled 0 divisor) ≡ xs
zero_scaled [] divisor = refl
zero_scaled (x ∷ xs) [] = refl
zero_scaled (x ∷ xs) (c ∷ divisor) = ap₂ ◌∷◌ (ap (bit_xor x) (zero_mul c) ∙ xor_zero_r x) (zero_scaled xs divisor)

scaled_sum : (f h : ℕ) (divisor : List ℕ) → scaled (bit_xor f h) divisor ≡ sums (scaled f divisor) (scaled h divisor)
scaled_sum f h [] = refl
scaled_sum f h (c ∷ divisor) = ap₂ ◌∷◌ (mul_left f h c) (scaled_sum f h divisor)

pub sums_zeros : (xs : List ℕ) → sums xs (replicate (length xs) 0) ≡ xs
sums_zeros [] = refl
sums_zeros (x ∷ xs) = ap₂ ◌∷◌ (xor_zero_r x) (sums_zeros xs)

pub zeros_sums : (xs : List ℕ) → sums (replicate (length xs) 0) xs ≡ xs
zeros_sums [] = refl
zeros_sums (x ∷ xs) = ap₂ ◌∷◌ (xor_comm 0 x ∙ xor_zero_r x) (zeros_sums xs)

sums_back : (xs ys : List ℕ) → length xs ≡ length ys → sums ys (sums xs ys) ≡ xs
sums_back [] [] l = refl
sums_back [] (y ∷ ys) l = absurd (omega arith)
sums_back (x ∷ xs) [] l = absurd (omega arith)
sums_back (x ∷ xs) (y ∷ ys) l = ap₂ ◌∷◌
    (rw (xor_comm x y, ← xor_assoc y y x, xor_self y, xor_comm 0 x, xor_zero_r x)) (sums_back xs ys (omega arith))

-- ---- the register keeps sums

length_fed : (divisor rs : List ℕ) (b : ℕ) → length (fed divisor rs b) ≡ length rs
length_fed divisor rs b = length_register divisor rs (b ∷ [])

pub register_sums : (divisor rs us bs cs : List ℕ) → length rs ≡ length us → length rs ≡ length divisor
    → length bs ≡ length cs
    → register divisor (sums rs us) (sums bs cs) ≡ sums (register divisor rs bs) (register divisor us cs)
register_sums divisor rs us [] [] l m n = refl
register_sums divisor rs us [] (c ∷ cs) l m n = absurd (omega arith)
register_sums divisor rs us (b ∷ bs) [] l m n = absurd (omega arith)
register_sums divisor rs us (b ∷ bs) (c ∷ cs) l m n = ap (λ xs. register divisor xs (sums bs cs))
    (grind (arith, sums_append, xor_swap, scaled_sum, sums_swap, length_push, length_scaled))
    ∙ register_sums divisor (fed divisor rs b) (fed divisor us c) bs cs (length_fed divisor rs b ∙ l
    ∙ sym (length_fed divisor us c)) (length_fed divisor rs b ∙ m) (omega arith)

pub register_append : (divisor rs bs cs : List ℕ)
    → register divisor rs (bs ++ cs) ≡ register divisor (register divisor rs bs) cs
register_append divisor rs [] cs = refl
register_append divisor rs (b ∷ bs) cs = register_append divisor (fed divisor rs b) bs cs

-- ---- zeros, and bytes that move the register alone

zeros_push : (n : ℕ) → ◌≡◌ {A = List ℕ} (replicate n 0 ++ 0 ∷ []) (0 ∷ replicate n 0)
zeros_push zero = refl
zeros_push (suc n) = ap (◌∷◌ 0) (zeros_push n)

pub zero_fed : (divisor : List ℕ) (n : ℕ) → fed divisor (replicate n 0) 0 ≡ replicate n 0
zero_fed divisor zero = refl
zero_fed divisor (suc n) = zero_scaled (replicate n 0 ++ 0 ∷ []) divisor ∙ zeros_push n

-- zeros before the data count for nothing
pub zeros_before : (divisor bs : List ℕ) (n j : ℕ)
    → register divisor (replicate n 0) (replicate j 0 ++ bs) ≡ register divisor (replicate n 0) bs
zeros_before divisor bs n zero = refl
zeros_before divisor bs n (suc j) = ap (λ rs. register divisor rs (replicate j 0 ++ bs)) (zero_fed divisor n)
    ∙ zeros_before divisor bs n j

-- what the register's own first bytes feed moves it
own_shift : (divisor top rest : List ℕ) → register divisor (top ++ rest) top ≡ rest ++ replicate (length top) 0
own_shift divisor [] rest = sym (append-nil rest)
own_shift divisor (r ∷ top) rest = ap (λ xs. register divisor xs top)
    (rw (xor_self r, zero_scaled ((top ++ rest) ++ 0 ∷ []) divisor, append_assoc top rest (0 ∷ [])))
    ∙ own_shift divisor top (rest ++ 0 ∷ []) ∙ append_assoc rest (0 ∷ []) (replicate (length top) 0)

-- A step by many bytes: the register moves, and what the sums feed to zeros is added.
pub big_step : (divisor top rest bs : List ℕ) → length bs ≡ length top → length (top ++ rest) ≡ length divisor
    → register divisor (top ++ rest) bs ≡ sums (rest ++ replicate (length top) 0)
    (register divisor (replicate (length (top ++ rest)) 0) (sums bs top))
big_step divisor top rest bs l m =
    let ls : length (sums bs top) ≡ length bs = length_sums bs top in
    ap₂ (register divisor) (sym (sums_zeros (top ++ rest))) (sym (sums_back bs top l))
    ∙ register_sums divisor (top ++ rest) (replicate (length (top ++ rest)) 0) top (sums bs top)
    (sym (length-replicate {A = ℕ} (length (top ++ rest)) 0)) m (omega arith)
    ∙ ap (λ xs. sums xs (register divisor (replicate (length (top ++ rest)) 0) (sums bs top)))
    (own_shift divisor top rest)

-- ---- a divisor with zeros behind it

scaled_zeros : (f p : ℕ) → ◌≡◌ {A = List ℕ} (scaled f (replicate p 0)) (replicate p 0)
scaled_zeros f zero = refl
scaled_zeros f (suc p) = ap₂ ◌∷◌ (mul_zero f) (scaled_zeros f p)

scaled_append : (f : ℕ) (xs ys : List ℕ) → scaled f (xs ++ ys) ≡ scaled f xs ++ scaled f ys
scaled_append f [] ys = refl
scaled_append f (x ∷ xs) ys = ap (◌∷◌ (mul f x)) (scaled_append f xs ys)

zeros_sum : (p : ℕ) → ◌≡◌ {A = List ℕ} (sums (replicate p 0) (replicate p 0)) (replicate p 0)
zeros_sum zero = refl
zeros_sum (suc p) = ap (◌∷◌ 0) (zeros_sum p)

fed_padded : (divisor rs : List ℕ) (p b : ℕ) → length rs ≡ length divisor → 0 < length rs
    → fed (divisor ++ replicate p 0) (rs ++ replicate p 0) b ≡ fed divisor rs b ++ replicate p 0
fed_padded divisor [] p b l s = absurd (omega arith)
fed_padded divisor (r ∷ rs) p b l s =
    ap₂ sums (append_assoc rs (replicate p 0) (0 ∷ []) ∙ ap (λ xs. rs ++ xs) (zeros_push p)
    ∙ sym (append_assoc rs (0 ∷ []) (replicate p 0))) (grind (arith, scaled_append, scaled_zeros))
    ∙ sums_append (rs ++ 0 ∷ []) (scaled (bit_xor b r) divisor) (replicate p 0) (replicate p 0)
    (omega (arith, length_push rs 0, length_scaled (bit_xor b r) divisor))
    ∙ ap (λ xs. sums (rs ++ 0 ∷ []) (scaled (bit_xor b r) divisor) ++ xs) (zeros_sum p)

-- zeros behind the divisor stand behind the register and change nothing else
pub register_padded : (divisor rs bs : List ℕ) (p : ℕ) → length rs ≡ length divisor → 0 < length rs
    → register (divisor ++ replicate p 0) (rs ++ replicate p 0) bs ≡ register divisor rs bs ++ replicate p 0
register_padded divisor rs [] p l s = refl
register_padded divisor rs (b ∷ bs) p l s =
    ap (λ xs. register (divisor ++ replicate p 0) xs bs) (fed_padded divisor rs p b l s)
    ∙ register_padded divisor (fed divisor rs b) bs p (length_fed divisor rs b ∙ l) (grind (arith, length_fed))
