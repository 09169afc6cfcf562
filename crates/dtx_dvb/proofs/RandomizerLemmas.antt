-- What is known of the randomizer's bits and bytes.
use Rattle.std.proofs.Common.{◌≡◌, ℕ, zero, suc, ◌≢◌, ◌+◌, ◌-◌, ◌*◌, ◌%◌, ◌<◌, ◌≤◌, ◌==◌, List, [], ◌∷◌, ◌++◌, length}
use Rattle.std.proofs.Common.{get_or, bit_xor, sym, ap, ap₂, ◌∙◌, arith, ◌⊎◌, cond, Bool, true, false, inl, inr}
use Rattle.std.proofs.Common.{nat_lt, refl, subst, lit<}
use Rattle.std.proofs.lemmas.Bool.{cond-true, cond-false, eq-eqb, ne_eqb, cases_lt, ltb-true}
use Rattle.std.proofs.lemmas.List.{get_or_append_left, get_or_push, length_push}
use Rattle.std.proofs.lemmas.List.FromFn.{fill_by_all, length-map-range_with_len, get_or-map-range_with_len}
use Rattle.dtx_dvb.specs.Randomizer.{loaded, sequence, randomizer_bit, eight_bits, randomizer_byte, randomizer_bytes}
use Rattle.dtx_dvb.specs.Randomizer.{with_next}
use Rattle.std.specs.Int.Bits.{xor_lt}
use Rattle.dtx_galois.specs.Field.{AreBytes}
use Rattle.dtx_galois.proofs.BytesLemmas.{AreBytes-from_places}
use Rattle.dtx_lists.proofs.Below.{at_below}

-- ---- bits

pub length-sequence : (n : ℕ) → length (sequence n) ≡ 15 + n
unfolding sequence loaded
length-sequence zero = refl
length-sequence (suc n) =
    length_push (sequence n) _ ∙ ap (λ (k : ℕ). k + 1) (length-sequence n)
    ∙ (let e : 15 + n + 1 ≡ 15 + suc n = omega arith in e)

small_loaded : (i : ℕ) → i < 15 → get_or loaded i 0 < 2
unfolding loaded
small_loaded i l = ltb-true (get_or loaded i 0) 2 (at_below (λ i. nat_lt (get_or loaded i 0) 2) 15 i refl l)

-- with one bit more
small_push : (s : List ℕ) (i : ℕ) → ((j : ℕ) → j < length s → get_or s j 0 < 2) → 15 ≤ length s
    → i < length (with_next s) → get_or (with_next s) i 0 < 2
small_push s i h k l = by_cases (cases_lt i (length s))
  where
    next : ℕ
    next = bit_xor (get_or s (length s - 14) 0) (get_or s (length s - 15) 0)

    by_cases : (i < length s) ⊎ (length s ≤ i) → get_or (s ++ next ∷ []) i 0 < 2
    by_cases (inl m) = subst (λ (x : ℕ). x < 2) (sym (get_or_append_left s (next ∷ []) 0 i m)) (h i m)
    by_cases (inr m) =
        let e : length s ≡ i = omega (arith, l, m, length_push s next) in
        subst (λ (x : ℕ). x < 2) (sym (get_or_push s next 0 i e))
        (xor_lt 1 (get_or s (length s - 14) 0) (get_or s (length s - 15) 0) (h (length s - 14) (omega (arith, k)))
        (h (length s - 15) (omega (arith, k))))

-- each is a bit
pub small_bits : (n i : ℕ) → i < length (sequence n) → get_or (sequence n) i 0 < 2
unfolding sequence
small_bits zero i l = small_loaded i (omega (arith, l, length-sequence zero))
small_bits (suc n) i l = small_push (sequence n) i (small_bits n) (omega (arith, length-sequence n)) l

small_bit : (t : ℕ) → randomizer_bit t < 2
unfolding randomizer_bit
small_bit t = small_bits (suc t) (15 + t) (omega (arith, length-sequence (suc t)))

-- the bits before stay as more come
pub sequence_stays : (n m i : ℕ) → i < 15 + n → get_or (sequence (m + n)) i 0 ≡ get_or (sequence n) i 0
unfolding sequence
sequence_stays n zero i l = ap (λ k. get_or (sequence k) i 0) (let e : 0 + n ≡ n = omega arith in e)
sequence_stays n (suc m) i l = ap (λ k. get_or (sequence k) i 0) (let e : suc m + n ≡ suc (m + n) = omega arith in e)
    ∙ get_or_append_left (sequence (m + n)) _ 0 i (omega (arith, l, length-sequence (m + n)))
    ∙ sequence_stays n m i l

-- place by place
pub bit_in : (n t : ℕ) → t < n → get_or (sequence n) (15 + t) 0 ≡ randomizer_bit t
unfolding randomizer_bit
bit_in n t l = ap (λ k. get_or (sequence k) (15 + t) 0) (let e : n ≡ n - suc t + suc t = omega (arith, l) in e)
    ∙ sequence_stays (suc t) (n - suc t) (15 + t) (omega arith)

pub loaded_in : (n i : ℕ) → i < 15 → get_or (sequence n) i 0 ≡ get_or loaded i 0
unfolding sequence
loaded_in n i l =
    ap (λ k. get_or (sequence k) i 0) (let e : n ≡ n + 0 = omega arith in e) ∙ sequence_stays 0 n i (omega (arith, l))

-- the next bit, by places of the list
pub sequence_next : (n : ℕ) → sequence (suc n)
    ≡ sequence n ++ (bit_xor (get_or (sequence n) (n + 1) 0) (get_or (sequence n) n 0)) ∷ []
unfolding sequence
sequence_next n = ap₂ (λ (i j : ℕ). sequence n ++ (bit_xor (get_or (sequence n) i 0) (get_or (sequence n) j 0)) ∷ [])
    (omega (arith, length-sequence n)) (omega (arith, length-sequence n))

-- the rule of the sequence
pub sequence_rule : (n i : ℕ) → i < n → get_or (sequence n) (15 + i) 0
    ≡ bit_xor (get_or (sequence n) (1 + i) 0) (get_or (sequence n) i 0)
sequence_rule n i l = before (suc i) (15 + i) l (omega arith) ∙ ap (λ s. get_or s (15 + i) 0) (sequence_next i)
    ∙ get_or_push (sequence i) _ 0 (15 + i) (length-sequence i) ∙ ap₂ bit_xor (grind (arith, before))
    (sym (before i i (omega (arith, l)) (omega arith)))
  where
    before : (m j : ℕ) → m ≤ n → j < 15 + m → get_or (sequence n) j 0 ≡ get_or (sequence m) j 0
    before m j k h = ap (λ a. get_or (sequence a) j 0) (let e : n ≡ n - m + m = omega (arith, k) in e)
        ∙ sequence_stays m (n - m) j h

-- ---- bytes

pub length-randomizer_bytes : length randomizer_bytes ≡ 188 * 8
unfolding randomizer_bytes
length-randomizer_bytes = length-map-range_with_len randomizer_byte 0 (188 * 8)

pub get_or-randomizer_bytes : (t : ℕ) → t < 188 * 8 → get_or randomizer_bytes t 0 ≡ randomizer_byte t
unfolding randomizer_bytes
get_or-randomizer_bytes t l =
    get_or-map-range_with_len randomizer_byte 0 (188 * 8) t t 0 l (let e : 0 + t ≡ t = omega arith in e)

pub small_byte : (t : ℕ) → randomizer_byte t < 256
unfolding randomizer_byte
small_byte t = by_test (t == 0) (t % 188 == 0)
  where
    o : ℕ → ℕ
    o i = randomizer_bit (8 * (t - 1) + i)

    small : (i : ℕ) → o i < 2
    small i = small_bit (8 * (t - 1) + i)

    by_test : (a b : Bool) → cond a 0xff (cond b 0 (eight_bits o)) < 256
    by_test true b = lit< tt
    by_test false true = lit< tt
    by_test false false =
        omega (arith, small 0, small 1, small 2, small 3, small 4, small 5, small 6, small 7)

pub bytes_randomizer_bytes : AreBytes randomizer_bytes
bytes_randomizer_bytes =
    AreBytes-from_places randomizer_bytes
    (λ t l. subst (λ (x : ℕ). x < 256)
    (sym (get_or-randomizer_bytes t (subst (λ (x : ℕ). t < x) length-randomizer_bytes l))) (small_byte t))

-- by the three kinds of places
pub byte_first : (t : ℕ) → t ≡ 0 → 255 ≡ randomizer_byte t
unfolding randomizer_byte
byte_first t e = sym (cond-true (t == 0) 255 _ (eq-eqb t 0 e))

pub byte_sync : (t : ℕ) → t ≢ 0 → t % 188 ≡ 0 → 0 ≡ randomizer_byte t
unfolding randomizer_byte
byte_sync t n e = sym (cond-false (t == 0) 255 _ (ne_eqb t 0 n) ∙ cond-true (t % 188 == 0) 0 _ (eq-eqb (t % 188) 0 e))

pub byte_else : (n t : ℕ) → t ≢ 0 → t % 188 ≢ 0 → 8 * (t - 1) + 8 ≤ n
    → randomizer_byte t ≡ eight_bits (λ i. get_or (sequence n) (15 + 8 * (t - 1) + i) 0)
unfolding randomizer_byte
byte_else n t a b l =
    let eight : eight_bits (λ i. randomizer_bit (8 * (t - 1) + i)) ≡ eight_bits
    (λ i. get_or (sequence n) (15 + 8 * (t - 1) + i) 0) = omega (
      arith,
      place 0 (omega arith),
      place 1 (omega arith),
      place 2 (omega arith),
      place 3 (omega arith),
      place 4 (omega arith),
      place 5 (omega arith),
      place 6 (omega arith),
      place 7 (omega arith),
    ) in
    cond-false (t == 0) 255 _ (ne_eqb t 0 a) ∙ cond-false (t % 188 == 0) 0 _ (ne_eqb (t % 188) 0 b) ∙ eight
  where
    place : (i : ℕ) → i < 8 → randomizer_bit (8 * (t - 1) + i) ≡ get_or (sequence n) (15 + 8 * (t - 1) + i) 0
    place i m = sym (bit_in n (8 * (t - 1) + i) (omega (arith, l, m)))
        ∙ ap (λ k. get_or (sequence n) k 0) (let e : 15 + (8 * (t - 1) + i) ≡ 15 + 8 * (t - 1) + i = omega arith in e)

-- known place by place
pub randomizer_bytes_by : (bytes : List ℕ) → length bytes ≡ 188 * 8
    → ((t : ℕ) → t < 188 * 8 → get_or bytes t 0 ≡ randomizer_byte t) → bytes ≡ randomizer_bytes
unfolding randomizer_bytes
randomizer_bytes_by bytes l h = fill_by_all randomizer_byte bytes (188 * 8) 0 l h
