-- The bytes of the number that bytes read as are those bytes.
use Rattle.std.proofs.Common.{◌≡◌, ℕ, zero, suc, ◌+◌, ◌*◌, ◌/◌, ◌^◌, ◌<◌, ◌≤◌, List, [], ◌∷◌, ◌++◌, length, take, drop}
use Rattle.std.proofs.Common.{slice_index, refl, ap, ap₂, sym, ◌∙◌, arith}
use Rattle.std.proofs.Math.Nat.{pow-succ', mod-lt, mul-le-mul_right}
use Rattle.std.proofs.lemmas.List.{append-nil, take-append-drop, drop-drop, length-take-le, length-drop}
use Rattle.std.proofs.lemmas.Nat.{div-mul-add, mod-mul-add}
use Rattle.std.specs.Int.{byte_at, bytes_high_first}
use Rattle.dtx_galois.specs.Field.{AreBytes}
use Rattle.byteorder.specs.Endian.{big_from, big_bytes, big_number}
use Rattle.byteorder.specs.Numbers.{big_from-cons, big_from-take, length-bytes_high_first, big_number-reads_back}

-- the first byte counts most
number-cons : (x : ℕ) (xs : List ℕ)
    → big_from 0 (suc (length xs)) (x ∷ xs) ≡ x * 256 ^ length xs + big_from 0 (length xs) xs
number-cons x xs = ap (λ (r : ℕ). x * 256 ^ length xs + r) (big_from-cons 0 (length xs) x xs)

-- the number that bytes read as is below its bound
pub number_below : (xs : List ℕ) → AreBytes xs → big_from 0 (length xs) xs < 256 ^ length xs
number_below [] h = omega arith
number_below (x ∷ xs) h =
    let rest = number_below xs h.1 in
    let top : x * 256 ^ length xs ≤ 255 * 256 ^ length xs = mul-le-mul_right (256 ^ length xs) (omega (arith, h.0)) in
    rw (number-cons x xs, pow-succ' 256 (length xs)) (omega arith)

-- lists of bytes of one length that read as one number are one list
pub same_bytes : (xs ys : List ℕ) → length xs ≡ length ys → AreBytes xs → AreBytes ys
    → big_from 0 (length xs) xs ≡ big_from 0 (length ys) ys → xs ≡ ys
same_bytes [] [] l h k e = refl
same_bytes [] (y ∷ ys) l h k e = absurd (omega arith)
same_bytes (x ∷ xs) [] l h k e = absurd (omega arith)
same_bytes (x ∷ xs) (y ∷ ys) l h k e =
    let same : length xs ≡ length ys = omega arith in
    let sum : x * 256 ^ length xs + big_from 0 (length xs) xs ≡ y * 256 ^ length xs + big_from 0 (length ys) ys =
    grind (arith, number-cons) in
    let small = number_below xs h.1 in
    let small' : big_from 0 (length ys) ys < 256 ^ length xs = rw same (number_below ys k.1) in
    let heads : x ≡ y = sym (div-mul-add x (256 ^ length xs) (big_from 0 (length xs) xs) small)
    ∙ ap (λ (t : ℕ). t / 256 ^ length xs) sum ∙ div-mul-add y (256 ^ length xs) (big_from 0 (length ys) ys) small' in
    let tails : big_from 0 (length xs) xs ≡ big_from 0 (length ys) ys = grind (arith, mod-mul-add) in
    ap₂ (λ (a : ℕ) (as' : List ℕ). a ∷ as') heads (same_bytes xs ys same h.1 k.1 tails)

-- a byte of a number is a byte
byte_below : (k x : ℕ) → byte_at k x < 256
byte_below zero x = mod-lt x (omega arith)
byte_below (suc k) x = mod-lt (x / 256 ^ suc k) (omega arith)

-- the bytes of a number are bytes
pub bytes_are : (n x : ℕ) → AreBytes (bytes_high_first n x)
bytes_are zero x = tt
bytes_are (suc n) x = (byte_below n x, bytes_are n x)

-- n bytes are the bytes of the number that they read as
pub big_bytes-big_number : (n : ℕ) (xs : List ℕ) → length xs ≡ n → AreBytes xs → big_bytes n (big_number n xs) ≡ xs
big_bytes-big_number n xs l h =
    let ys : List ℕ = big_bytes n (big_number n xs) in
    let m : length ys ≡ n = length-bytes_high_first n (big_number n xs) in
    let back : big_from 0 n ys ≡ big_number n xs = sym (ap (big_from 0 n) (append-nil ys))
    ∙ big_number-reads_back n (big_number n xs) [] (rw (sym l) (number_below xs h)) in
    same_bytes ys xs (m ∙ sym l) (bytes_are n (big_number n xs)) h (grind arith)

-- any part of bytes is bytes
pub AreBytes-drop : (k : ℕ) (xs : List ℕ) → AreBytes xs → AreBytes (drop k xs)
AreBytes-drop zero xs h = h
AreBytes-drop (suc k) [] h = tt
AreBytes-drop (suc k) (x ∷ xs) h = AreBytes-drop k xs h.1

pub AreBytes-take : (k : ℕ) (xs : List ℕ) → AreBytes xs → AreBytes (take k xs)
AreBytes-take zero xs h = tt
AreBytes-take (suc k) [] h = tt
AreBytes-take (suc k) (x ∷ xs) h = (h.0, AreBytes-take k xs h.1)

-- the first m bytes, as the bytes of their number, and the rest
pub number_and_rest : (m : ℕ) (xs : List ℕ) → m ≤ length xs → AreBytes xs
    → big_bytes m (big_number m xs) ++ drop m xs ≡ xs
number_and_rest m xs l h =
    ap (λ (t : List ℕ). t ++ drop m xs) (ap (big_bytes m) (sym (big_from-take 0 m m xs (omega arith)))
    ∙ big_bytes-big_number m (take m xs) (length-take-le m xs l) (AreBytes-take m xs h)) ∙ take-append-drop m xs

-- the same from a place on
pub number_at : (m k n : ℕ) (xs : List ℕ) → k + m ≡ n → n ≤ length xs → AreBytes xs
    → big_bytes m (big_number m (drop k xs)) ++ drop n xs ≡ drop k xs
number_at m k n xs e l h = ap (λ (t : List ℕ). big_bytes m (big_number m (drop k xs)) ++ t) (grind (arith, drop-drop))
    ∙ number_and_rest m (drop k xs) (omega (arith, length-drop k xs)) (AreBytes-drop k xs h)

-- each byte, and 0 behind the last
pub byte_within : (xs : List ℕ) → AreBytes xs → (k : ℕ) → slice_index xs k < 256
byte_within [] h k = omega arith
byte_within (x ∷ xs) h zero = h.0
byte_within (x ∷ xs) h (suc k) = byte_within xs h.1 k
