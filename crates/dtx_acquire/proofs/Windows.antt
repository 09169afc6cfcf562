-- How many signs of the symbols behind a place are unlike those of a field sync, word by word.
use Rattle.std.proofs.Common.{◌≡◌, ℕ, zero, suc, ℤ, pos, ◌+◌, ◌*◌, ◌-◌, ◌/◌, ◌%◌, ◌^◌, ◌<◌, ◌≤◌, false, cond, List}
use Rattle.std.proofs.Common.{length, map, take, drop, get_or, bit_xor, count_ones, refl, sym, ap, ap₂, ◌∙◌, arith}
use Rattle.std.proofs.Common.{drop-cons, length-drop}
use Rattle.std.specs.List.{range_with_len}
use Rattle.std.proofs.lemmas.List.{length-take-le, map-append, take-take, drop-take, drop-drop}
use Rattle.std.proofs.lemmas.List.Sums.{sum_by-append, sum_by-cons}
use Rattle.dtx_frame.specs.Segments.{sync_symbols}
use Rattle.dtx_frame.proofs.SymbolsLemmas.{first_is, length_front}
use Rattle.std.proofs.lemmas.Nat.{ones-le, xor_lt}
use lib.Pow.{pow_mono}
use Rattle.dtx_lists.proofs.Range.{range_with_len-parts}
use Rattle.dtx_acquire.specs.Agreement.{is_plus, sync_sign, unlike, unlike_at, ArePacked, packed}
use Rattle.dtx_acquire.specs.declared.signs.TheConstants.{MIDDLE, SIGNS}
use Rattle.dtx_acquire.proofs.Packing.{ones_unlike, packed_drop, packed_small, packed_take, packed_two, unlike_signs}

-- ---- the words of the sync

-- n symbols of a first field's sync from symbol i on
abbrev pub sync_part : ℕ → ℕ → List ℤ
sync_part i n = take n (drop i (sync_symbols false))

-- each is read from the table of its symbols
whole_words : (k : ℕ) → k < 8 → get_or SIGNS k 0 ≡ packed (sync_part (64 * k) 64)
whole_words zero l = refl ∙ ap (λ xs. packed (take 64 (drop 0 xs))) first_is
whole_words (suc zero) l = refl ∙ ap (λ xs. packed (take 64 (drop 64 xs))) first_is
whole_words (suc (suc zero)) l = refl ∙ ap (λ xs. packed (take 64 (drop 128 xs))) first_is
whole_words (suc (suc (suc zero))) l = refl ∙ ap (λ xs. packed (take 64 (drop 192 xs))) first_is
whole_words (suc (suc (suc (suc zero)))) l = refl ∙ ap (λ xs. packed (take 64 (drop 256 xs))) first_is
whole_words (suc (suc (suc (suc (suc zero))))) l = refl ∙ ap (λ xs. packed (take 64 (drop 320 xs))) first_is
whole_words (suc (suc (suc (suc (suc (suc zero)))))) l = refl ∙ ap (λ xs. packed (take 64 (drop 384 xs))) first_is
whole_words (suc (suc (suc (suc (suc (suc (suc zero))))))) l = refl ∙ ap (λ xs. packed (take 64 (drop 448 xs))) first_is
whole_words (suc (suc (suc (suc (suc (suc (suc (suc k)))))))) l = absurd (omega arith)

last_word : get_or SIGNS 8 0 ≡ packed (sync_part 512 3)
last_word = refl ∙ ap (λ xs. packed (take 3 (drop 512 xs))) first_is

middle_word : MIDDLE ≡ packed (sync_part 578 63)
middle_word = refl ∙ ap (λ xs. packed (take 63 (drop 578 xs))) first_is

length_sync : (i n : ℕ) → i + n ≤ 820 → length (sync_part i n) ≡ n
length_sync i n l = grind (arith, length-take-le, length-drop, length_front)

-- ---- the signs behind a place

-- n symbols from symbol i behind a place on
abbrev pub part : List ℤ → ℕ → ℕ → List ℤ
part symbols place n = take n (drop place symbols)

length_part : (symbols : List ℤ) (place n : ℕ) → place + n ≤ length symbols → length (part symbols place n) ≡ n
length_part symbols place n l = length-take-le n (drop place symbols) (omega (arith, length-drop place symbols))

unlike_more : (symbols : List ℤ) (place i n : ℕ)
    → unlike symbols place i (suc n) ≡ unlike_at symbols place i + unlike symbols place (i + 1) n
unfolding unlike
unlike_more symbols place i n =
    sum_by-cons (λ x. x) (unlike_at symbols place i) (map (unlike_at symbols place) (range_with_len (i + 1) n))

pub unlike_is : (symbols : List ℤ) (place i n : ℕ) → place + i + n ≤ length symbols → i + n ≤ 820
    → unlike_signs (part symbols (place + i) n) (sync_part i n) ≡ unlike symbols place i n
unfolding unlike unlike_at sync_sign
unlike_is symbols place i zero l m = refl
unlike_is symbols place i (suc n) l m =
    let a = drop-cons symbols (place + i) (pos 0) (omega arith) in
    let b = drop-cons (sync_symbols false) i (pos 0) (omega (arith, length_front false)) in
    let one : suc (place + i) ≡ place + (i + 1) = omega arith in
    let two : suc i ≡ i + 1 = omega arith in
    ap₂ (λ (xs ys : List ℤ). unlike_signs (take (suc n) xs) (take (suc n) ys)) a b
    ∙ ap₂ (λ (x y : ℕ). unlike_at symbols place i + unlike_signs (part symbols x n) (sync_part y n)) one two
    ∙ ap (λ x. unlike_at symbols place i + x) (unlike_is symbols place (i + 1) n (omega arith) (omega arith))
    ∙ sym (unlike_more symbols place i n)

-- of two parts one behind the other
pub unlike_parts : (symbols : List ℤ) (place i m n j : ℕ) → i + m ≡ j
    → unlike symbols place i (m + n) ≡ unlike symbols place i m + unlike symbols place j n
unfolding unlike
unlike_parts symbols place i m n j e = grind (arith, range_with_len-parts, map-append, sum_by-append)

-- ---- words

-- 64 signs of two words, from one of the first on
shifted_is : (symbols : List ℤ) (place from first second : ℕ) → from < 64 → place + 128 ≤ length symbols
    → first ≡ packed (part symbols place 64) → second ≡ packed (part symbols (place + 64) 64)
    → (second * 2 ^ 64 + first) / 2 ^ from % 2 ^ 64 ≡ packed (part symbols (place + from) 64)
shifted_is symbols place from first second l m e f = ap₂ (λ a b. (a * 2 ^ 64 + b) / 2 ^ from % 2 ^ 64)
    (f ∙ ap (λ xs. packed (take 64 xs)) (sym (drop-drop 64 place symbols))) e
    ∙ ap (λ x. x / 2 ^ from % 2 ^ 64) (packed_two (drop place symbols) 64 64)
    ∙ ap (λ x. x % 2 ^ 64) (packed_drop (take 128 (drop place symbols)) from)
    ∙ packed_take (drop from (take 128 (drop place symbols))) 64
    ∙ ap packed (inner (128 - from) (omega arith) (omega arith))
  where
    inner : (rest : ℕ) → 128 ≡ from + rest → 64 ≤ rest
        → take 64 (drop from (take 128 (drop place symbols))) ≡ part symbols (place + from) 64
    inner rest g k = simp (g, drop-take, take-take, drop-drop)

-- word k from a place on
pub word_unlike : (words : List ℕ) (symbols : List ℤ) (place from k word : ℕ) → from < 64 → k < 8
    → place + 640 ≤ length symbols → ArePacked words symbols place
    → word ≡ (get_or words (k + 1) 0 * 2 ^ 64 + get_or words k 0) / 2 ^ from % 2 ^ 64
    → count_ones (bit_xor word (get_or SIGNS k 0)) ≡ unlike symbols (place + from) (64 * k) 64
word_unlike words symbols place from k word l m n h e =
    ap₂ (λ a b. count_ones (bit_xor a b)) (e ∙ own k m) (whole_words k m)
    ∙ ones_unlike (part symbols (place + from + 64 * k) 64) (sync_part (64 * k) 64)
    (length_part symbols (place + from + 64 * k) 64 (omega arith) ∙ sym (length_sync (64 * k) 64 (omega arith)))
    ∙ unlike_is symbols (place + from) (64 * k) 64 (omega arith) (omega arith)
  where
    own : (k : ℕ) → k < 8 → (get_or words (k + 1) 0 * 2 ^ 64 + get_or words k 0) / 2 ^ from % 2 ^ 64
        ≡ packed (part symbols (place + from + 64 * k) 64)
    own k m =
        let next : place + 64 * (k + 1) ≡ place + 64 * k + 64 = omega arith in
        let turn : place + 64 * k + from ≡ place + from + 64 * k = omega arith in
        shifted_is symbols (place + 64 * k) from (get_or words k 0) (get_or words (k + 1) 0) l (omega arith)
        (h k (omega arith)) (grind arith) ∙ ap (λ p. packed (part symbols p 64)) turn

-- the last three symbols
pub last_unlike : (words : List ℕ) (symbols : List ℤ) (place from word : ℕ) → from < 64
    → place + 640 ≤ length symbols → ArePacked words symbols place
    → word ≡ (get_or words 9 0 * 2 ^ 64 + get_or words 8 0) / 2 ^ from % 2 ^ 64
    → count_ones (bit_xor (word % 8) (get_or SIGNS 8 0)) ≡ unlike symbols (place + from) 512 3
last_unlike words symbols place from word l n h e = ap₂ (λ a b. count_ones (bit_xor a b))
    (ap (λ x. x % 8) (e ∙ own) ∙ packed_take (part symbols (place + from + 512) 64) 3
    ∙ ap packed (take-take 3 64 (drop (place + from + 512) symbols) (omega arith))) last_word
    ∙ ones_unlike (part symbols (place + from + 512) 3) (sync_part 512 3)
    (length_part symbols (place + from + 512) 3 (omega arith) ∙ sym (length_sync 512 3 (omega arith)))
    ∙ unlike_is symbols (place + from) 512 3 (omega arith) (omega arith)
  where
    own : (get_or words 9 0 * 2 ^ 64 + get_or words 8 0) / 2 ^ from % 2 ^ 64
        ≡ packed (part symbols (place + from + 512) 64)
    own =
        let next : place + 64 * 9 ≡ place + 512 + 64 = omega arith in
        let turn : place + 512 + from ≡ place + from + 512 = omega arith in
        shifted_is symbols (place + 512) from (get_or words 8 0) (get_or words 9 0) l (omega arith)
        (h 8 (omega arith)) (grind arith) ∙ ap (λ p. packed (part symbols p 64)) turn

-- the middle short sequence
pub middle_unlike : (segment : List ℤ) (word : ℕ) → length segment ≡ 832 → word ≡ packed (part segment 578 64)
    → count_ones (bit_xor (word % 2 ^ 63) MIDDLE) ≡ unlike segment 0 578 63
middle_unlike segment word e f = ap₂ (λ a b. count_ones (bit_xor a b))
    (rw (f, packed_take (part segment 578 64) 63, take-take 63 64 (drop 578 segment) (omega arith))) middle_word
    ∙ ones_unlike (part segment 578 63) (sync_part 578 63)
    (length_part segment 578 63 (omega arith) ∙ sym (length_sync 578 63 (omega arith)))
    ∙ unlike_is segment 0 578 63 (omega arith) (omega arith)

-- one sign more in front
pub packed_more : (symbols : List ℤ) (place n word : ℕ) → n < 64 → place + 64 ≤ length symbols
    → word ≡ packed (part symbols (place + (n + 1)) (64 - (n + 1)))
    → 2 * word + cond (is_plus (get_or symbols (place + n) (pos 0))) 1 0 ≡ packed (part symbols (place + n) (64 - n))
packed_more symbols place n word l m e =
    let next : suc (place + n) ≡ place + (n + 1) = omega arith in
    let more : 64 - n ≡ suc (64 - (n + 1)) = omega arith in
    turned word (cond (is_plus (get_or symbols (place + n) (pos 0))) 1 0) ∙ grind (arith, drop-cons)
  where
    turned : (w b : ℕ) → 2 * w + b ≡ b + 2 * w
    turned w b = omega arith

pub packed_room : (symbols : List ℤ) (place n word : ℕ) → n < 64 → place + 64 ≤ length symbols
    → word ≡ packed (part symbols (place + (n + 1)) (64 - (n + 1))) → word < 2 ^ 63
packed_room symbols place n word l m e =
    let small = packed_small (part symbols (place + (n + 1)) (64 - (n + 1))) in
    let long = length_part symbols (place + (n + 1)) (64 - (n + 1)) (omega arith) in
    let bound : 2 ^ length (part symbols (place + (n + 1)) (64 - (n + 1))) ≤ 2 ^ 63 = pow_mono {j = 63} (omega arith) in
    omega arith

pub word_ones : (word k : ℕ) → word < 2 ^ 64 → k < 8 → count_ones (bit_xor word (get_or SIGNS k 0)) ≤ 64
word_ones word k l m = ones-le 64 (bit_xor word (get_or SIGNS k 0)) (xor_lt 64 word (get_or SIGNS k 0) l small)
  where
    small : get_or SIGNS k 0 < 2 ^ 64
    small = grind (arith, length_sync, whole_words, packed_small)
