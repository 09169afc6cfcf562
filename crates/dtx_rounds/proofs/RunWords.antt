-- The words and bytes that are known of a run, field by field, and what is known where the words of one field more are
-- sought.
use Rattle.std.proofs.Common.{◌≡◌, ℕ, ◌-◌, ◌*◌, ◌/◌, ◌%◌, ◌<◌, ◌≤◌, ◌⊎◌, inl, inr, nat_le, Bool, true, false, cond}
use Rattle.std.proofs.Common.{Option, Some, None, option_map, List, length, get_or, refl, sym, ◌∙◌, arith, ◌+◌, take}
use Rattle.std.proofs.Common.{drop, ap, nat_lt, is_some, ap₂}
use Rattle.std.proofs.lemmas.Bool.{cases_lt, leb-true, cond-false, cond-true, true≢false, le-leb, le-ltb, lt-leb}
use Rattle.std.proofs.lemmas.Bool.{lt-ltb}
use Rattle.std.proofs.lemmas.List.{get_or_past, get_or-drop, length-drop, get_or_default}
use Rattle.std.proofs.lemmas.List.FromFn.{get_or-map-range_with_len, length-map-range_with_len}
use Rattle.dtx_laws.specs.Words.{correction}
use Rattle.dtx_outer.specs.Inner.{IsComplete, word_at}
use Rattle.dtx_outer.proofs.WordsLemmas.{get_or-word, length-word, word_by}
use Rattle.dtx_receiver.specs.Packets.{is_complete}
use Rattle.dtx_receiver.proofs.CompleteLemmas.{complete_all, complete_only, complete_told}
use Rattle.dtx_rounds.specs.Found.{code_byte, new_code, or_else}
use Rattle.dtx_rounds.specs.Known.{known_byte, known_bytes, known_code_byte, known_word}
use Rattle.dtx_rounds.specs.RunField.{codes_upto, StayKnown}
use Rattle.dtx_rounds.proofs.FoundWords.{map_or}
use Rattle.dtx_rounds.proofs.KnownLemmas.{known_parts, known_place, known_absent, known_there}
use Rattle.dtx_rounds.proofs.LaidWords.{at_place}

pub length-known : (bytes : List ℕ) → length (known_bytes bytes) ≡ length bytes
unfolding known_bytes
length-known bytes = length-map-range_with_len (known_byte bytes) 0 (length bytes)

-- behind the bytes of a run nothing is known
known_past : (bytes : List ℕ) (n : ℕ) → length bytes ≤ n → known_byte bytes n ≡ None
unfolding known_byte known_code_byte
known_past bytes n l = by_test (nat_le (208 * (n % 52)) n) refl
  where
    p : ℕ
    p = n - 208 * (n % 52)

    by_word : (o : Option (List ℕ)) → known_word bytes (p / 207) ≡ o → 208 * (n % 52) ≤ n
        → option_map (λ (code : List ℕ). get_or code (p % 207) 0) o ≡ None
    by_word None e m = refl
    by_word (Some code) e m = absurd (omega (
      arith,
      l,
      known_place bytes (p / 207) (p % 207) code (known_parts bytes (p / 207) code e) (omega arith),
      at_place (p / 207) n m refl,
    ))

    by_test : (b : Bool) → nat_le (208 * (n % 52)) n ≡ b
        → cond b (option_map (λ (code : List ℕ). get_or code (p % 207) 0) (known_word bytes (p / 207))) None ≡ None
    by_test true t = by_word (known_word bytes (p / 207)) refl (leb-true (208 * (n % 52)) n t)
    by_test false t = refl

pub known_entry : (bytes : List ℕ) (n : ℕ) → get_or (known_bytes bytes) n None ≡ known_byte bytes n
unfolding known_bytes
known_entry bytes n = grind (arith, cases_lt, get_or-map-range_with_len, get_or_past, length-known, known_past)

-- Of so many data segments in whole groups, `there` are those of a field and of the one behind it.
abbrev pub AreThere : (f segments there : ℕ) → Type 0
AreThere f segments there = ((there ≡ 624) × (312 * f + 624 ≤ segments)) ⊎ (312 * f + there ≡ segments)

complete_in_field : (f s m k : ℕ) → AreThere f s m → k < 312 → IsComplete 207 52 4 (207 * s) (312 * f + k)
    → IsComplete 207 52 4 (207 * m) k
complete_in_field f s m k (inl h) l c = complete_all m k (inl (omega (arith, l, h.0)))
complete_in_field f s m k (inr h) l c = complete_all m k (elim (complete_only s (312 * f + k) c) [
  | inl a ↦ inl (omega (arith, a, h))
  | inr a ↦ inr (omega (arith, a.0, h), omega (arith, a.1))
])

complete_in_run : (f s m k : ℕ) → AreThere f s m → k < 312 → IsComplete 207 52 4 (207 * m) k
    → IsComplete 207 52 4 (207 * s) (312 * f + k)
complete_in_run f s m k (inl h) l c = complete_all s (312 * f + k) (inl (omega (arith, l, h.1)))
complete_in_run f s m k (inr h) l c = complete_all s (312 * f + k) (elim (complete_only m k c) [
  | inl a ↦ inl (omega (arith, a, h))
  | inr a ↦ inr (omega (arith, a.0, h), omega (arith, a.1))
])

word_in_field : (bytes : List ℕ) (f k : ℕ)
    → word_at 207 52 4 bytes (312 * f + k) ≡ word_at 207 52 4 (drop (64584 * f) bytes) k
word_in_field bytes f k = word_by 207 52 4 (drop (64584 * f) bytes) k (word_at 207 52 4 bytes (312 * f + k))
    (length-word 207 52 4 bytes (312 * f + k)) (λ j l. grind (arith, get_or-word, get_or-drop))

-- a word that begins in a field
pub known_in_field : (bytes : List ℕ) (f s m k : ℕ) → length bytes ≡ 207 * s → AreThere f s m → k < 312
    → known_word bytes (312 * f + k) ≡ known_word (take (207 * m) (drop (64584 * f) bytes)) k
unfolding known_word
known_in_field bytes f s m k long there l = by_test (is_complete (207 * s) (312 * f + k)) refl
  where
    most : 207 * m ≤ length (drop (64584 * f) bytes)
    most = grind (arith, length-drop)

    by_test : (b : Bool) → is_complete (207 * s) (312 * f + k) ≡ b
        → known_word bytes (312 * f + k) ≡ known_word (take (207 * m) (drop (64584 * f) bytes)) k
    by_test true t =
        cond-true (is_complete (length bytes) (312 * f + k)) (correction 207 187 (word_at 207 52 4 bytes (312 * f + k)))
        None (ap (λ n. is_complete n (312 * f + k)) long ∙ t) ∙ ap (correction 207 187) (word_in_field bytes f k)
        ∙ sym (known_there (drop (64584 * f) bytes) (207 * m) k most
        (complete_in_field f s m k there l ((complete_told (207 * s) (312 * f + k)).0 t)))
    by_test false t = cond-false (is_complete (length bytes) (312 * f + k))
        (correction 207 187 (word_at 207 52 4 bytes (312 * f + k))) None
        (ap (λ n. is_complete n (312 * f + k)) long ∙ t) ∙ sym (known_absent (drop (64584 * f) bytes) (207 * m) k most
        (λ c. true≢false (sym ((complete_told (207 * s) (312 * f + k)).1 (complete_in_run f s m k there l c)) ∙ t)))

-- ---- corrections up to a word

pub upto_now : (before now : List ℕ) (m k : ℕ) → k < m → codes_upto before now m k ≡ known_word now k
unfolding codes_upto
upto_now before now m k l = cond-true (nat_lt k m) (known_word now k) (known_word before k) (lt-ltb k m l)

pub upto_before : (before now : List ℕ) (m k : ℕ) → m ≤ k → codes_upto before now m k ≡ known_word before k
unfolding codes_upto
upto_before before now m k l = cond-false (nat_lt k m) (known_word now k) (known_word before k) (le-ltb k m l)

-- ---- the byte at a place

-- by the word that has it
pub code_byte_at : (codes : ℕ → Option (List ℕ)) (n : ℕ) → 208 * (n % 52) ≤ n → code_byte codes n
    ≡ option_map (λ (code : List ℕ). get_or code ((n - 208 * (n % 52)) % 207) 0) (codes ((n - 208 * (n % 52)) / 207))
unfolding code_byte
code_byte_at codes n l = grind (arith, cond-true, le-leb)

pub code_byte_past : (codes : ℕ → Option (List ℕ)) (n : ℕ) → n < 208 * (n % 52) → code_byte codes n ≡ None
unfolding code_byte
code_byte_past codes n l = grind (arith, cond-false, lt-leb)

-- where the word's corrections are the same
pub code_byte_same : (some other : ℕ → Option (List ℕ)) (n : ℕ)
    → (208 * (n % 52) ≤ n → some ((n - 208 * (n % 52)) / 207) ≡ other ((n - 208 * (n % 52)) / 207))
    → code_byte some n ≡ code_byte other n
code_byte_same some other n same = grind (arith, cases_lt, code_byte_past, code_byte_at)

pub known_byte_same : (bytes : List ℕ) (n : ℕ) → code_byte (known_word bytes) n ≡ known_byte bytes n
unfolding code_byte known_byte known_code_byte
known_byte_same bytes n = refl

-- the same counted from the field's beginning
byte_in_field : (codes : ℕ → Option (List ℕ)) (f m : ℕ) → 208 * (m % 52) ≤ m → code_byte codes (64584 * f + m)
    ≡ option_map (λ (code : List ℕ). get_or code ((m - 208 * (m % 52)) % 207) 0)
    (codes (312 * f + (m - 208 * (m % 52)) / 207))
byte_in_field codes f m l = grind (arith, code_byte_at)

-- ---- the words of one field

-- The words of field f are sought: those that are known before aren't, and the others are among the bytes `there`.
pub record AreSought (before now there : List ℕ) (f : ℕ) (words : List Bool) : Type 0 where
  pub stays : StayKnown before now
  pub long : length words ≡ 312
  pub words_are : (k : ℕ) → k < 312 → get_or words k false ≡ is_some (known_word before (312 * f + k))
  pub there_are : (k : ℕ) → k < 312 → known_word there k ≡ known_word now (312 * f + k)

pub none_behind : (there : List ℕ) (words : List Bool) (k : ℕ) → length words ≤ k → new_code there words k ≡ None
unfolding new_code
none_behind there words k l = ap (λ b. cond b None (known_word there k)) (get_or_past words k true l)

-- each word is known as it is of the bytes now
pub sought_word : (before now there : List ℕ) (f k : ℕ) (words : List Bool) → AreSought before now there f words
    → k < 312 → or_else (new_code there words k) (known_word before (312 * f + k)) ≡ known_word now (312 * f + k)
unfolding new_code
sought_word before now there f k words h l = grind (arith, get_or_default)

-- ---- what is known with them

word_step : (before now there : List ℕ) (f k : ℕ) (words : List Bool) → AreSought before now there f words
    → or_else (new_code there words k) (codes_upto before now (312 * f) (312 * f + k))
    ≡ codes_upto before now (312 * (f + 1)) (312 * f + k)
word_step before now there f k words h = grind (arith, cases_lt, upto_before, sought_word, upto_now, none_behind)

pub byte_step : (before now there : List ℕ) (f m : ℕ) (words : List Bool) → AreSought before now there f words
    → or_else (code_byte (new_code there words) m) (code_byte (codes_upto before now (312 * f)) (64584 * f + m))
    ≡ code_byte (codes_upto before now (312 * (f + 1))) (64584 * f + m)
byte_step before now there f m words h = by_place (cases_lt m (208 * (m % 52)))
  where
    old : ℕ → Option (List ℕ)
    old = codes_upto before now (312 * f)

    new : ℕ → Option (List ℕ)
    new = codes_upto before now (312 * (f + 1))

    part : List ℕ → ℕ
    part code = get_or code ((m - 208 * (m % 52)) % 207) 0

    k : ℕ
    k = (m - 208 * (m % 52)) / 207

    earlier : m < 208 * (m % 52) → 208 * ((64584 * f + m) % 52) ≤ 64584 * f + m
        → (64584 * f + m - 208 * ((64584 * f + m) % 52)) / 207 < 312 * f
    earlier l valid = omega (arith, l, valid)

    by_place : (m < 208 * (m % 52)) ⊎ (208 * (m % 52) ≤ m)
        → or_else (code_byte (new_code there words) m) (code_byte old (64584 * f + m)) ≡ code_byte new (64584 * f + m)
    by_place (inl l) = grind (arith, code_byte_past, code_byte_same, upto_now)
    by_place (inr l) = ap₂ or_else (code_byte_at (new_code there words) m l) (byte_in_field old f m l)
        ∙ map_or part (new_code there words k) (old (312 * f + k))
        ∙ ap (option_map part) (word_step before now there f k words h) ∙ sym (byte_in_field new f m l)

-- no byte of the field behind belongs to an earlier word
pub byte_ahead : (before now : List ℕ) (f n : ℕ) → code_byte (codes_upto before now (312 * f)) (64584 * (f + 1) + n)
    ≡ code_byte (known_word before) (64584 * (f + 1) + n)
byte_ahead before now f n = grind (arith, code_byte_same, upto_before)

-- each byte of a field belongs to a word that begins there or before
pub byte_settled : (before now : List ℕ) (f n : ℕ) → n < 64584
    → code_byte (codes_upto before now (312 * (f + 1))) (64584 * f + n) ≡ known_byte now (64584 * f + n)
byte_settled before now f n l = code_byte_same (codes_upto before now (312 * (f + 1))) (known_word now) (64584 * f + n)
    (λ valid. upto_now before now (312 * (f + 1)) _ (omega (arith, l, valid))) ∙ known_byte_same now (64584 * f + n)
