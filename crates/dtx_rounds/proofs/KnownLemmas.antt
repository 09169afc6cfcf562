-- Which words and bytes of a run are known.
use Rattle.std.proofs.Common.{◌≡◌, ℕ, ◌+◌, ◌-◌, ◌*◌, ◌%◌, ◌<◌, ◌≤◌, ◌↔◌, Bool, true, Some, None, List, length, get_or}
use Rattle.std.proofs.Common.{take, ap, ◌∙◌, arith}
use Rattle.std.proofs.lemmas.Bool.{cond-false, cond-true, false_from_ne_true, le-leb}
use Rattle.std.proofs.lemmas.List.{get_or-take, length-take-le}
use Rattle.std.proofs.lemmas.List.FromFn.{get_or-map-range_with_len}
use Rattle.dtx_laws.specs.Codeword.{IsCorrection}
use Rattle.dtx_laws.specs.Words.{correction}
use Rattle.dtx_laws.proofs.ChoiceLemmas.{correction_is}
use Rattle.dtx_outer.specs.Inner.{IsComplete, codeword_byte_place, word_at}
use Rattle.dtx_outer.proofs.WordsLemmas.{get_or-word, length-word, word_by}
use Rattle.dtx_receiver.specs.Packets.{is_complete}
use Rattle.dtx_receiver.proofs.CompleteLemmas.{complete_told}
use Rattle.dtx_rounds.specs.Known.{known_byte, known_bytes, known_code_byte, known_word}

-- what is known of a word
pub record IsKnown (bytes : List ℕ) (k : ℕ) (code : List ℕ) : Type 0 where
  pub complete : is_complete (length bytes) k ≡ true
  pub corrected : correction 207 187 (word_at 207 52 4 bytes k) ≡ Some code

pub known_parts : (bytes : List ℕ) (k : ℕ) (code : List ℕ) → known_word bytes k ≡ Some code → IsKnown bytes k code
unfolding known_word
known_parts bytes k code e = grind arith

pub known_from : (bytes : List ℕ) (k : ℕ) (code : List ℕ) → IsKnown bytes k code → known_word bytes k ≡ Some code
unfolding known_word
known_from bytes k code h = grind (arith, cond-true)

pub known_correction : (bytes : List ℕ) (k : ℕ) (code : List ℕ) → IsKnown bytes k code
    → IsCorrection 207 187 (word_at 207 52 4 bytes k) code
known_correction bytes k code h = correction_is 207 187 (word_at 207 52 4 bytes k) code h.corrected

-- of the first n bytes
pub known_there : (bytes : List ℕ) (n k : ℕ) → n ≤ length bytes → IsComplete 207 52 4 n k
    → known_word (take n bytes) k ≡ correction 207 187 (word_at 207 52 4 bytes k)
unfolding known_word
known_there bytes n k l c =
    cond-true (is_complete (length (take n bytes)) k) (correction 207 187 (word_at 207 52 4 (take n bytes) k)) None
    (ap (λ m. is_complete m k) (length-take-le n bytes l) ∙ (complete_told n k).1 c)
    ∙ ap (correction 207 187) (word_by 207 52 4 bytes k (word_at 207 52 4 (take n bytes) k)
    (length-word 207 52 4 (take n bytes) k) same)
  where
    same : (j : ℕ) → j < 207 → get_or (word_at 207 52 4 (take n bytes) k) j 0
        ≡ get_or bytes (codeword_byte_place 52 4 (207 * k + j)) 0
    same j m = grind (arith, get_or-word, get_or-take)

pub known_absent : (bytes : List ℕ) (n k : ℕ) → n ≤ length bytes → (IsComplete 207 52 4 n k → ⊥)
    → known_word (take n bytes) k ≡ None
unfolding known_word
known_absent bytes n k l none = grind (arith, cond-false, length-take-le, false_from_ne_true, complete_told)

-- all bytes of a known word are there
pub known_place : (bytes : List ℕ) (k j : ℕ) (code : List ℕ) → IsKnown bytes k code → j < 207
    → codeword_byte_place 52 4 (207 * k + j) < length bytes
known_place bytes k j code h l = (complete_told (length bytes) k).0 h.complete j l

-- a test that tells which words are complete
pub complete_by : (b : Bool) (n k : ℕ) → ((b ≡ true) ↔ IsComplete 207 52 4 n k) → b ≡ is_complete n k
complete_by b n k h = grind (arith, complete_told)

-- ---- bytes

-- the byte of the words that stands at a place
abbrev pub source : ℕ → ℕ
source n = n - 208 * (n % 52)

pub byte_source : (n p : ℕ) → n ≡ p + 52 * 4 * (p % 52) → (208 * (n % 52) ≤ n) × (n - 208 * (n % 52) ≡ p)
byte_source n p e = (omega arith, omega arith)

-- byte j of a known word is known at its place
pub known_at : (bytes : List ℕ) (k j : ℕ) (code : List ℕ) → known_word bytes k ≡ Some code → j < 207
    → get_or (known_bytes bytes) (codeword_byte_place 52 4 (207 * k + j)) None ≡ Some (get_or code j 0)
unfolding known_bytes known_byte known_code_byte
known_at bytes k j code h l =
    get_or-map-range_with_len (known_byte bytes) 0 (length bytes) (codeword_byte_place 52 4 (207 * k + j))
    (codeword_byte_place 52 4 (207 * k + j)) None (known_place bytes k j code (known_parts bytes k code h) l)
    (omega arith) ∙ grind (arith, byte_source, cond-true, le-leb)
