-- The packets that are read, by how many blocks have come.
use Rattle.std.proofs.Common.{◌≡◌, ℕ, ◌+◌, ◌-◌, ◌*◌, ◌/◌, ◌%◌, ◌<◌, ◌≤◌, ◌↔◌, List, [], ◌∷◌, ◌++◌, map, length, get_or}
use Rattle.std.proofs.Common.{refl, sym, ap, ◌∙◌, arith, lit<}
use Rattle.std.specs.List.{range_with_len}
use Rattle.std.proofs.lemmas.List.FromFn.{length-map-range_with_len, get_or-map-range_with_len}
use Rattle.dtx_laws.specs.Words.{correction}
use Rattle.dtx_outer.specs.Inner.{waiting, word_at, IsComplete}
use Rattle.dtx_outer.proofs.MadeLemmas.{made_in, next_in, made_more, made_loose, made_none, made_next}
use Rattle.dtx_outer.proofs.WordsLemmas.{word_stays, complete_then}
use Rattle.dtx_dvb.specs.Read.{Read}
use Rattle.dtx_dvb.specs.Reading.{read_by, read_at, read_dvb}

pub waiting_dvb : waiting 204 12 17 ≡ 11
unfolding waiting
waiting_dvb = refl

-- ---- which words are there

-- a word is there when eleven blocks more than its own have come
pub complete_by : (given k : ℕ) → 204 * (k + 12) ≤ given → IsComplete 204 12 17 given k
complete_by given k l = grind (arith, complete_then, waiting_dvb)

last_byte : (given k : ℕ) → IsComplete 204 12 17 given k → 204 * (k + 12) ≤ given
last_byte given k c = omega (arith, c 203 (omega arith))

pub complete_where : (given k : ℕ) → k < given / 204 - 11 ↔ IsComplete 204 12 17 given k
complete_where given k = grind (arith, complete_by, last_byte)

-- ---- how many

pub length-read : (bytes : List ℕ) → length (read_dvb bytes) ≡ length bytes / 204 - 11
unfolding read_dvb
length-read bytes = length-map-range_with_len (read_at bytes) 0 (length bytes / 204 - 11)

pub get_or-read : (bytes : List ℕ) (k : ℕ) (other : Read) → k < length bytes / 204 - 11
    → get_or (read_dvb bytes) k other ≡ read_at bytes k
unfolding read_dvb
get_or-read bytes k other l = grind (arith, get_or-map-range_with_len)

-- ---- as more bytes come

-- the packet of a word, as packet k
abbrev pub read_word : ℕ → List ℕ → Read
read_word k word = read_by (188 * (k % 8)) word (correction 204 188 word)

pub read_made : (bytes : List ℕ) → made_in 204 12 17 read_word bytes ≡ read_dvb bytes
unfolding read_dvb read_at
read_made bytes = ap (λ w. map (read_at bytes) (range_with_len 0 (length bytes / 204 - w))) waiting_dvb

-- a packet whose word is there stays as it is, whatever bytes come
pub read_stays : (bytes more : List ℕ) (k : ℕ) → IsComplete 204 12 17 (length bytes) k
    → read_at (bytes ++ more) k ≡ read_at bytes k
unfolding read_at
read_stays bytes more k c = ap (read_word k) (word_stays 204 12 17 bytes more k c)

-- the packets that s + n blocks give behind those that s blocks give
abbrev pub next_of : List ℕ → ℕ → ℕ → List Read
next_of bytes s n = next_in 204 12 17 read_word bytes s n

pub read_more : (bytes more : List ℕ) (s n : ℕ) → length bytes / 204 ≡ s → length (bytes ++ more) / 204 ≡ s + n
    → read_dvb (bytes ++ more) ≡ read_dvb bytes ++ next_of (bytes ++ more) s n
read_more bytes more s n e f =
    grind (arith, read_made, made_more) ∙ ap (λ xs. xs ++ next_of (bytes ++ more) s n) (read_made bytes)

-- loose bytes, fewer than a block, give nothing
pub read_loose : (bytes more : List ℕ) (s : ℕ) → length bytes ≡ 204 * s → length more < 204
    → read_dvb (bytes ++ more) ≡ read_dvb bytes
read_loose bytes more s e l =
    sym (read_made (bytes ++ more)) ∙ made_loose 204 12 17 read_word bytes more s (lit< tt) e l ∙ read_made bytes

-- one block more: no packet, while few have come, and then packet s - 11
pub read_short : (bytes more : List ℕ) (s : ℕ) → length bytes ≡ 204 * s → length more ≡ 204 → s < 11
    → read_dvb (bytes ++ more) ≡ read_dvb bytes
read_short bytes more s e f l = sym (read_made (bytes ++ more))
    ∙ made_none 204 12 17 read_word bytes more s (lit< tt) (lit< tt) e f (omega (arith, waiting_dvb)) ∙ read_made bytes

pub read_next : (bytes more : List ℕ) (s : ℕ) → length bytes ≡ 204 * s → length more ≡ 204 → 11 ≤ s
    → read_dvb (bytes ++ more) ≡ read_dvb bytes ++ read_at (bytes ++ more) (s - 11) ∷ []
unfolding read_at
read_next bytes more s e f l = sym (read_made (bytes ++ more))
    ∙ made_next 204 12 17 read_word bytes more s (lit< tt) (lit< tt) e f (omega (arith, l, waiting_dvb))
    ∙ grind (arith, at, read_made, waiting_dvb)
  where
    at : ℕ → Read
    at k = read_word k (word_at 204 12 17 (bytes ++ more) k)
