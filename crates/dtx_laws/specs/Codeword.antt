-- Codewords of n bytes with k bytes of data, and the syndromes of a word (ATSC A/53 Part 2, Reed-Solomon encoder).
use Rattle.std.specs.Prelude.{ℕ, ◌≡◌, ◌+◌, ◌-◌, ◌*◌, ◌%◌, ◌<◌, ◌≤◌, ◌==◌, if◌then◌else◌, List, [], ◌∷◌, length}
use Rattle.std.specs.Prelude.{slice_index}
use Rattle.dtx_galois.specs.Field.{pow, value, AreBytes}

-- The numbers of a code. It has at least one byte of data, and two parity bytes for each wrong byte that can be put
-- right. It has at most 255 places, which is the number of field elements other than 0.
pub record IsCode (n k : ℕ) : Type 0 where
  pub some : 1 ≤ k
  pub longer : k < n
  pub short : n ≤ 255
  pub even : (n - k) % 2 ≡ 0

-- n bytes whose polynomial, with byte 0 as its highest coefficient, vanishes at the powers 0 to n - k - 1 of α, which
-- is 2
pub record IsCodeword (n k : ℕ) (word : List ℕ) : Type 0 where
  pub long : length word ≡ n
  pub bytes : AreBytes word
  pub vanishes : (i : ℕ) → i < n - k → value word (pow 2 i) ≡ 0

-- in how many places two words of one length differ
abbrev pub distance : List ℕ → List ℕ → ℕ
distance [] ys = 0
distance (x ∷ xs) [] = 0
distance (x ∷ xs) (y ∷ ys) = (if x == y then 0 else 1) + distance xs ys

-- a codeword that differs from the word in at most half as many places as there are parity bytes
pub record IsCorrection (n k : ℕ) (word code : List ℕ) : Type 0 where
  pub codeword : IsCodeword n k code
  pub near : 2 * distance word code ≤ n - k

-- the first entries are that many syndromes of the word
abbrev pub AreSyndromes : (count : ℕ) (word syndromes : List ℕ) → Type 0
AreSyndromes count word syndromes = (i : ℕ) → i < count → slice_index syndromes i ≡ value word (pow 2 i)
