-- The codeword of given data and the correction of a word, as functions: the first that fits among all lists of bytes.
-- Nothing computes them: the laws say what they are. Also what a corrector answers.
use Rattle.std.specs.Prelude.{ℕ, ◌-◌, ◌*◌, ◌==◌, nat_le, Bool, ◌&&◌, Option, List, [], ◌∷◌, ◌++◌, map, unwrap_or, drop}
use Rattle.std.specs.Prelude.{replicate, take, ◌≡◌, ◌<◌, Ok, Result, MatchResult, slice_index_or}
use Rattle.std.proofs.Common.{zero, suc}
use Rattle.std.specs.List.{range_with_len, flat_map, list_all, find}
use Rattle.dtx_galois.specs.Field.{pow, value}
use Rattle.dtx_laws.specs.Codeword.{distance, IsCorrection}
use Rattle.dtx_laws.specs.declared.corrector.TooMany.{TooMany}

-- all lists of n bytes
unfoldable pub all_words : ℕ → List (List ℕ)
all_words zero = [] ∷ []
all_words (suc n) = flat_map (λ b. map (λ w. b ∷ w) (all_words n)) (range_with_len 0 256)

-- whether the word's polynomial vanishes at the powers 0 to n - k - 1 of α, which is 2
unfoldable pub vanishes : ℕ → ℕ → List ℕ → Bool
vanishes n k word = list_all (λ i. value word (pow 2 i) == 0) (range_with_len 0 (n - k))

-- the codeword that begins with the data, or the data and zeros where there is none
unfoldable pub codeword : ℕ → ℕ → List ℕ → List ℕ
codeword n k head = head ++ unwrap_or (find (λ w. vanishes n k (head ++ w)) (all_words (n - k))) (replicate (n - k) 0)

-- the first `count` words of n bytes, one behind the other, each made the codeword of its first k bytes
unfoldable pub completed : (n k count : ℕ) (words : List ℕ) → List ℕ
completed n k zero words = []
completed n k (suc count) words = codeword n k (take k words) ++ completed n k count (drop n words)

-- the correction of a word, where it has one
unfoldable pub correction : ℕ → ℕ → List ℕ → Option (List ℕ)
correction n k word = find (λ c. vanishes n k c && nat_le (2 * distance word c) (n - k)) (all_words n)

-- the word became its correction, and e of its places changed
pub record IsCorrected (n k : ℕ) (old new : List ℕ) (e : ℕ) : Type 0 where
  pub correction : IsCorrection n k old new
  pub changed : e ≡ distance old new

-- the word has no correction, and is unchanged
pub record IsLeft (n k : ℕ) (old new : List ℕ) : Type 0 where
  pub none : (code : List ℕ) → IsCorrection n k old code → ⊥
  pub same : new ≡ old

-- four words with the answers of their corrections
abbrev pub AreCorrected : (n k : ℕ) (old new : List (List ℕ)) (answers : List (Result ℕ TooMany)) → Type 0
AreCorrected n k old new answers =
    (p : ℕ) → p < 4 → MatchResult (slice_index_or answers p (Ok 0))
    (IsCorrected n k (slice_index_or old p []) (slice_index_or new p []))
    (λ _e. IsLeft n k (slice_index_or old p []) (slice_index_or new p []))

-- what was tried is no correction of the word, which is unchanged
pub record IsRefused (n k : ℕ) (tried old new : List ℕ) : Type 0 where
  pub none : IsCorrection n k old tried → ⊥
  pub same : new ≡ old
