-- Codewords near a word with marked places, where nothing was received (the profile's own).
use Rattle.std.specs.Prelude.{ℕ, ◌≡◌, ◌+◌, ◌-◌, ◌*◌, ◌≤◌, ◌==◌, ◌||◌, Bool, if◌then◌else◌, List, [], ◌∷◌, Result}
use Rattle.std.specs.Prelude.{MatchResult}
use Rattle.dtx_laws.specs.Codeword.{IsCodeword, distance}

-- how many places are marked
abbrev pub lost : List Bool → ℕ
lost [] = 0
lost (mark ∷ marks) = (if mark then 1 else 0) + lost marks

-- in how many unmarked places two words of one length differ
abbrev pub unmarked_distance : List Bool → List ℕ → List ℕ → ℕ
unmarked_distance [] xs ys = 0
unmarked_distance (mark ∷ marks) [] ys = 0
unmarked_distance (mark ∷ marks) (x ∷ xs) [] = 0
unmarked_distance (mark ∷ marks) (x ∷ xs) (y ∷ ys) =
    (if mark || x == y then 0 else 1) + unmarked_distance marks xs ys

-- A codeword that differs from the word in e unmarked places, where f places are marked, and 2 * e + f is at most the
-- number of parity bytes. A wrong byte costs two of them, and a missing one costs one.
pub record IsMending (n k : ℕ) (marks : List Bool) (word code : List ℕ) : Type 0 where
  pub codeword : IsCodeword n k code
  pub near : 2 * unmarked_distance marks word code + lost marks ≤ n - k

-- the word became its mending, and c of its bytes changed, marked or not
pub record IsMended (n k : ℕ) (marks : List Bool) (old new : List ℕ) (c : ℕ) : Type 0 where
  pub mending : IsMending n k marks old new
  pub changed : c ≡ distance old new

-- the word has no mending, and is unchanged
pub record IsUnmended (n k : ℕ) (marks : List Bool) (old new : List ℕ) : Type 0 where
  pub none : (code : List ℕ) → IsMending n k marks old code → ⊥
  pub same : new ≡ old

-- what a mender answers and leaves: the word's mending, or the word itself where it has none
abbrev pub IsAnswered : {E : Type 0} → ℕ → ℕ → List Bool → List ℕ → List ℕ → Result ℕ E → Type 0
IsAnswered n k marks old new answer =
    MatchResult answer (IsMended n k marks old new) (λ _e. IsUnmended n k marks old new)

-- what was tried is no mending of the word, which is unchanged
pub record IsDeclined (n k : ℕ) (marks : List Bool) (tried old new : List ℕ) : Type 0 where
  pub none : IsMending n k marks old tried → ⊥
  pub same : new ≡ old
