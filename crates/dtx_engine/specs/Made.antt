-- What is made for one output, or for two.
use Rattle.std.specs.Prelude.{◌≢◌, ℕ, List, [], ◌∷◌, ◌++◌}
use Rattle.dtx_meaning.specs.Meaning.{Outputs, IsFrontOf}

-- the bytes of the first output, and of the second, where there is one
pub record Made : Type 0 where
  pub first : List ℕ
  pub second : List ℕ

-- bytes of the first output alone
abbrev pub only : List ℕ → Made
only bytes = record { first = bytes; second = [] }

-- bytes of each output
abbrev pub both : List ℕ → List ℕ → Made
both first second = record { first = first; second = second }

-- for each output, the bytes of a and then those of b
abbrev pub joined : Made → Made → Made
joined a b = record { first = a.first ++ b.first; second = a.second ++ b.second }

-- a prefix of each
abbrev pub AreFrontsOf : Made → Made → Type 0
AreFrontsOf front whole = IsFrontOf front.first whole.first × IsFrontOf front.second whole.second

-- the outputs of these names, which are one or two
abbrev pub outputs_of : List (List ℕ) → Made → Outputs
outputs_of [] made = []
outputs_of (first ∷ []) made = (first, made.first) ∷ []
outputs_of (first ∷ (second ∷ rest)) made = (first, made.first) ∷ (second, made.second) ∷ []

-- the name is none of these
abbrev pub IsNoneOf : List ℕ → List (List ℕ) → Type 0
IsNoneOf name [] = Unit {0}
IsNoneOf name (other ∷ rest) = (name ≢ other) × IsNoneOf name rest
