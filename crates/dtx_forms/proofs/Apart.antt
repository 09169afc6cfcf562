-- What follows from file names of which no two are equal.
use Rattle.std.proofs.Common.{◌≡◌, ◌≢◌, ℕ, Bool, true, false, ◌||◌, cond, List, [], ◌∷◌, arith}
use Rattle.std.specs.Prelude.{Some, None}
use Rattle.std.proofs.lemmas.Slice.Eq.{bytes_eq-Decides}
use Rattle.dtx_words.specs.Names.{repeated}

none_equal : (second third : List ℕ) (a b c : Bool)
    → cond (a || false) (Some second) (cond (b || (c || false)) (Some third) None) ≡ None
    → (a ≡ true → ⊥) × (b ≡ true → ⊥) × (c ≡ true → ⊥)
none_equal second third true b c none = cc
none_equal second third false true c none = cc
none_equal second third false false true none = cc
none_equal second third false false false none = (λ e. cc, λ e. cc, λ e. cc)

-- three names that differ
pub all_differ : (first second third : List ℕ) → None ≡ repeated (first ∷ second ∷ third ∷ [])
    → (first ≢ second) × (first ≢ third) × (second ≢ third)
all_differ first second third differ = grind (arith, none_equal, bytes_eq-Decides)
