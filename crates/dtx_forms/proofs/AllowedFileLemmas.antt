-- Lemmas of a file whose units are all allowed: it is read to its end, or as far as it may be.
use Rattle.std.proofs.Common.{◌≡◌, ℕ, ◌%◌, ◌<◌, ◌≤◌, List, [], ◌∷◌, length, refl, arith}
use Rattle.std.specs.Prelude.{true, not, None}
use Rattle.std.specs.List.{find}
use Rattle.std.proofs.lemmas.Bool.{cond-false, cond-true, le-ltb, lt-ltb}
use Rattle.dtx_engine.specs.Recipe.{Recipe, first_refused, first_units, meaning_at, meaning_of_file, whole_units}
use Rattle.dtx_engine.specs.declared.engine.Shape.{Shape}
use Rattle.dtx_engine.specs.declared.piece.Ending.TheVariants.{Whole, Refused}
use Rattle.dtx_meaning.specs.declared.status.Status.TheVariants.{TooLong}

pub none_found : (xs : List ℕ) → find (λ _. not true) xs ≡ None
none_found [] = refl
none_found (x ∷ xs) = none_found xs

-- where it has no more units than it may have, it is read to its end
pub all_read : (shape : Shape) (recipe : Recipe) (names : List (List ℕ)) (file : List ℕ)
    → first_refused shape recipe file ≡ None → whole_units shape file ≤ shape.limit
    → meaning_of_file shape recipe names file
    ≡ meaning_at recipe names (first_units shape file (whole_units shape file)) (Whole (length file % shape.unit))
all_read shape recipe names file none few = grind (arith, cond-false, le-ltb)

-- and where it has more, as many as it may have are
pub first_read : (shape : Shape) (recipe : Recipe) (names : List (List ℕ)) (file : List ℕ)
    → first_refused shape recipe file ≡ None → shape.limit < whole_units shape file
    → meaning_of_file shape recipe names file
    ≡ meaning_at recipe names (first_units shape file shape.limit) (Refused TooLong)
first_read shape recipe names file none many = grind (arith, cond-true, lt-ltb)
