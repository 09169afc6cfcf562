-- Lemmas of outputs: a part of less is a part of more.
use Rattle.std.specs.Prelude.{◌≢◌, ℕ, List, [], ◌∷◌, Option}
use Rattle.std.specs.Option.{option_map}
use Rattle.std.proofs.Common.{refl, inl, inr, arith}
use Rattle.std.proofs.lemmas.List.{append_assoc}
use Rattle.dtx_outside.specs.Shelf.{Files, with_file}
use Rattle.dtx_meaning.specs.Meaning.{ArePartWritten, IsFrontOf, IsNoOutput}
use Rattle.dtx_engine.specs.Made.{Made, AreFrontsOf, IsNoneOf, outputs_of}

-- a front part of a front part
pub front_of_front : (a b c : List ℕ) → IsFrontOf a b → IsFrontOf b c → IsFrontOf a c
front_of_front a b c (r, first) (s, next) = grind (arith, append_assoc)

part_of_one_more : (name a b : List ℕ) (start now : Option Files) → IsFrontOf a b
    → ArePartWritten ((name, a) ∷ []) start now → ArePartWritten ((name, b) ∷ []) start now
part_of_one_more name a b start now more part = elim part [
  | inl same ↦ inl same
  | inr begun ↦ inr (begun.0, front_of_front begun.0 a b begun.1 more, begun.2)
]

-- a part of less is a part of more
pub part_of_more : (names : List (List ℕ)) (a b : Made) (start now : Option Files) → AreFrontsOf a b
    → ArePartWritten (outputs_of names a) start now → ArePartWritten (outputs_of names b) start now
part_of_more [] a b start now more part = part
part_of_more (first ∷ []) a b start now more part = part_of_one_more first a.first b.first start now more.0 part
part_of_more (first ∷ (second ∷ rest)) a b start now more part = elim part [
  | inl same ↦ inl same
  | inr begun ↦ inr (
    begun.0,
    front_of_front begun.0 a.first b.first begun.1 more.0,
    part_of_one_more second a.second b.second (option_map (with_file first begun.0) start) now more.1 begun.2,
  )
]

-- a name that is none of the names is that of no output
pub no_output : (name : List ℕ) (names : List (List ℕ)) (made : Made) → IsNoneOf name names
    → IsNoOutput name (outputs_of names made)
no_output name [] made apart = tt
no_output name (first ∷ []) made apart = (apart.0, tt)
no_output name (first ∷ (second ∷ rest)) made apart = (apart.0, (apart.1.0, tt))

pub some_outputs : (names : List (List ℕ)) (made : Made) → names ≢ [] → outputs_of names made ≢ []
some_outputs [] made some = absurd (some refl)
some_outputs (first ∷ []) made some = λ none. cc
some_outputs (first ∷ (second ∷ rest)) made some = λ none. cc
