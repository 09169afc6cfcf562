-- The words at the fields of files, as far as a loop has come.
use Rattle.std.proofs.Common.{◌≡◌, ℕ, ◌+◌, ◌≤◌, ◌<◌, true, false, List, [], ◌∷◌, ◌++◌, length, map, drop, get_or, refl}
use Rattle.std.proofs.Common.{ap, arith, add-one, append_assoc}
use Rattle.std.specs.Prelude.{min}
use Rattle.std.specs.Borrow.{Bor}
use Rattle.std.proofs.lemmas.Bool.{cases_lt, leb-true}
use Rattle.std.proofs.Math.Seq.{drop-cons}
use Rattle.std.proofs.Math.ListN.{drop_of_length-le}
use Rattle.dtx_words.specs.declared.rows.Command.{Command}
use Rattle.dtx_words.specs.declared.rows.Field.{Field}
use Rattle.dtx_words.specs.Names.{is_file, names_at}
use Rattle.dtx_words.specs.Rows.{row_of}
use Rattle.dtx_words.proofs.FittingLemmas.{of_every}

-- the names at the fields and words from a place on
abbrev pub names_from : List Field → List (List ℕ) → ℕ → List (List ℕ)
names_from fields words i = names_at (drop i fields) (drop i words)

-- a field of a file
pub at_file : (fields : List Field) (words : List (List ℕ)) (i : ℕ) (d : Field) (e : List ℕ) → i < length fields
    → i < length words → is_file (get_or fields i d) ≡ true
    → names_from fields words i ≡ get_or words i e ∷ names_from fields words (i + 1)
at_file fields words i d e first second is = grind (arith, add-one, drop-cons)

-- another field
pub at_other : (fields : List Field) (words : List (List ℕ)) (i : ℕ) (d : Field) → i < length fields → i < length words
    → is_file (get_or fields i d) ≡ false → names_from fields words i ≡ names_from fields words (i + 1)
at_other fields words i d first second is =
    rw (add-one, drop-cons fields i d first, drop-cons words i [] second, is) refl

names_at-no_words : (fields : List Field) → names_at fields [] ≡ []
names_at-no_words [] = refl
names_at-no_words (field ∷ fields) = refl

-- behind the last field
past_fields : (fields : List Field) (words : List (List ℕ)) (n : ℕ) → length fields ≤ n → names_from fields words n ≡ []
past_fields fields words n within = rw (drop_of_length-le fields {i = n} within) refl

-- behind the last word
past_words : (fields : List Field) (words : List (List ℕ)) (n : ℕ) → length words ≤ n → names_from fields words n ≡ []
past_words fields words n within = rw (drop_of_length-le words {i = n} within) (names_at-no_words (drop n fields))

-- behind the last field or word
pub at_end : (fields : List Field) (words : List (List ℕ)) (n : ℕ) → min (length fields) (length words) ≤ n
    → names_from fields words n ≡ []
at_end fields words n past = grind (arith, cases_lt, past_fields, past_words)

-- the names behind references
abbrev pub texts : List (Bor (List ℕ)) → List (List ℕ)
texts names = map (λ name. name.now) names

texts-append : (first second : List (Bor (List ℕ))) → texts (first ++ second) ≡ texts first ++ texts second
texts-append [] second = refl
texts-append (name ∷ first) second = ap (λ rest. name.now ∷ rest) (texts-append first second)

-- the invariant behind a field of a file
pub names_more : (before : List (Bor (List ℕ))) (name : Bor (List ℕ)) (rest further whole : List (List ℕ))
    → rest ≡ name.now ∷ further → texts before ++ rest ≡ whole → texts (before ++ name ∷ []) ++ further ≡ whole
names_more before name rest further whole is so_far = simp (texts-append, append_assoc, ← is, so_far)

-- no command has more fields than five
pub few_fields : (command : Command) → length (row_of command).fields ≤ 5
few_fields command = grind (arith, leb-true, of_every)
