-- Words that fit a row, of which the code holds references.
use Rattle.std.proofs.Common.{◌≡◌, ℕ, ◌-◌, ◌<◌, ◌≤◌, Bool, true, false, List, [], ◌∷◌, length, take, drop, get_or, refl}
use Rattle.std.proofs.Common.{arith}
use Rattle.std.specs.Prelude.{Some}
use Rattle.std.specs.Str.{bytes_eq}
use Rattle.std.proofs.lemmas.List.{take_all}
use Rattle.dtx_words.specs.declared.rows.Command.{Command}
use Rattle.dtx_words.specs.declared.rows.CommandRow.{CommandRow}
use Rattle.dtx_words.specs.Fitting.{fits, fit_fields}
use Rattle.dtx_words.specs.Names.{names_at, names_of}
use Rattle.dtx_words.specs.Rows.{row_behind, row_of}

-- no words
pub none_fit : (command : Command) (words : List (List ℕ)) → length words < 1 → false ≡ fits command words
none_fit command [] none = refl
none_fit command (word ∷ words) none = absurd (omega arith)

-- the first word is the row's, and the others fit as its fields say
pub fits_behind : (row : CommandRow) (command : Command) (words : List (List ℕ)) (verb other : List ℕ) (result : Bool)
    → row_behind (row_of command).refuses row ≡ row_of command → 1 ≤ length words → verb ≡ get_or words 0 other
    → bytes_eq verb row.verb.now ≡ true
    → result ≡ fit_fields row.fields.now (take (length words - 1) (drop 1 words)) → result ≡ fits command words
fits_behind row command [] verb other result is some same equal fitted = absurd (omega arith)
fits_behind row command (word ∷ words) verb other result is some same equal fitted = grind (arith, take_all)

-- the first word is another one
pub fits_not : (row : CommandRow) (command : Command) (words : List (List ℕ)) (verb other : List ℕ) (result : Bool)
    → row_behind (row_of command).refuses row ≡ row_of command → 1 ≤ length words → verb ≡ get_or words 0 other
    → bytes_eq verb row.verb.now ≡ false → result ≡ false → result ≡ fits command words
fits_not row command [] verb other result is some same differ wrong = absurd (omega arith)
fits_not row command (word ∷ words) verb other result is some same differ wrong = grind arith

-- the file names among words, as the row's fields say
pub names_behind : (row : CommandRow) (command : Command) (words : List (List ℕ))
    → row_behind (row_of command).refuses row ≡ row_of command → 1 ≤ length words
    → names_at row.fields.now (take (length words - 1) (drop 1 words)) ≡ names_of (Some command) words
names_behind row command [] is some = absurd (omega arith)
names_behind row command (word ∷ words) is some = grind (arith, take_all)
