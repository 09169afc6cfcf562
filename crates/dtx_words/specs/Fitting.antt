-- Which command the words fit, and the whole numbers among them.
use Rattle.std.specs.Prelude.{ℕ, Bool, true, false, ◌&&◌, not, ◌==◌, List, [], ◌∷◌, length, Option, is_some, ◌≡◌}
use Rattle.std.specs.Prelude.{nat_le, if◌then◌else◌, slice_index, Some, None, decimal}
use Rattle.std.specs.List.{find}
use Rattle.std.specs.Str.{bytes_eq}
use Rattle.dtx_words.specs.declared.rows.Command.{Command}
use Rattle.dtx_words.specs.declared.rows.Field.{Field}
use Rattle.dtx_words.specs.declared.rows.Field.TheVariants.{Input, Output, Number, Within, Second}
use Rattle.dtx_words.specs.Rows.{Row, row_of, commands, second_text}
use Rattle.std.specs.Int.{IsInRange}
use Rattle.std.specs.Str.Parse.{digits_value}

-- the number that the word spells in decimal, where it spells one and that is at most `most`
unfoldable pub number_in : ℕ → List ℕ → Option ℕ
number_in most word =
    if bytes_eq word (decimal (digits_value 10 word)) && nat_le (digits_value 10 word) most then Some
    (digits_value 10 word) else None

-- a number, where it is `least` or more
abbrev pub at_least : ℕ → Option ℕ → Option ℕ
at_least least None = None
at_least least (Some number) = if nat_le least number then Some number else None

-- the number that the word spells in decimal, where it spells one from `least` to `most`
abbrev pub number_within : ℕ → ℕ → List ℕ → Option ℕ
number_within least most word = at_least least (number_in most word)

-- a word begins with a digit, which is 0 only in the word `0`
pub record BeginsPlain (word : List ℕ) : Type 0 where
  pub digit : IsInRange 48 57 (slice_index word 0)
  pub alone : slice_index word 0 ≡ 48 → length word ≡ 1

-- a word fits a file name if it isn't empty
abbrev pub is_name : List ℕ → Bool
is_name word = not (length word == 0)

-- a word fits a field: a file name, a number up to a bound, a number between two bounds, or the command's second word
abbrev pub fits_field : Field → List ℕ → Bool
fits_field Input word = is_name word
fits_field Output word = is_name word
fits_field (Number most) word = is_some (number_in most word)
fits_field (Within least most) word = is_some (number_within least most word)
fits_field (Second second) word = bytes_eq word (second_text second)

-- there are as many words as fields, and each fits its field
abbrev pub fit_fields : List Field → List (List ℕ) → Bool
fit_fields [] [] = true
fit_fields [] (word ∷ words) = false
fit_fields (field ∷ fields) [] = false
fit_fields (field ∷ fields) (word ∷ words) = fits_field field word && fit_fields fields words

-- words fit a row: the first is its word, and the others fit its fields
abbrev pub fit_row : Row → List (List ℕ) → Bool
fit_row row [] = false
fit_row row (verb ∷ words) = bytes_eq verb row.verb && fit_fields row.fields words

-- the words fit a command
abbrev pub fits : Command → List (List ℕ) → Bool
fits command words = fit_row (row_of command) words

-- the command that the words fit, which is the only one
abbrev pub command_of : List (List ℕ) → Option Command
command_of words = find (λ command. fits command words) commands
