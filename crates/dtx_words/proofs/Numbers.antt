-- Decimal spellings of numbers.
use Rattle.std.proofs.Common.{◌≡◌, ◌≢◌, ℕ, zero, suc, ◌≤◌, ◌<◌, ◌^◌, ◌↔◌, Bool, ◌&&◌, cond, List, length, refl, sym, ap}
use Rattle.std.proofs.Common.{◌∙◌, arith}
use Rattle.std.specs.Prelude.{Option, Some, None, Result, Ok, Err, nat_le, decimal, slice_index}
use Rattle.std.specs.Str.{bytes_eq}
use Rattle.std.specs.Str.Parse.{AllDigits, digits_value, ParsesUnsigned}
use Rattle.std.proofs.lemmas.Bool.{and_parts, and_from, le-leb, leb-true}
use Rattle.std.proofs.lemmas.Slice.Eq.{bytes_eq-Decides}
use Rattle.std.proofs.lemmas.Str.Parse.{IsNumeralModel, numerals_by_value, tells_digits, digit_at, parse_plain}
use Rattle.std.proofs.lemmas.Fmt.{decimal_is_IsNumeral, decimal_digit, first_decimal, digits_value-decimal}
use Rattle.std.proofs.lemmas.Fmt.{decimal-digits_value}
use Rattle.dtx_words.specs.Fitting.{number_in, BeginsPlain}

own : IsNumeralModel (AllDigits 10) (digits_value 10)
own = numerals_by_value (AllDigits 10) tells_digits

at_test : (most : ℕ) (word : List ℕ) (b : Bool)
    → (bytes_eq word (decimal (digits_value 10 word)) && nat_le (digits_value 10 word) most) ≡ b
    → number_in most word ≡ cond b (Some (digits_value 10 word)) None
unfolding number_in
at_test most word b is = ap (λ (b : Bool). cond b (Some (digits_value 10 word)) None) is

-- the decimal spelling of a number is read as that number
pub number_in_spelled : (most n : ℕ) (word : List ℕ) → most < 2 ^ 64 → n ≤ most → word ≡ decimal n
    → number_in most word ≡ Some n
number_in_spelled most n word small le is =
    grind (arith, digits_value-decimal, own, at_test, and_from, bytes_eq-Decides, le-leb)

-- what is read as a number is its decimal spelling
pub spelled_by : (most n : ℕ) (word : List ℕ) → number_in most word ≡ Some n → (n ≤ most) × (word ≡ decimal n)
spelled_by most n word is = grind (arith, at_test, and_parts, leb-true, bytes_eq-Decides)

-- what spells no number is read as none
pub no_number : (most : ℕ) (word : List ℕ) → ((n : ℕ) → n ≤ most → word ≢ decimal n) → number_in most word ≡ None
no_number most word h = read_as _ refl
  where
    read_as : (o : Option ℕ) → number_in most word ≡ o → number_in most word ≡ None
    read_as None e = e
    read_as (Some n) e = let s = spelled_by most n word e in absurd (h n s.0 s.1)

-- the exact meaning of what is read
pub spelled_as : (most : ℕ) (word : List ℕ) (o : Option ℕ) → most < 2 ^ 64 → o ≡ number_in most word → (n : ℕ)
    → (o ≡ Some n) ↔ ((n ≤ most) × (word ≡ decimal n))
spelled_as most word o small is n = (
  λ e. spelled_by most n word (sym is ∙ e),
  λ h. is
      ∙ number_in_spelled most n word small h.0 h.1,
)

plain_decimal : (n : ℕ) → n < 2 ^ 64 → BeginsPlain (decimal n)
plain_decimal n small =
    let numeral = (decimal_is_IsNumeral n small).0 in
    record { digit = digit_at (decimal n) 0 numeral.1 numeral.0; alone = only n small }
  where
    only : (n : ℕ) → n < 2 ^ 64 → slice_index (decimal n) 0 ≡ 48 → length (decimal n) ≡ 1
    only zero small e = ap length (decimal_digit 0 (omega arith))
    only (suc m) small e = grind (arith, first_decimal)

-- a word that doesn't begin as a spelling does
pub not_plain : (most : ℕ) (word : List ℕ) → most < 2 ^ 64 → ¬ BeginsPlain word → number_in most word ≡ None
not_plain most word small h = grind (arith, no_number, plain_decimal)

-- what a word that begins so is parsed as
pub parsed : {E : Type 0} (word : List ℕ) (n : ℕ) (r : Result ℕ E) → BeginsPlain word → ParsesUnsigned 64 10 word r
    → r ≡ Ok n → word ≡ decimal n
parsed {E} word n r plain h is =
    let o : Result ℕ E = Ok n in
    let p = parse_plain own {E = E} 64 word o (grind arith) (λ plus. absurd (omega (arith, plain.digit, plus))) in
    sym (ap decimal p.1 ∙ decimal-digits_value own word p.0.0 p.0.1 plain.alone p.0.2)

-- a word that begins so and is parsed as no number
pub not_parsed : {E : Type 0} (most : ℕ) (word : List ℕ) (e : E) → most < 2 ^ 64 → BeginsPlain word
    → ParsesUnsigned {E = E} 64 10 word (Err e) → number_in most word ≡ None
not_parsed {E} most word e small plain h = grind (arith, parse_plain, own, no_number, decimal_is_IsNumeral)

-- a word that is parsed as a number that is too large
pub too_large : (most n : ℕ) (word : List ℕ) → most < n → n < 2 ^ 64 → word ≡ decimal n → number_in most word ≡ None
too_large most n word large small is = grind (arith, no_number, digits_value-decimal, own)
