-- The words `trial SEED COUNT`, with both numbers as they are written, are those of a trial of these numbers.
use Rattle.std.proofs.Common.{◌≡◌, ℕ, ◌-◌, ◌^◌, ◌<◌, ◌≤◌, List, [], ◌∷◌, arith}
use Rattle.std.specs.Prelude.{Option, Some, None, IfSome, IsSomeAnd, codes, decimal}
use Rattle.std.specs.Str.Parse.{AllDigits, digits_value}
use Rattle.std.proofs.lemmas.Bool.{and_from, cond-true, le-leb}
use Rattle.std.proofs.lemmas.Fmt.{digits_value-decimal}
use Rattle.std.proofs.lemmas.Slice.Eq.{bytes_eq-Decides}
use Rattle.std.proofs.lemmas.Str.Parse.{IsNumeralModel, numerals_by_value, tells_digits}
use Rattle.dtx_outside.specs.Shelf.{Files}
use Rattle.dtx_words.specs.Fitting.{command_of, number_in, number_within}
use Rattle.dtx_words.proofs.FittingLemmas.{command_found}
use Rattle.dtx_words.specs.declared.rows.Command.TheVariants.{Trial}
use Rattle.dtx_top.specs.Ends.{HasHeadlineOf}
use Rattle.dtx_top.specs.Trial.{IsTrialDone}

own : IsNumeralModel (AllDigits 10) (digits_value 10)
own = numerals_by_value (AllDigits 10) tells_digits

-- the decimal spelling of a number is read as that number
spelled : (most n : ℕ) → most < 2 ^ 64 → n ≤ most → number_in most (decimal n) ≡ Some n
unfolding number_in
spelled most n small le = grind (arith, digits_value-decimal, own, cond-true, and_from, bytes_eq-Decides, le-leb)

spelled_within : (count : ℕ) → 624 ≤ count → count ≤ 1000000 → number_within 624 1000000 (decimal count) ≡ Some count
spelled_within count least most = grind (arith, spelled, cond-true, le-leb)

abbrev pub words_of : ℕ → ℕ → List (List ℕ)
words_of seed count = codes "trial" ∷ decimal seed ∷ decimal count ∷ []

spelled_seed : (seed : ℕ) → seed < 2 ^ 64 → number_in (2 ^ 64 - 1) (decimal seed) ≡ Some seed
spelled_seed seed small = spelled (2 ^ 64 - 1) seed (omega arith) (omega (arith, small))

is_trial : (seed count : ℕ) → seed < 2 ^ 64 → 624 ≤ count → count ≤ 1000000
    → command_of (words_of seed count) ≡ Some Trial
is_trial seed count small least most = grind (arith, command_found, and_from, spelled_seed, spelled_within)

-- where the headline holds of words, it holds of the trial that they are
pub done_by_words : (words : List (List ℕ)) (held : Files) (now : Option Files) (seed count : ℕ)
    → words ≡ words_of seed count → seed < 2 ^ 64 → 624 ≤ count → count ≤ 1000000
    → HasHeadlineOf (command_of words) words held now → IsSomeAnd now (IsTrialDone seed count held)
done_by_words words held now seed count is small least most holds =
    grind (arith, spelled_within, spelled_seed, is_trial)

pub and_so : {X : Type 0} (o : Option X) (P Q : X → Type 0) → ((x : X) → P x → Q x) → IsSomeAnd o P → IsSomeAnd o Q
and_so None P Q f h = h
and_so (Some x) P Q f h = f x h

pub if_so : {X : Type 0} (o : Option X) (P Q : X → Type 0) → ((x : X) → P x → Q x) → IfSome o P → IfSome o Q
if_so None P Q f h = h
if_so (Some x) P Q f h = f x h
