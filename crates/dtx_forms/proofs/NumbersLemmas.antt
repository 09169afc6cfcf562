-- Lemmas of numbers among the words: they are within their range.
use Rattle.std.proofs.Common.{◌≡◌, ℕ, ◌≤◌, Bool, List, refl, arith}
use Rattle.std.specs.Prelude.{Option, Some, None, IfSome}
use Rattle.std.specs.Option.{option_and}
use Rattle.std.proofs.lemmas.Bool.{and_parts, leb-true}
use Rattle.std.proofs.lemmas.Option.{same_Some}
use Rattle.dtx_words.specs.Fitting.{number_in, number_within}
use Rattle.dtx_forms.specs.Capture.{setting_of}

pub number_most : (most : ℕ) (word : List ℕ) (number : ℕ) → number_in most word ≡ Some number → number ≤ most
unfolding number_in
number_most most word number is = grind (arith, same_Some, leb-true, and_parts)

pub within_range : (least most : ℕ) (word : List ℕ) (found : Option ℕ) → found ≡ number_within least most word
    → IfSome found (λ number. (least ≤ number) × (number ≤ most))
within_range least most word found is = grind (arith, leb-true, number_most)

-- the setting of two numbers is there where both are
pub and_setting : (scale rounds : Option ℕ) (same : Option Bool)
    → option_and (setting_of scale rounds) same ≡ option_and scale (option_and rounds same)
and_setting None rounds same = refl
and_setting (Some scale) None same = refl
and_setting (Some scale) (Some rounds) same = refl
