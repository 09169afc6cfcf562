-- What the words of a trial mean is done.
use Rattle.std.proofs.Common.{◌≡◌, ℕ, ◌-◌, ◌^◌, ◌≤◌, true, false, List, [], ◌∷◌, refl, sym, subst, arith}
use Rattle.std.specs.Prelude.{Option, Some, None, IfSome, is_some}
use Rattle.std.proofs.lemmas.Bool.{and_parts}
use Rattle.dtx_meaning.specs.declared.status.Status.TheVariants.{Done}
use Rattle.dtx_outside.specs.Shelf.{Files}
use Rattle.dtx_words.specs.Fitting.{command_of, fits, number_in, number_within}
use Rattle.dtx_words.proofs.FittingLemmas.{command_fits}
use Rattle.dtx_words.specs.declared.rows.Command.{Command}
use Rattle.dtx_words.specs.declared.rows.Command.TheVariants.{Trial}
use Rattle.dtx_top.specs.Jobs.{means, means_of}
use Rattle.dtx_top.specs.Trial.{trial_made, trial_meaning, trial_of}
use Rattle.dtx_forms.proofs.NumbersLemmas.{number_most, within_range}

-- trials of numbers in their ranges are done
abbrev pub TrialLaw : Type 0
TrialLaw = (seed count : ℕ) → seed ≤ 2 ^ 64 - 1 → 624 ≤ count → count ≤ 1000000
    → (trial_made seed count).outcome.status ≡ Done

-- ---- what the words mean

within_most : (most : ℕ) (word : List ℕ) (found : Option ℕ) → number_in most word ≡ found
    → IfSome found (λ number. number ≤ most)
within_most most word None is = tt
within_most most word (Some number) is = number_most most word number is

numbers_done : TrialLaw → (seed count : Option ℕ) → IfSome seed (λ number. number ≤ 2 ^ 64 - 1)
    → IfSome count (λ number. (624 ≤ number) × (number ≤ 1000000)) → is_some seed ≡ true → is_some count ≡ true
    → (trial_of seed count).outcome.status ≡ Done
numbers_done law None count small within one other = let e : false ≡ true = one in cc
numbers_done law (Some seed) None small within one other = let e : false ≡ true = other in cc
numbers_done law (Some seed) (Some count) small within one other = law seed count small within.0 within.1

fitted_done : TrialLaw → (words : List (List ℕ)) (held : Files) → fits Trial words ≡ true
    → (trial_meaning words held).outcome.status ≡ Done
fitted_done law [] held fit = let e : false ≡ true = fit in cc
fitted_done law (verb ∷ []) held fit = let e : false ≡ true = (and_parts _ false fit).1 in cc
fitted_done law (verb ∷ seed ∷ []) held fit =
    let e : false ≡ true = (and_parts _ false (and_parts _ _ fit).1).1 in cc
fitted_done law (verb ∷ seed ∷ count ∷ []) held fit =
    let all = (and_parts _ _ fit).1 in
    numbers_done law (number_in (2 ^ 64 - 1) seed) (number_within 624 1000000 count)
    (within_most (2 ^ 64 - 1) seed (number_in (2 ^ 64 - 1) seed) refl)
    (within_range 624 1000000 count (number_within 624 1000000 count) refl)
    (and_parts _ _ all).0 (and_parts _ _ (and_parts _ _ all).1).0
fitted_done law (verb ∷ seed ∷ count ∷ word ∷ words) held fit = grind (arith, and_parts)

pub words_done : TrialLaw → (words : List (List ℕ)) (held : Files) → command_of words ≡ Some Trial
    → (means words held).outcome.status ≡ Done
words_done law words held is =
    subst (λ (command : Option Command). (means_of command words held).outcome.status ≡ Done) (sym is)
    (fitted_done law words held (command_fits words Trial is))
