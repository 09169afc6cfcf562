-- Lemmas of the command that the words fit: it is the one that they fit, and there is no other.
use Rattle.std.specs.Prelude.{◌≡◌, ℕ, Bool, true, false, not, ◌&&◌, cond, codes, List, [], ◌∷◌, Option, Some}
use Rattle.std.specs.Prelude.{None, refl}
use Rattle.std.specs.List.{find}
use Rattle.std.specs.Str.{bytes_eq}
use Rattle.std.proofs.Common.{sym, ap, ◌∙◌, subst, arith}
use Rattle.std.proofs.lemmas.Bool.{and_parts}
use Rattle.std.proofs.lemmas.Slice.Eq.{bytes_eq-Decides}
use Rattle.dtx_words.specs.declared.rows.Command.{Command}
use Rattle.dtx_words.specs.declared.rows.Command.TheVariants.{Adapt, DvbCode, DvbRead}
use Rattle.dtx_words.specs.declared.rows.Field.{Field}
use Rattle.dtx_words.specs.declared.rows.Field.TheVariants.{Input, Output, Number, Within, Second}
use Rattle.dtx_words.specs.Fitting.{fits, fit_fields, command_of}
use Rattle.dtx_words.specs.Rows.{row_of, commands, second_text}

-- no command passes
abbrev DoAllFail : (Command → Bool) → List Command → Type 0
DoAllFail p [] = Unit {0}
DoAllFail p (first ∷ rest) = (p first ≡ false) × DoAllFail p rest

-- what is found passes the test
found_passes : (p : Command → Bool) (all : List Command) (c : Command) → find p all ≡ Some c → p c ≡ true
found_passes p [] c is = let e : None ≡ Some c = is in cc
found_passes p (first ∷ rest) c is = tested (p first) refl (found_passes p rest c) is
  where
    tested : (b : Bool) → p first ≡ b → (find p rest ≡ Some c → p c ≡ true) → cond b (Some first) (find p rest) ≡ Some c
        → p c ≡ true
    tested true passes further is = grind arith
    tested false fails further is = further is

-- where nothing is found, nothing passes
none_passes : (p : Command → Bool) (all : List Command) → find p all ≡ None → DoAllFail p all
none_passes p [] is = tt
none_passes p (first ∷ rest) is = tested (p first) refl (none_passes p rest) is
  where
    tested : (b : Bool) → p first ≡ b → (find p rest ≡ None → DoAllFail p rest)
        → cond b (Some first) (find p rest) ≡ None → DoAllFail p (first ∷ rest)
    tested true passes further is = let e : Some first ≡ None = is in cc
    tested false fails further is = (fails, further is)

-- the second word may be this: it is the command's own one, where it has one
abbrev opens : List Field → List ℕ → Bool
opens [] word = true
opens (Input ∷ fields) word = true
opens (Output ∷ fields) word = true
opens (Number most ∷ fields) word = true
opens (Within least most ∷ fields) word = true
opens (Second second ∷ fields) word = bytes_eq word (second_text second)

-- the first of some words, or no letters where there is none
abbrev first_word : List (List ℕ) → List ℕ
first_word [] = []
first_word (word ∷ words) = word

opens_of : (fields : List Field) (words : List (List ℕ)) → fit_fields fields words ≡ true
    → opens fields (first_word words) ≡ true
opens_of [] words fit = refl
opens_of (Input ∷ fields) words fit = refl
opens_of (Output ∷ fields) words fit = refl
opens_of (Number most ∷ fields) words fit = refl
opens_of (Within least most ∷ fields) words fit = refl
opens_of (Second second ∷ fields) [] fit = let e : false ≡ true = fit in cc
opens_of (Second second ∷ fields) (word ∷ words) fit = (and_parts _ _ fit).0

-- the command has this first word, and may have this second one
abbrev is_named : List ℕ → List ℕ → Command → Bool
is_named verb word c = bytes_eq verb (row_of c).verb && opens (row_of c).fields word

-- the command of a first and a second word
command_named : List ℕ → List ℕ → Option Command
command_named verb word = find (is_named verb word) commands

named_by_words : (c : Command) (word : List ℕ) → opens (row_of c).fields word ≡ true
    → command_named (row_of c).verb word ≡ Some c
unfolding command_named
named_by_words DvbCode word is = grind (arith, command_named, bytes_eq-Decides)
named_by_words DvbRead word is =
    subst (λ w. command_named (codes "dvb") w ≡ Some DvbRead) (sym ((bytes_eq-Decides word (codes "read")).0 is)) refl
named_by_words command word is = refl

-- ---- facts of every command

-- the second word of a command of two words, or no letters
abbrev own_word : List Field → List ℕ
own_word (Second second ∷ fields) = second_text second
own_word fields = []

own_opens : (c : Command) → opens (row_of c).fields (own_word (row_of c).fields) ≡ true
own_opens Adapt = refl
own_opens command = refl

-- what is found is one of those that were searched
found_fails : (p q : Command → Bool) (all : List Command) (c : Command) → DoAllFail p all → find q all ≡ Some c
    → p c ≡ false
found_fails p q [] c fails is = let e : None ≡ Some c = is in cc
found_fails p q (first ∷ rest) c fails is = tested (q first) (found_fails p q rest c fails.1) is
  where
    tested : (b : Bool) → (find q rest ≡ Some c → p c ≡ false) → cond b (Some first) (find q rest) ≡ Some c
        → p c ≡ false
    tested true further is = grind arith
    tested false further is = further is

-- each command is among all
fails_of_all : (p : Command → Bool) → DoAllFail p commands → (c : Command) → p c ≡ false
unfolding command_named
fails_of_all p all c = grind (arith, found_fails, named_by_words, own_opens)

-- a fact of every command, by one test over all of them: none fails it
pub of_every : (test : Command → Bool) → find (λ c. not (test c)) commands ≡ None → (c : Command) → test c ≡ true
of_every test none c = grind (arith, fails_of_all, none_passes)

-- the first of words that fit a command is its word
verb_is : (c : Command) (verb : List ℕ) (words : List (List ℕ)) → fits c (verb ∷ words) ≡ true → verb ≡ (row_of c).verb
verb_is c verb words fit = (bytes_eq-Decides verb (row_of c).verb).0 (and_parts _ _ fit).0

-- no two commands fit the same words
pub fits_only : (words : List (List ℕ)) (a b : Command) → fits a words ≡ true → fits b words ≡ true → a ≡ b
fits_only [] a b first second = let e : false ≡ true = first in cc
fits_only (verb ∷ words) a b first second =
    let e : Some a ≡ Some b = sym (named_by_words a (first_word words) (grind (arith, opens_of, and_parts)))
    ∙ ap (λ v. command_named v (first_word words)) (sym (verb_is a verb words first) ∙ verb_is b verb words second)
    ∙ named_by_words b (first_word words) (opens_of (row_of b).fields words (and_parts _ _ second).1) in
    cc

-- the words fit the command that is found
pub command_fits : (words : List (List ℕ)) (c : Command) → command_of words ≡ Some c → fits c words ≡ true
command_fits words c is = found_passes (λ c. fits c words) commands c is

-- where none is found, they fit none
pub none_fits : (words : List (List ℕ)) (c : Command) → command_of words ≡ None → fits c words ≡ false
none_fits words c is = fails_of_all (λ c. fits c words) (none_passes (λ c. fits c words) commands is) c

-- the command that the words fit is found
pub command_found : (words : List (List ℕ)) (c : Command) → fits c words ≡ true → command_of words ≡ Some c
command_found words c fit = found (command_of words) refl
  where
    found : (o : Option Command) → command_of words ≡ o → command_of words ≡ Some c
    found None is = let e : true ≡ false = sym fit ∙ none_fits words c is in cc
    found (Some other) is = is ∙ ap Some (fits_only words other c (command_fits words other is) fit)
