-- The search for a name that equals an earlier one.
use Rattle.std.proofs.Common.{◌≡◌, ℕ, ◌+◌, ◌<◌, suc, Bool, true, false, ◌||◌, cond, List, [], ◌∷◌, ◌++◌, length, map}
use Rattle.std.proofs.Common.{take, drop, get_or, refl, sym, ap, ◌∙◌, add-one, arith}
use Rattle.std.specs.Prelude.{Some}
use Rattle.std.specs.Borrow.{Bor}
use Rattle.std.specs.List.{list_any}
use Rattle.std.specs.Str.{bytes_eq}
use Rattle.std.proofs.Math.Seq.{drop-cons}
use Rattle.std.proofs.lemmas.List.{take_more}
use Rattle.dtx_words.specs.Names.{repeated_after}

-- the names behind references
abbrev pub texts : List (Bor (List ℕ)) → List (List ℕ)
texts names = map (λ name. name.now) names

list_any-texts : (p : List ℕ → Bool) (names : List (Bor (List ℕ)))
    → list_any p (texts names) ≡ list_any (λ name. p name.now) names
list_any-texts p [] = refl
list_any-texts p (name ∷ names) = ap (λ b. p name.now || b) (list_any-texts p names)

texts-append : (first second : List (Bor (List ℕ))) → texts (first ++ second) ≡ texts first ++ texts second
texts-append [] second = refl
texts-append (name ∷ first) second = ap (λ rest. name.now ∷ rest) (texts-append first second)

-- the answer of the test of one name
at_name : (names : List (Bor (List ℕ))) (i : ℕ) (d : Bor (List ℕ)) (b : Bool) → i < length names
    → list_any (λ first. bytes_eq first.now (get_or names i d).now) (take i names) ≡ b
    → repeated_after (texts (take i names)) (texts (drop i names))
    ≡ cond b (Some (get_or names i d).now) (repeated_after (texts (take i names) ++ (get_or names i d).now ∷ [])
    (texts (drop (suc i) names)))
at_name names i d b within is = grind (arith, drop-cons, list_any-texts)

-- a name that equals an earlier one
pub repeated_here : (names : List (Bor (List ℕ))) (i : ℕ) (d : Bor (List ℕ)) → i < length names
    → list_any (λ first. bytes_eq first.now (get_or names i d).now) (take i names) ≡ true
    → repeated_after (texts (take i names)) (texts (drop i names)) ≡ Some (get_or names i d).now
repeated_here names i d within is = at_name names i d true within is

-- a name that equals no earlier one
pub not_repeated : (names : List (Bor (List ℕ))) (i : ℕ) (d : Bor (List ℕ)) → i < length names
    → list_any (λ first. bytes_eq first.now (get_or names i d).now) (take i names) ≡ false
    → repeated_after (texts (take i names)) (texts (drop i names))
    ≡ repeated_after (texts (take (i + 1) names)) (texts (drop (i + 1) names))
not_repeated names i d within is = at_name names i d false within is
    ∙ ap (λ earlier. repeated_after earlier (texts (drop (suc i) names)))
    (sym (texts-append (take i names) (get_or names i d ∷ [])) ∙ ap texts (sym (take_more names i d within)))
    ∙ ap (λ k. repeated_after (texts (take (i + 1) names)) (texts (drop k names))) (sym (add-one i))
