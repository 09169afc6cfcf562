-- What orders say of pages, with one order more.
use Rattle.std.proofs.Common.{◌≡◌, ℕ, ◌==◌, true, false, not, cond, Option, Some, None, List, [], ◌∷◌, refl, ap, ap₂}
use Rattle.std.proofs.Common.{◌∙◌, arith}
use Rattle.std.specs.List.{find, take_while}
use Rattle.std.proofs.lemmas.Bool.{cond-true, cond-false, eq-eqb}
use Rattle.std.proofs.lemmas.List.Sums.{take_while-cons}
use Rattle.dtx_exciter.specs.Order.{Order}
use Rattle.dtx_exciter.specs.Pages.{page, pages, lists, of_one_cycle, unless_told_again, listing}

-- ---- orders of one number of pages

pub cycle_same : (o l : Order) (r : List Order) → pages o ≡ pages l
    → of_one_cycle (o ∷ l ∷ r) ≡ o ∷ of_one_cycle (l ∷ r)
cycle_same o l r e = grind (arith, take_while-cons, cond-true, eq-eqb)

-- ---- the order that lists an address

pub listing_here : (a : ℕ) (o : Order) (c : List Order) → lists a o.ops ≡ true → listing a (o ∷ c) ≡ Some o
unfolding listing
listing_here a o c h = grind (arith, take_while-cons, cond-false, cond-true)

-- where a later order tells this page
abbrev pub forgotten : ℕ → Option Order → Option Order
forgotten k None = None
forgotten k (Some l) = cond (k == page l) None (Some l)

told_by_one : (o : Order) (later : List Order) (f : Option Order)
    → unless_told_again (o ∷ later) f ≡ forgotten (page o) (unless_told_again later f)
told_by_one o later None = refl
told_by_one o later (Some l) = grind arith

pub listing_other : (a : ℕ) (o : Order) (c : List Order) → lists a o.ops ≡ false
    → listing a (o ∷ c) ≡ forgotten (page o) (listing a c)
unfolding listing
listing_other a o c h = ap₂ unless_told_again (take_while-cons (λ x. not (lists a x.ops)) o c
    ∙ cond-true (not (lists a o.ops)) (o ∷ take_while (λ x. not (lists a x.ops)) c) [] (ap not h))
    (grind (arith, cond-false)) ∙ told_by_one o (take_while (λ x. not (lists a x.ops)) c) (find (λ x. lists a x.ops) c)
