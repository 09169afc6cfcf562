-- One sync more.
use Rattle.std.proofs.Common.{◌≡◌, ℕ, ◌+◌, refl, ap, ◌∙◌, arith, List, length, sym, subst, Bool, [], ◌∷◌, ◌++◌, true}
use Rattle.std.proofs.Common.{length-append, filter, not, Option, Some, IfSome, eqb}
use Rattle.std.proofs.lemmas.Bool.{cond-false, ne_eqb}
use Rattle.dtx_level.specs.Levelled.{last_behind, last_of}
use Rattle.dtx_level.specs.Leveller.{IsTally, slip_after}
use Rattle.dtx_level.specs.Syncs.{slip_behind, slips_behind}

slips_more : (o : Option ℕ) (xs : List ℕ) (p : ℕ)
    → slips_behind o (xs ++ p ∷ []) ≡ slips_behind o xs + slip_behind (last_behind o xs) p
unfolding slips_behind
slips_more o [] p = grind arith
slips_more o (x ∷ xs) p = ap (λ n. slip_behind o x + n) (slips_more (Some x) xs p)
    ∙ added (slip_behind o x) (slips_behind (Some x) xs) (slip_behind (last_behind (Some x) xs) p)
  where
    added : (a b c : ℕ) → a + (b + c) ≡ a + b + c
    added a b c = omega arith

pub last_more : (o : Option ℕ) (xs : List ℕ) (p : ℕ) → last_behind o (xs ++ p ∷ []) ≡ Some p
last_more o [] p = refl
last_more o (x ∷ xs) p = last_more (Some x) xs p

-- the last of some behind one is none only where they are none
pub last_some : (x : ℕ) (xs : List ℕ) → (q : ℕ) × (last_behind (Some x) xs ≡ Some q)
last_some x [] = (x, refl)
last_some x (y ∷ xs) = last_some y xs

met_here : (m : ℕ → Bool) (xs : List ℕ) (x : ℕ) → filter (λ p. not (m p)) (x ∷ xs) ≡ []
    → (m x ≡ true) × (filter (λ p. not (m p)) xs ≡ [])
met_here m xs x f = grind arith

-- where none fails, the last doesn't
pub met_last : (m : ℕ → Bool) (q : ℕ) (xs : List ℕ) (x : ℕ) → filter (λ p. not (m p)) (x ∷ xs) ≡ []
    → last_behind (Some x) xs ≡ Some q → m q ≡ true
met_last m q [] x f e = grind (arith, met_here)
met_last m q (y ∷ ys) x f e = met_last m q ys y (met_here m (y ∷ ys) x f).1 e

-- whether a place is a slip behind the last of some
slip_is : (syncs last place : ℕ) (places : List ℕ) → syncs ≡ length places
    → IfSome (last_of places) (λ p. last ≡ p) → slip_after syncs last place ≡ slip_behind (last_of places) place
slip_is syncs last place [] e h = ap (λ n. slip_after n last place) e
slip_is syncs last place (x ∷ xs) e h =
    let found = last_some x xs in
    cond-false (eqb syncs 0) 0 (slip_behind (Some last) place) (grind (arith, ne_eqb)) ∙ ap (λ o. slip_behind o place)
    (ap Some (subst (λ (o : Option ℕ). IfSome o (λ p. last ≡ p)) found.1 h) ∙ sym found.1)

pub tally_after : (syncs slips last place : ℕ) (places : List ℕ) → IsTally syncs slips last places
    → IsTally (syncs + 1) (slips + slip_after syncs last place) place (places ++ place ∷ [])
unfolding slips_behind
tally_after syncs slips last place places t = grind (arith, length-append, slip_is, slips_more, last_more)
