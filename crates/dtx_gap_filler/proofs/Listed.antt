-- The first listing of an address, or none.
use Rattle.std.proofs.Common.{◌≡◌, ◌⊎◌, inl, inr, ℕ, zero, suc, ◌+◌, ◌-◌, ◌%◌, ◌<◌, ◌≤◌, ◌==◌, ◌&&◌, Bool, true, false}
use Rattle.std.proofs.Common.{List, sym, ap, ◌∙◌, arith}
use Rattle.std.proofs.lemmas.Bool.{cases_Bool, cases_eq, eqb-true, eq-eqb, and_parts}
use Rattle.dtx_network.specs.Orders.{has_listing}
use Rattle.dtx_network.specs.Headline.{IsFirstListing, HasNoListing}

-- the first of n numbers from a on at which a test passes
record IsFirst (p : ℕ → Bool) (a n k : ℕ) : Type 0 where
  pub from : a ≤ k
  pub below : k < a + n
  pub passes : p k ≡ true
  pub least : (i : ℕ) → a ≤ i → i < k → p i ≡ false

search : (p : ℕ → Bool) (a n : ℕ) → ((k : ℕ) × IsFirst p a n k) ⊎ ((i : ℕ) → a ≤ i → i < a + n → p i ≡ false)
search p a zero = inr (λ i l m. absurd (omega (arith, l, m)))
search p a (suc n) = by_cases (cases_Bool (p a)) (search p (a + 1) n)
  where
    here : (i : ℕ) → p a ≡ false → a ≤ i → (a + 1 ≤ i → p i ≡ false) → p i ≡ false
    here i f l g = by_place (cases_eq a i)
      where
        by_place : (a ≡ i) ⊎ (a ≡ i → ⊥) → p i ≡ false
        by_place (inl e) = ap p (sym e) ∙ f
        by_place (inr e) = g (omega (arith, l, e))

    by_cases : (p a ≡ true) ⊎ (p a ≡ false)
        → ((k : ℕ) × IsFirst p (a + 1) n k) ⊎ ((i : ℕ) → a + 1 ≤ i → i < a + 1 + n → p i ≡ false)
        → ((k : ℕ) × IsFirst p a (suc n) k) ⊎ ((i : ℕ) → a ≤ i → i < a + suc n → p i ≡ false)
    by_cases (inl t) r = grind arith
    by_cases (inr f) (inl (k, w)) = grind arith
    by_cases (inr f) (inr none) = inr (λ i l m. here i f l (λ g. none i g (omega (arith, m))))

pub listed_or_not : (address : ℕ) (feed : List (List ℕ)) (z end : ℕ)
    → ((k : ℕ) × IsFirstListing address feed z end k) ⊎ HasNoListing address feed z end
listed_or_not address feed z end = elim (search test (z + 52) (end - 3 - (z + 52))) [
  | inl (k, w) ↦ grind (arith, and_parts, eqb-true)
  | inr none ↦ inr (λ g e l m. fails g e (none g l (omega (arith, m, l))))
]
  where
    test : ℕ → Bool
    test k = (k % 4 == 0) && has_listing address feed k

    fails : (i : ℕ) → i % 4 ≡ 0 → ((i % 4 == 0) && has_listing address feed i) ≡ false
        → has_listing address feed i ≡ false
    fails i g f = sym (ap (λ b. b && has_listing address feed i) (eq-eqb (i % 4) 0 g)) ∙ f
