-- The first number of a range that passes a test.
use Rattle.std.proofs.Common.{◌≡◌, ℕ, zero, suc, ◌+◌, ◌<◌, ◌≤◌, ◌⊎◌, Bool, true, false, cond, Option, Some, None, refl}
use Rattle.std.proofs.Common.{sym, ap, ◌∙◌, arith, inl, inr}
use Rattle.std.specs.List.{range_with_len, find}
use Rattle.std.proofs.lemmas.Bool.{cond-true, cond-false}
use Rattle.dtx_lists.proofs.Range.{range_cases}

-- j is the first of the n numbers from a on that passes
pub record IsFirst (p : ℕ → Bool) (a n j : ℕ) : Type 0 where
  pub least : a ≤ j
  pub within : j < a + n
  pub passes : p j ≡ true
  pub before : (i : ℕ) → a ≤ i → i < j → p i ≡ false

-- the first that passes is found
pub find-range_first : (p : ℕ → Bool) (a n j : ℕ) → a ≤ j → j < a + n → p j ≡ true
    → ((i : ℕ) → a ≤ i → i < j → p i ≡ false) → find p (range_with_len a n) ≡ Some j
find-range_first p a zero j l m t f = absurd (omega arith)
find-range_first p a (suc n) j l m t f =
    by_place p a j (find p (range_with_len (a + 1) n)) (range_cases a j l) t (λ k. f a (omega arith) (omega arith))
    (λ k. find-range_first p (a + 1) n j k (omega arith) t (λ i h g. f i (omega arith) g))
  where
    by_place : (p : ℕ → Bool) (a j : ℕ) (rest : Option ℕ) → (a ≡ j) ⊎ (a + 1 ≤ j) → p j ≡ true
        → (a + 1 ≤ j → p a ≡ false) → (a + 1 ≤ j → rest ≡ Some j) → cond (p a) (Some a) rest ≡ Some j
    by_place p a j rest (inl e) t f r = cond-true (p a) (Some a) rest (ap p e ∙ t) ∙ ap Some e
    by_place p a j rest (inr k) t f r = cond-false (p a) (Some a) rest (f k) ∙ r k

gives_by_test : (p : ℕ → Bool) (a n j : ℕ) (t : Bool) → p a ≡ t
    → cond t (Some a) (find p (range_with_len (a + 1) n)) ≡ Some j
    → (find p (range_with_len (a + 1) n) ≡ Some j → IsFirst p (a + 1) n j) → IsFirst p a (suc n) j
gives_by_test p a n j true e h f = grind arith
gives_by_test p a n j false e h f = grind (arith, range_cases)

-- what is found is the first that passes
pub find-range_gives : (p : ℕ → Bool) (a n j : ℕ) → find p (range_with_len a n) ≡ Some j → IsFirst p a n j
find-range_gives p a zero j h = grind arith
find-range_gives p a (suc n) j h = gives_by_test p a n j (p a) refl h (find-range_gives p (a + 1) n j)

-- where nothing is found, none passes
pub find-range_misses : (p : ℕ → Bool) (a n : ℕ) → find p (range_with_len a n) ≡ None → (i : ℕ) → a ≤ i → i < a + n
    → p i ≡ false
find-range_misses p a zero h i l m = absurd (omega arith)
find-range_misses p a (suc n) h i l m =
    by_test p a n i (p a) refl h (range_cases a i l) (λ g k. find-range_misses p (a + 1) n g i k (omega arith))
  where
    by_test : (p : ℕ → Bool) (a n i : ℕ) (t : Bool) → p a ≡ t
        → cond t (Some a) (find p (range_with_len (a + 1) n)) ≡ None → (a ≡ i) ⊎ (a + 1 ≤ i)
        → (find p (range_with_len (a + 1) n) ≡ None → a + 1 ≤ i → p i ≡ false) → p i ≡ false
    by_test p a n i true e h c f = cc
    by_test p a n i false e h (inl q) f = ap p (sym q) ∙ e
    by_test p a n i false e h (inr k) f = f h k
