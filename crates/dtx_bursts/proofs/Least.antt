-- The least value among those at which a test fails.
use Rattle.std.proofs.Common.{◌≡◌, ℕ, zero, suc, ◌+◌, ◌<◌, ◌≤◌, ◌⊎◌, inl, inr, Bool, true, false, refl, subst, arith}
use Rattle.std.proofs.lemmas.Bool.{cases_lt}

-- Where the test fails on some of the n numbers from a on, one of these has the least value.
pub record IsLeast (p : ℕ → Bool) (v : ℕ → ℕ) (a n at : ℕ) : Type 0 where
  pub from : a ≤ at
  pub to : at < a + n
  pub fails : p at ≡ false
  pub least : (i : ℕ) → a ≤ i → i < a + n → (p i ≡ true) ⊎ (v at ≤ v i)

abbrev pub AllPass : (p : ℕ → Bool) (a n : ℕ) → Type 0
AllPass p a n = (i : ℕ) → a ≤ i → i < a + n → p i ≡ true

first_or_later : (P : ℕ → Type 0) (a n : ℕ) → P a → ((i : ℕ) → suc a ≤ i → i < suc a + n → P i) → (i : ℕ) → a ≤ i
    → i < a + suc n → P i
first_or_later P a n first later i l m = elim (cases_lt a i) [
  | inl k ↦ later i (omega (arith, k)) (omega (arith, m))
  | inr k ↦ subst P (let z : a ≡ i = omega (arith, l, k) in z) first
]

abbrev Found : (p : ℕ → Bool) (v : ℕ → ℕ) (a n : ℕ) → Type 0
Found p v a n = ((at : ℕ) × IsLeast p v a n at) ⊎ AllPass p a n

more : (p : ℕ → Bool) (v : ℕ → ℕ) (a n : ℕ) (b : Bool) → p a ≡ b → Found p v (suc a) n → Found p v a (suc n)
more p v a n true e (inr pass) = inr (first_or_later (λ i. p i ≡ true) a n e pass)
more p v a n true e (inl (at, h)) = inl (
  at,
  record {
    from = omega (arith, h.from);
    to = omega (arith, h.to);
    fails = h.fails;
    least = first_or_later (λ i. (p i ≡ true) ⊎ (v at ≤ v i)) a n (inl e) h.least;
  },
)
more p v a n false e (inr pass) = inl (
  a,
  record {
    from = omega arith;
    to = omega arith;
    fails = e;
    least = first_or_later (λ i. (p i ≡ true) ⊎ (v a ≤ v i)) a n (inr (omega arith)) (λ i l m. inl (pass i l m));
  },
)
more p v a n false e (inl (at, h)) = elim (cases_lt (v a) (v at)) [
  | inl k ↦ inl (
    a,
    record {
      from = omega arith;
      to = omega arith;
      fails = e;
      least = first_or_later (λ i. (p i ≡ true) ⊎ (v a ≤ v i)) a n (inr (omega arith)) (λ i l m. elim (h.least i l m) [
        | inl t ↦ inl t
        | inr l ↦ inr (omega (arith, k, l))
      ]);
    },
  )
  | inr k ↦ inl (
    at,
    record {
      from = omega (arith, h.from);
      to = omega (arith, h.to);
      fails = h.fails;
      least = first_or_later (λ i. (p i ≡ true) ⊎ (v at ≤ v i)) a n (inr k) h.least;
    },
  )
]

pub least_by : (p : ℕ → Bool) (v : ℕ → ℕ) (a n : ℕ) → Found p v a n
least_by p v a zero = inr (λ i l m. absurd (omega (arith, l, m)))
least_by p v a (suc n) = more p v a n (p a) refl (least_by p v (suc a) n)
