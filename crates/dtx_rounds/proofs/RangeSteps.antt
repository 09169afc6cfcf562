-- Sums and counts over a range, one number further.
use Rattle.std.proofs.Common.{◌≡◌, ℕ, zero, suc, ◌+◌, ◌<◌, ◌≤◌, ◌⊎◌, inl, inr, Bool, true, false, cond, [], ◌∷◌, length}
use Rattle.std.proofs.Common.{map, filter, sum, refl, sym, ap, ◌∙◌, subst, arith}
use Rattle.std.specs.List.{range_with_len}
use Rattle.std.proofs.lemmas.Bool.{cases_lt}
use Rattle.std.proofs.lemmas.List.{length-append}
use Rattle.std.proofs.lemmas.List.Elements.{filter-append}
use Rattle.std.proofs.lemmas.List.FromFn.{sum_by-map-range_with_len_more}
use Rattle.dtx_lists.proofs.Range.{range_with_len-parts}

pub sum_next : (f : ℕ → ℕ) (k : ℕ) → sum (map f (range_with_len 0 (k + 1))) ≡ sum (map f (range_with_len 0 k)) + f k
sum_next f k = sum_by-map-range_with_len_more (λ x. x) f 0 k k (omega arith)

-- a sum of nothing
pub sum_none : (f : ℕ → ℕ) (n : ℕ) → ((i : ℕ) → i < n → f i ≡ 0) → sum (map f (range_with_len 0 n)) ≡ 0
sum_none f zero h = refl
sum_none f (suc n) h =
    let next : suc n ≡ n + 1 = omega arith in
    ap (λ m. sum (map f (range_with_len 0 m))) next
    ∙ sum_next f n
    ∙ omega (arith, sum_none f n (λ i l. h i (omega (arith, l))), h n (omega arith))

-- each number of a sum of nothing is 0
pub sum_zero : (f : ℕ → ℕ) (n : ℕ) → sum (map f (range_with_len 0 n)) ≡ 0 → (i : ℕ) → i < n → f i ≡ 0
sum_zero f zero e i l = absurd (omega (arith, l))
sum_zero f (suc n) e i l = by_place (λ before. sum_zero f n before i) (cases_lt i n)
  where
    both : sum (map f (range_with_len 0 n)) + f n ≡ 0
    both = sym (let next : suc n ≡ n + 1 = omega arith in
        ap (λ m. sum (map f (range_with_len 0 m))) next ∙ sum_next f n) ∙ e

    by_place : (sum (map f (range_with_len 0 n)) ≡ 0 → i < n → f i ≡ 0) → (i < n) ⊎ (n ≤ i) → f i ≡ 0
    by_place before (inl m) = before (omega (arith, both)) m
    by_place before (inr m) = (let here : i ≡ n = omega (arith, l, m) in ap f here ∙ omega (arith, both))

-- two sums, number by number
pub sums_rise : (f g : ℕ → ℕ) (n : ℕ) → ((i : ℕ) → i < n → f i ≤ g i)
    → sum (map f (range_with_len 0 n)) ≤ sum (map g (range_with_len 0 n))
sums_rise f g zero h = omega arith
sums_rise f g (suc n) h =
    let next : suc n ≡ n + 1 = omega arith in
    subst (λ m. sum (map f (range_with_len 0 m)) ≤ sum (map g (range_with_len 0 m))) (sym next)
    (omega (arith, sum_next f n, sum_next g n, sums_rise f g n (λ i l. h i (omega (arith, l))), h n (omega arith)))

one : (p : ℕ → Bool) (k : ℕ) → (b : Bool) → p k ≡ b → length (filter p (k ∷ [])) ≡ cond b 1 0
one p k true e = simp e
one p k false e = simp e

pub count_next : (p : ℕ → Bool) (k : ℕ)
    → length (filter p (range_with_len 0 (k + 1))) ≡ length (filter p (range_with_len 0 k)) + cond (p k) 1 0
count_next p k = grind (arith, range_with_len-parts, filter-append, length-append, one)
