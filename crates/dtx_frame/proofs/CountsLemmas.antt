-- Sums over a range, and counts of what differs.
use Rattle.std.proofs.Common.{◌≡◌, ℕ, zero, suc, ◌+◌, ◌-◌, ◌<◌, ◌≤◌, ◌==◌, cond, List, [], ◌∷◌, map, sum, refl, sym, ap}
use Rattle.std.proofs.Common.{◌∙◌, arith}
use Rattle.std.specs.List.{range_with_len, sum_by}
use Rattle.std.proofs.lemmas.Bool.{cond-true, cond-false, eq-eqb, ne_eqb}
use Rattle.std.proofs.lemmas.List.Sums.{sum_by-cons}

-- 0 where two numbers are the same
pub same_is : (x y : ℕ) → x ≡ y → ◌≡◌ {A = ℕ} (cond (x == y) 0 1) 0
same_is x y e = cond-true (x == y) 0 1 (eq-eqb x y e)

pub other_is : (x y : ℕ) → (x ≡ y → ⊥) → ◌≡◌ {A = ℕ} (cond (x == y) 0 1) 1
other_is x y e = cond-false (x == y) 0 1 (ne_eqb x y e)

-- f a + f (a + 1) + .., of n places
abbrev pub total : (ℕ → ℕ) → ℕ → ℕ → ℕ
total f a zero = 0
total f a (suc n) = f a + total f (suc a) n

total_by : (f : ℕ → ℕ) (a n : ℕ) → sum_by f (range_with_len a n) ≡ total f a n
total_by f a zero = refl
total_by f a (suc n) = rw (sum_by-cons f a (range_with_len (a + 1) n), total_by f (a + 1) n, next a)
  where
    next : (a : ℕ) → a + 1 ≡ suc a
    next a = omega arith

sum_map : (f : ℕ → ℕ) (xs : List ℕ) → sum (map f xs) ≡ sum_by f xs
sum_map f [] = refl
sum_map f (x ∷ xs) = sum_by-cons (λ y. y) (f x) (map f xs) ∙ ap (λ y. f x + y) (sum_map f xs) ∙ sym (sum_by-cons f x xs)

-- a sum over a range
pub sum_is : (f : ℕ → ℕ) (a n : ℕ) → sum (map f (range_with_len a n)) ≡ total f a n
sum_is f a n = sum_map f (range_with_len a n) ∙ total_by f a n

-- a sum of zeros, and one of ones
pub total_zeros : (f : ℕ → ℕ) (a n : ℕ) → ((i : ℕ) → a ≤ i → i < a + n → f i ≡ 0) → total f a n ≡ 0
total_zeros f a zero h = refl
total_zeros f a (suc n) h =
    omega (arith, h a (omega arith) (omega arith), total_zeros f (suc a) n (λ i l m. h i (omega arith) (omega arith)))

pub total_ones : (f : ℕ → ℕ) (a n : ℕ) → ((i : ℕ) → a ≤ i → i < a + n → f i ≡ 1) → total f a n ≡ n
total_ones f a zero h = refl
total_ones f a (suc n) h = omega (arith, h a (omega arith) (omega arith), total_ones f (suc a) n (λ i l m. grind arith))

total_append : (f : ℕ → ℕ) (a m n : ℕ) → total f a (m + n) ≡ total f a m + total f (a + m) n
total_append f a zero n = grind arith
total_append f a (suc m) n = ap (total f a) (one m n)
    ∙ ap (λ x. f a + x) (total_append f (suc a) m n ∙ ap (λ x. total f (suc a) m + total f x n) (two a m)) ∙ omega arith
  where
    one : (m n : ℕ) → suc m + n ≡ suc (m + n)
    one m n = omega arith

    two : (a m : ℕ) → suc a + m ≡ a + suc m
    two a m = omega arith

-- a part is at most the whole
pub part : (f : ℕ → ℕ) (a n w : ℕ) → a + n ≤ w → total f a n ≤ total f 0 w
part f a n w l =
    let e : total f 0 (a + n) ≡ total f 0 a + total f (0 + a) n = total_append f 0 a n in
    let g : total f 0 (a + n + (w - (a + n))) ≡ total f 0 (a + n) + total f (0 + (a + n)) (w - (a + n)) =
    total_append f 0 (a + n) (w - (a + n)) in
    let h : total f 0 (a + n + (w - (a + n))) ≡ total f 0 w = ap (total f 0) (omega arith) in
    let k : total f (0 + a) n ≡ total f a n = ap (λ x. total f x n) (omega arith) in
    omega arith

pub total_shift : (f : ℕ → ℕ) (k a n : ℕ) → total f (k + a) n ≡ total (λ p. f (k + p)) a n
total_shift f k a zero = refl
total_shift f k a (suc n) = ap (λ x. f (k + a) + x) (ap (λ x. total f x n) (next k a) ∙ total_shift f k (suc a) n)
  where
    next : (k a : ℕ) → suc (k + a) ≡ k + suc a
    next k a = omega arith
