-- Lemmas of sums over a range: one number more, of sums, in another order, and in blocks.
use Rattle.std.proofs.Common.{◌≡◌, ℕ, zero, suc, ◌+◌, ◌*◌, ◌<◌, ◌≤◌, map, sum, refl, sym, ap, ap₂, ◌∙◌, arith}
use Rattle.std.specs.List.{range_with_len}
use Rattle.std.proofs.lemmas.List.FromFn.{sum_by-map-range_with_len_more}
use Rattle.std.proofs.lemmas.List.Sums.{sum_by-cons}
use Rattle.dtx_lists.proofs.Range.{map-range_same}
use Rattle.dtx_lists.proofs.RangeMoved.{map-range_moved}
pub use Rattle.dtx_lists.proofs.RangeSums.{over, over_parts}

pub none_first : (n : ℕ) → 0 + n ≡ n
none_first n = omega arith

pub over_more : (f : ℕ → ℕ) (a n : ℕ) → over f a (n + 1) ≡ over f a n + f (a + n)
over_more f a n = sum_by-map-range_with_len_more (λ x. x) f a n (a + n) refl

pub over_one : (f : ℕ → ℕ) (a n : ℕ) → over f a (1 + n) ≡ f a + over f (a + 1) n
over_one f a n =
    let next : 1 + n ≡ suc n = omega arith in
    ap (over f a) next ∙ sum_by-cons (λ x. x) (f a) (map f (range_with_len (a + 1) n))

pub over_same : (f g : ℕ → ℕ) (a n : ℕ) → ((i : ℕ) → a ≤ i → i < a + n → f i ≡ g i) → over f a n ≡ over g a n
over_same f g a n h = ap sum (map-range_same f g a n h)

pub over_moved : (f g : ℕ → ℕ) (a b n : ℕ) → ((i : ℕ) → i < n → f (a + i) ≡ g (b + i)) → over f a n ≡ over g b n
over_moved f g a b n h = ap sum (map-range_moved f g a b n h)

-- where nothing is added
pub over_none : (f : ℕ → ℕ) (a n : ℕ) → ((i : ℕ) → a ≤ i → i < a + n → f i ≡ 0) → over f a n ≡ 0
over_none f a zero h = refl
over_none f a (suc n) h =
    let next : suc n ≡ n + 1 = omega arith in
    ap (over f a) next ∙ over_more f a n
    ∙ ap₂ (λ x y. x + y) (over_none f a n (λ i l m. h i l (omega arith))) (h (a + n) (omega arith) (omega arith))

-- a sum of sums is the sum of two
pub over_plus : (f g : ℕ → ℕ) (a n : ℕ) → over (λ i. f i + g i) a n ≡ over f a n + over g a n
over_plus f g a zero = refl
over_plus f g a (suc n) =
    let next : suc n ≡ n + 1 = omega arith in
    let before = over_plus f g a n in
    let first = over_more f a n in
    let second = over_more g a n in
    let both = over_more (λ i. f i + g i) a n in
    let all : over (λ i. f i + g i) a (n + 1) ≡ over f a (n + 1) + over g a (n + 1) = grind arith in
    ap (over (λ i. f i + g i) a) next ∙ all ∙ sym (ap (λ n. over f a n + over g a n) next)

-- two sums in either order
pub over_swap : (f : ℕ → ℕ → ℕ) (m n : ℕ)
    → over (λ e. over (λ t. f t e) 0 n) 0 m ≡ over (λ t. over (λ e. f t e) 0 m) 0 n
over_swap f m zero = over_none (λ e. over (λ t. f t e) 0 0) 0 m (λ i l k. refl)
over_swap f m (suc n) =
    let next : suc n ≡ n + 1 = omega arith in
    let at : 0 + n ≡ n = omega arith in
    over_same (λ e. over (λ t. f t e) 0 (suc n)) (λ e. over (λ t. f t e) 0 n + f n e) 0 m
    (λ e a b. ap (over (λ t. f t e) 0) next ∙ over_more (λ t. f t e) 0 n
    ∙ ap (λ k. over (λ t. f t e) 0 n + f k e) at)
    ∙ over_plus (λ e. over (λ t. f t e) 0 n) (λ e. f n e) 0 m
    ∙ ap (λ k. k + over (λ e. f n e) 0 m) (over_swap f m n)
    ∙ sym (ap (over (λ t. over (λ e. f t e) 0 m) 0) next ∙ over_more (λ t. over (λ e. f t e) 0 m) 0 n
    ∙ ap (λ k. over (λ t. over (λ e. f t e) 0 m) 0 n + over (λ e. f k e) 0 m) at)

-- a sum in blocks of b
pub over_blocks : (f : ℕ → ℕ) (b n : ℕ) → over (λ i. over (λ k. f (b * i + k)) 0 b) 0 n ≡ over f 0 (b * n)
over_blocks f b zero = (let none : 0 ≡ b * 0 = grind arith in ap (over f 0) none)
over_blocks f b (suc n) =
    let next : suc n ≡ n + 1 = omega arith in
    let at : 0 + n ≡ n = omega arith in
    let more : b * n + b ≡ b * suc n = grind arith in
    let moved : over (λ k. f (b * n + k)) 0 b ≡ over f (0 + b * n) b = grind (arith, over_moved) in
    ap (over (λ i. over (λ k. f (b * i + k)) 0 b) 0) next ∙ over_more (λ i. over (λ k. f (b * i + k)) 0 b) 0 n
    ∙ ap₂ (λ (x y : ℕ). x + y) (over_blocks f b n) (ap (λ i. over (λ k. f (b * i + k)) 0 b) at ∙ moved)
    ∙ sym (over_parts f 0 (b * n) b) ∙ ap (over f 0) more
