-- How many places are damaged.
use Rattle.std.proofs.Common.{◌≡◌, ℕ, zero, suc, ◌+◌, ◌-◌, ◌<◌, ◌≤◌, ◌⊎◌, true, false, cond, Option, Some, None, List}
use Rattle.std.proofs.Common.{[], ◌∷◌, length, get_or, take, refl, sym, ap, ap₂, ◌∙◌, arith, inl, inr, add-zero}
use Rattle.std.proofs.Common.{zero-add}
use Rattle.std.specs.Option.{option_or, is_some}
use Rattle.std.specs.List.{range_with_len, sum_by, count_by}
use Rattle.std.proofs.Math.Dec.{leb, ltb}
use Rattle.std.proofs.lemmas.Bool.{le-leb, lt-leb, lt-ltb, le-ltb, and_from, and_left, and_right, cond-true, cond-false}
use Rattle.std.proofs.lemmas.List.Sums.{sum_by-cons, sum_by-append, count_by-le-length}
use Rattle.std.proofs.lemmas.List.FromFn.{length-range_with_len}
use Rattle.dtx_lists.proofs.Range.{range_with_len-parts}
use Rattle.dtx_plan.specs.declared.damage.Damage.{Damage}
use Rattle.dtx_make.specs.Hurt.{AreInOrder, IsCovered, covers, entry_at, damaged_from}
use Rattle.dtx_make.proofs.EntriesLemmas.{entry_at_more, one_covers}

-- 1 for a place that is damaged, or else 0
abbrev one_of : Option Damage → ℕ
one_of o = cond (is_some o) 1 0

sum_by-range_sums : (f g h : ℕ → ℕ) (a n : ℕ) → ((i : ℕ) → a ≤ i → i < a + n → f i ≡ g i + h i)
    → sum_by f (range_with_len a n) ≡ sum_by g (range_with_len a n) + sum_by h (range_with_len a n)
sum_by-range_sums f g h a zero e = refl
sum_by-range_sums f g h a (suc n) e =
    let here = e a (omega arith) (omega arith) in
    let rest = sum_by-range_sums f g h (a + 1) n (λ i l m. e i (omega arith) (omega arith)) in
    omega (
      arith,
      here,
      rest,
      sum_by-cons f a (range_with_len (a + 1) n),
      sum_by-cons g a (range_with_len (a + 1) n),
      sum_by-cons h a (range_with_len (a + 1) n),
    )

sum_by-range_zeros : (f : ℕ → ℕ) (a n : ℕ) → ((i : ℕ) → a ≤ i → i < a + n → f i ≡ 0) → sum_by f (range_with_len a n) ≡ 0
sum_by-range_zeros f a zero e = refl
sum_by-range_zeros f a (suc n) e = omega (
  arith,
  e a (omega arith) (omega arith),
  sum_by-range_zeros f (a + 1) n (λ i l m. e i (omega arith) (omega arith)),
  sum_by-cons f a (range_with_len (a + 1) n),
)

sum_by-range_ones : (f : ℕ → ℕ) (a n : ℕ) → ((i : ℕ) → a ≤ i → i < a + n → f i ≡ 1) → sum_by f (range_with_len a n) ≡ n
sum_by-range_ones f a zero e = refl
sum_by-range_ones f a (suc n) e = omega (
  arith,
  e a (omega arith) (omega arith),
  sum_by-range_ones f (a + 1) n (λ i l m. e i (omega arith) (omega arith)),
  sum_by-cons f a (range_with_len (a + 1) n),
)

pub damaged_from-le-count : (ds : List Damage) (place n : ℕ) → damaged_from ds place n ≤ n
unfolding damaged_from
damaged_from-le-count ds place n = grind (arith, length-range_with_len, count_by-le-length)

-- counted in two pieces
pub damaged_from-parts : (ds : List Damage) (place m n : ℕ)
    → damaged_from ds place (m + n) ≡ damaged_from ds place m + damaged_from ds (place + m) n
unfolding damaged_from
damaged_from-parts ds place m n = grind (arith, range_with_len-parts, sum_by-append)

-- where no entry covers any of the places
pub damaged_from_none : (ds : List Damage) (place n : ℕ) → ((k : ℕ) → place ≤ k → k < place + n → entry_at ds k ≡ None)
    → damaged_from ds place n ≡ 0
unfolding damaged_from
damaged_from_none ds place n h = sum_by-range_zeros (λ k. one_of (entry_at ds k)) place n (λ k l m. ap one_of (h k l m))

-- where two lists have the same entry at each of the places
pub damaged_from_same : (ds es : List Damage) (place n : ℕ)
    → ((k : ℕ) → place ≤ k → k < place + n → entry_at ds k ≡ entry_at es k)
    → damaged_from ds place n ≡ damaged_from es place n
unfolding damaged_from
damaged_from_same ds es place n h =
    sum_by-range_sums (λ k. one_of (entry_at ds k)) (λ k. one_of (entry_at es k)) (λ k. 0) place n
    (λ k l m. grind (arith, add-zero)) ∙ ap (λ z. count_by (λ k. is_some (entry_at es k)) (range_with_len place n) + z)
    (grind (arith, sum_by-range_zeros)) ∙ add-zero (count_by (λ k. is_some (entry_at es k)) (range_with_len place n))

either : (x y : Option Damage) → (y ≡ None) ⊎ (x ≡ None) → one_of (option_or x y) ≡ one_of x + one_of y
either None y h = sym (zero-add (one_of y))
either (Some x) None h = refl
either (Some x) (Some y) (inl e) = cc
either (Some x) (Some y) (inr e) = cc

-- one more entry
pub damaged_from_more : (ds : List Damage) (d : Damage) (i place n : ℕ) → AreInOrder ds → i < length ds
    → damaged_from (take (i + 1) ds) place n ≡ damaged_from (take i ds) place n + damaged_from
    (get_or ds i d ∷ []) place n
unfolding damaged_from
damaged_from_more ds d i place n o l =
    sum_by-range_sums (λ k. one_of (entry_at (take (i + 1) ds) k)) (λ k. one_of (entry_at (take i ds) k))
    (λ k. one_of (entry_at (get_or ds i d ∷ []) k)) place n (λ k a b. ap one_of (entry_at_more ds d i k l)
    ∙ either (entry_at (take i ds) k) (entry_at (get_or ds i d ∷ []) k) (one_covers ds d i k o l))

one_covers_it : (e : Damage) (k : ℕ) → covers k e ≡ true → one_of (entry_at (e ∷ []) k) ≡ 1
unfolding entry_at
one_covers_it e k t = ap one_of (cond-true (covers k e) (Some e) None t)

one_covers_none : (e : Damage) (k : ℕ) → covers k e ≡ false → one_of (entry_at (e ∷ []) k) ≡ 0
unfolding entry_at
one_covers_none e k t = ap one_of (cond-false (covers k e) (Some e) None t)

outside : (e : Damage) (place n from to a m : ℕ) → IsCovered e place (place + n) from to → place ≤ a → a + m ≤ place + n
    → (a + m ≤ from) ⊎ (to ≤ a) → damaged_from (e ∷ []) a m ≡ 0
unfolding damaged_from
outside e place n from to a m c l h side =
    grind (arith, sum_by-range_zeros, one_covers_none, leb, ltb, and_left, lt-leb, and_right, le-ltb)

inside : (e : Damage) (place n from to m : ℕ) → IsCovered e place (place + n) from to → from + m ≡ to
    → damaged_from (e ∷ []) from m ≡ m
unfolding damaged_from
inside e place n from to m c s = grind (arith, sum_by-range_ones, one_covers_it, and_from, leb, ltb, le-leb, lt-ltb)

-- one entry damages the places that it covers
pub damaged_from_one : (e : Damage) (place n from to : ℕ) → IsCovered e place (place + n) from to
    → damaged_from (e ∷ []) place n ≡ to - from
damaged_from_one e place n from to c =
    let before = from - place in
    let covered = to - from in
    let behind = place + n - to in
    let at_to : from + covered ≡ to = omega (arith, c.order) in
    let whole : before + (covered + behind) ≡ n = omega (arith, c.least, c.order, c.most) in
    let first = outside e place n from to place before c (omega arith) (omega (arith, c.order, c.most))
    (inl (omega arith)) in
    let second = inside e place n from to covered c at_to in
    let third = outside e place n from to to behind c (omega (arith, c.least, c.order)) (omega (arith, c.most))
    (inr (omega arith)) in
    ap (damaged_from (e ∷ []) place) (sym whole) ∙ damaged_from-parts (e ∷ []) place before (covered + behind)
    ∙ ap₂ (λ (x y : ℕ). x + y) first (ap (λ p. damaged_from (e ∷ []) p (covered + behind)) (omega (arith, c.least))
    ∙ damaged_from-parts (e ∷ []) from covered behind
    ∙ ap₂ (λ (x y : ℕ). x + y) second (ap (λ p. damaged_from (e ∷ []) p behind) at_to ∙ third)) ∙ omega arith
