-- Lemmas of what `soft` makes, one segment after another.
use Rattle.std.proofs.Common.{◌≡◌, ℕ, ℤ, zero, suc, ◌+◌, ◌-◌, ◌<◌, ◌≤◌, Option, Some, None, List, [], ◌∷◌, ◌++◌, length}
use Rattle.std.proofs.Common.{map, sum, take, drop, refl, sym, ap, ap₂, ◌∙◌, arith}
use Rattle.std.specs.List.{range_with_len}
use Rattle.std.proofs.lemmas.List.{length-drop, map-append}
use Rattle.std.proofs.lemmas.List.Sums.{sum_by-append, sum_by-cons}
use Rattle.dtx_lists.proofs.Range.{map-range_same, range_with_len-parts}
use Rattle.dtx_soft.specs.Coders.{coder_symbols}
use Rattle.dtx_soft.specs.Paths.{cost, distance}
use Rattle.dtx_soft.specs.Softened.{least_cost, softened_cost}
use Rattle.dtx_recipes.specs.Soft.{count_from, field_sum, flushed, groups_in, next_place, pending, place_at, ahead}
use Rattle.dtx_recipes.specs.Soft.{soft_rest, soft_so_far, soft_symbols}
use Rattle.dtx_recipes.proofs.SoftPlacesLemmas.{IsFollowed, before_push, at_push, follows, place_small}
use Rattle.dtx_recipes.proofs.SoftLemmas.{part_stays, IsField, groups_are, length-groups, field_soft, followed_field}
use Rattle.dtx_recipes.proofs.SoftLemmas.{ahead_copied, ahead_kept, ahead_full, full_field, full_rows}

-- ---- the pieces

pending_few : (s : List (List ℤ)) → pending s ≤ 312
pending_few s = grind (arith, place_small)

pub rest_is : (s : List (List ℤ)) → soft_rest s ≡ flushed (drop (ahead s) s)
unfolding soft_rest
rest_is s = field_soft s (ahead s) (pending s) (followed_field s (pending s) (follows s) (pending_few s))

pub all_is : (s : List (List ℤ)) → soft_so_far s ++ soft_rest s ≡ soft_symbols s
unfolding soft_so_far soft_rest soft_symbols
all_is s = grind (arith, follows, range_with_len-parts, map-append)

-- ---- numbers

pub none_counts : (f : ℕ → ℕ) (a n : ℕ) → ((i : ℕ) → a ≤ i → i < a + n → f i ≡ 0) → sum (map f (range_with_len a n)) ≡ 0
none_counts f a zero h = refl
none_counts f a (suc n) h =
    let first = h a (omega arith) (omega arith) in
    let rest = none_counts f (a + 1) n (λ i l m. h i (omega arith) (omega arith)) in
    (sum_by-cons (λ x. x) (f a) (map f (range_with_len (a + 1) n))) ∙ ap₂ (λ x y. x + y) first rest

module _ (count : List (List ℤ) → ℕ) where
  abbrev count_at : List (List ℤ) → ℕ → ℕ
  count_at s i = count_from count s i (place_at s i)

  count_stays : (s t : List (List ℤ)) (n i : ℕ) → IsFollowed s n → i < length s - n
      → count_at (s ++ t) i ≡ count_at s i
  count_stays s t n i h l =
      ap (count_from count (s ++ t) i) (before_push s t i (omega arith)) ∙ by_place (next_place (take i s)) refl
    where
      by_place : (o : Option ℕ) → next_place (take i s) ≡ o → count_from count (s ++ t) i o ≡ count_from count s i o
      by_place None e = refl
      by_place (Some zero) e = (let c = h.closed i 0 l e in ap count (part_stays s t i (omega (arith, c.1))))
      by_place (Some (suc p)) e = refl

  field_sum_stays : (s t : List (List ℤ)) (n : ℕ) → IsFollowed s n
      → field_sum count (s ++ t) (length s - n) ≡ field_sum count s (length s - n)
  unfolding field_sum
  field_sum_stays s t n h =
      ap sum
      (map-range_same (count_at (s ++ t)) (count_at s) 0 (length s - n) (λ i a b. count_stays s t n i h (omega arith)))

  -- those of a field
  field_counts : (s : List (List ℤ)) (first n : ℕ) → IsField s first n → count [] ≡ 0
      → sum (map (count_at s) (range_with_len first n)) ≡ count (groups_in (drop first s))
  field_counts s first zero h none =
      sym (ap count (empty (groups_in (drop first s))
      (omega (arith, length-groups (drop first s), length-drop first s, h.long))) ∙ none)
    where
      empty : (xs : List (List ℤ)) → length xs ≡ 0 → xs ≡ []
      empty [] e = refl
      empty (x ∷ xs) e = absurd (omega arith)
  field_counts s first (suc n) h none =
      let same : first + 0 ≡ first = omega arith in
      let here : count_at s first ≡ count (groups_in (drop first s)) =
      cc (same, h.places 0 (omega arith), groups_are s first (suc n) h) in
      omega (
        arith,
        sum_by-cons (λ x. x) (count_at s first) (map (count_at s) (range_with_len (first + 1) n)),
        here,
        none_counts (count_at s) (first + 1) n (λ i l m. behind i (i - first - 1) (omega arith) (omega arith)),
      )
    where
      behind : (i j : ℕ) → first + suc j ≡ i → suc j < suc n → count_at s i ≡ 0
      behind i j e l = cc (e, h.places (suc j) l)

  field_sum_more : (s : List (List ℤ)) (m n : ℕ)
      → field_sum count s (m + n) ≡ field_sum count s m + sum (map (count_at s) (range_with_len m n))
  unfolding field_sum
  field_sum_more s m n =
      let on : 0 + m ≡ m = omega arith in
      ap (λ r. sum (map (count_at s) r)) (range_with_len-parts 0 m n)
      ∙ ap sum (map-append (count_at s) (range_with_len 0 m) (range_with_len (0 + m) n))
      ∙ sum_by-append (λ x. x) (map (count_at s) (range_with_len 0 m))
      (map (count_at s) (range_with_len (0 + m) n))
      ∙ ap (λ k. sum (map (count_at s) (range_with_len 0 m))
      + sum (map (count_at s) (range_with_len k n))) on

  pub count_copied : (s : List (List ℤ)) (x : List ℤ) → next_place s ≡ None
      → field_sum count (s ++ x ∷ []) (ahead (s ++ x ∷ [])) ≡ field_sum count s (ahead s)
  count_copied s x e =
      let h = ahead_copied s x e in
      omega (
        arith,
        ap (field_sum count (s ++ x ∷ [])) h.all,
        field_sum_more (s ++ x ∷ []) (length s - 0) 1,
        field_sum_stays s (x ∷ []) 0 h.followed,
        ap (field_sum count s) h.own,
        none_counts (count_at (s ++ x ∷ [])) (length s - 0) 1
            (λ i a b. ap (count_from count (s ++ x ∷ []) i) (at_push s x i (omega arith) ∙ e)),
      )

  pub count_kept : (s : List (List ℤ)) (x : List ℤ) (p : ℕ) → next_place s ≡ Some p → p + 1 < 312
      → field_sum count (s ++ x ∷ []) (ahead (s ++ x ∷ [])) ≡ field_sum count s (ahead s)
  count_kept s x p e l =
      let h = ahead_kept s x p e l in
      let all : ahead (s ++ x ∷ []) ≡ length s - p = omega (arith, h.all) in
      cc (all, field_sum_stays s (x ∷ []) p h.followed, h.own)

  pub count_full : (s : List (List ℤ)) (x : List ℤ) → next_place s ≡ Some 311 → count [] ≡ 0
      → field_sum count (s ++ x ∷ []) (ahead (s ++ x ∷ []))
      ≡ field_sum count s (ahead s) + count (groups_in (drop (ahead s) s ++ x ∷ []))
  count_full s x e none =
      let h = ahead_full s x e in
      cc (
        field_sum_more (s ++ x ∷ []) (length s - 311) 312,
        field_sum_stays s (x ∷ []) 311 h.followed,
        field_counts (s ++ x ∷ []) (length s - 311) 312 (full_field s x e h.followed) none,
        full_rows s x h,
      )

  pub count_rest : (s : List (List ℤ)) → count [] ≡ 0
      → field_sum count s (length s) ≡ field_sum count s (ahead s) + count (groups_in (drop (ahead s) s))
  count_rest s none =
      let f = follows s in
      let parts : ahead s + pending s ≡ length s = omega (arith, f.within) in
      cc (
        field_sum_more s (ahead s) (pending s),
        field_counts s (ahead s) (pending s) (followed_field s (pending s) f (pending_few s)) none,
      )

  pub field_sum_none : field_sum count [] (ahead []) ≡ 0
  unfolding field_sum
  field_sum_none =
      let none : ahead [] ≡ 0 = omega arith in
      ap (λ n. sum (map (count_at []) (range_with_len 0 n))) none

-- no segments cost nothing
pub no_cost : softened_cost 1 [] ≡ 0
unfolding softened_cost least_cost cost coder_symbols distance
no_cost = refl
