-- Groups that hold placeholders.
use Rattle.std.proofs.Common.{◌≡◌, ℕ, zero, suc, ◌+◌, ◌-◌, ◌*◌, ◌/◌, ◌<◌, ◌≤◌, Bool, true, false, ◌||◌, cond, List, []}
use Rattle.std.proofs.Common.{◌∷◌, ◌++◌, length, map, take, drop, refl, sym, ap, ap₂, ◌∙◌, arith, slice_range}
use Rattle.std.proofs.Common.{length-append, length-drop, take_all, map-id}
use Rattle.std.specs.List.{filter, list_any, range_with_len}
use Rattle.std.proofs.Math.Bool.{or-false}
use Rattle.std.proofs.lemmas.List.{take-append-le, drop_all, drop-append-le, take-map, drop-map}
use Rattle.std.proofs.lemmas.List.Folds.{list_any-append}
use Rattle.std.proofs.lemmas.List.FromFn.{filter_of_map_range_with_len_more}
use Rattle.dtx_adapter.specs.Feed.{is_placeholder, is_filled, filled_groups}

-- ---- one group

-- the packets of group u
abbrev four : List (List ℕ) → ℕ → List (List ℕ)
four stream u = slice_range stream (4 * u) (4 * u + 4)

four-more : (stream more : List (List ℕ)) (u : ℕ) → 4 * u + 4 ≤ length stream → four (stream ++ more) u ≡ four stream u
four-more stream more u h = grind (arith, drop-append-le, take-append-le, length-drop)

four-begun : (stream : List (List ℕ)) (u : ℕ) → length stream ≤ 4 * u + 4 → four stream u ≡ drop (4 * u) stream
four-begun stream u h = take_all (4 * u + 4 - 4 * u) (drop (4 * u) stream) (omega (arith, length-drop (4 * u) stream))

-- whole groups stay what they are
pub is_filled-more : (stream more : List (List ℕ)) (u : ℕ) → 4 * u + 4 ≤ length stream
    → is_filled (stream ++ more) u ≡ is_filled stream u
unfolding is_filled
is_filled-more stream more u h = ap (list_any is_placeholder) (four-more stream more u h)

-- a group that has not begun holds nothing
pub is_filled-none : (stream : List (List ℕ)) (u : ℕ) → length stream ≤ 4 * u → is_filled stream u ≡ false
unfolding is_filled
is_filled-none stream u h = ap (list_any is_placeholder) (four-begun stream u (omega arith) ∙ drop_all (4 * u) stream h)

-- one packet more of the group at hand
pub is_filled-next : (stream : List (List ℕ)) (p : List ℕ) (u : ℕ) → 4 * u ≤ length stream
    → length stream < 4 * u + 4 → is_filled (stream ++ p ∷ []) u ≡ (is_filled stream u || is_placeholder p)
unfolding is_filled
is_filled-next stream p u from to = grind (arith, four-begun, length-append, drop-append-le, list_any-append, or-false)

-- ---- the groups before a group

one_group : (b : Bool) (u : ℕ) → length (cond b (u ∷ []) []) ≡ cond b 1 0
one_group true u = refl
one_group false u = refl

-- one group more
pub filled_groups-next : (stream : List (List ℕ)) (u : ℕ)
    → filled_groups stream (u + 1) ≡ filled_groups stream u + cond (is_filled stream u) 1 0
unfolding filled_groups
filled_groups-next stream u =
    let test = is_filled stream in
    ap (λ us. length (filter test us)) (sym (map-id (range_with_len 0 (u + 1))))
    ∙ ap length (filter_of_map_range_with_len_more test (λ k. k) 0 u u (omega arith))
    ∙ length-append (filter test (map (λ k. k) (range_with_len 0 u))) (cond (test u) (u ∷ []) [])
    ∙ ap₂ (λ us n. length (filter test us) + n) (map-id (range_with_len 0 u)) (one_group (test u) u)

pub filled_groups-suc : (stream : List (List ℕ)) (u : ℕ)
    → filled_groups stream (suc u) ≡ filled_groups stream u + cond (is_filled stream u) 1 0
filled_groups-suc stream u = ap (filled_groups stream) (omega arith) ∙ filled_groups-next stream u

pub filled_groups-none : (stream : List (List ℕ)) → filled_groups stream 0 ≡ 0
unfolding filled_groups
filled_groups-none stream = refl

-- where groups hold placeholders in two streams alike, as many do
pub filled_groups-same : (stream other : List (List ℕ)) (n : ℕ)
    → ((u : ℕ) → u < n → is_filled stream u ≡ is_filled other u) → filled_groups stream n ≡ filled_groups other n
filled_groups-same stream other zero same = filled_groups-none stream ∙ sym (filled_groups-none other)
filled_groups-same stream other (suc u) same = filled_groups-suc stream u
    ∙ ap₂ (λ n b. n + cond b 1 0) (filled_groups-same stream other u (λ k l. same k (omega arith)))
    (same u (omega arith))
    ∙ sym (filled_groups-suc other u)

-- packets that come later change nothing
pub filled_groups-more : (stream more : List (List ℕ)) (u : ℕ) → 4 * u ≤ length stream
    → filled_groups (stream ++ more) u ≡ filled_groups stream u
filled_groups-more stream more u h = grind (arith, filled_groups-same, is_filled-more)

-- ---- the group at hand

-- whether the group before the next one, if there is one, holds one
pub filled_groups-turn : (stream : List (List ℕ)) (u : ℕ) → length stream ≡ 4 * u
    → filled_groups stream u ≡ filled_groups stream ((length stream - 1) / 4)
    + cond (is_filled stream ((length stream - 1) / 4)) 1 0
filled_groups-turn stream zero h = grind (arith, is_filled-none, filled_groups-none)
filled_groups-turn stream (suc u) h = grind (arith, filled_groups-suc)

-- ---- streams whose placeholders stand alike

list_any-map : {X : Type 0} (test : X → Bool) (xs : List X) → list_any test xs ≡ list_any (λ b. b) (map test xs)
list_any-map test [] = refl
list_any-map test (x ∷ xs) = ap (λ b. test x || b) (list_any-map test xs)

is_filled-tests : (stream : List (List ℕ)) (u : ℕ) → is_filled stream u
    ≡ list_any (λ b. b) (take (4 * u + 4 - 4 * u) (drop (4 * u) (map is_placeholder stream)))
unfolding is_filled
is_filled-tests stream u = grind (arith, list_any-map, take-map, drop-map)

pub is_filled-same : (stream other : List (List ℕ)) (u : ℕ)
    → map is_placeholder stream ≡ map is_placeholder other → is_filled stream u ≡ is_filled other u
is_filled-same stream other u same = grind (arith, is_filled-tests)
