-- How far the symbols of segments are moved: the sum over the coders is that over the segments.
use Rattle.std.proofs.Common.{◌≡◌, ℕ, ℤ, zero, suc, pos, ◌+◌, ◌-◌, ◌*◌, ◌<◌, List, [], ◌∷◌, length, map, get_or, refl}
use Rattle.std.proofs.Common.{sym, ap, ap₂, ◌∙◌, arith}
use Rattle.std.specs.List.{range_with_len, zip}
use Rattle.std.proofs.lemmas.Int.{ints}
use Rattle.std.proofs.lemmas.List.FromFn.{fill_by_all}
use Rattle.std.proofs.lemmas.List.Sums.{sum_by-cons}
use Rattle.dtx_slice.specs.Unrolled.{symbol_place}
use Rattle.dtx_soft.specs.Coders.{IsSoftened, coder_symbols, coders_distance, data_symbol, segments_distance}
use Rattle.dtx_soft.specs.Paths.{cost, distance, squared, symbol_at}
use Rattle.dtx_soft.proofs.SumsLemmas.{none_first, over, over_blocks, over_moved, over_none, over_parts, over_same}
use Rattle.dtx_soft.proofs.SumsLemmas.{over_swap}

pub distance-cons : (x y : ℤ) (xs ys : List ℤ) → distance (x ∷ xs) (y ∷ ys) ≡ squared x y + distance xs ys
unfolding distance
distance-cons x y xs ys = sum_by-cons (λ pair. squared pair.0 pair.1) (x, y) (zip xs ys)

pub cost-cons : (scale : ℕ) (v : ℤ) (symbols : List ℤ) (z : ℕ) (levels : List ℕ)
    → cost scale (v ∷ symbols) (z ∷ levels) ≡ squared v (symbol_at scale z) + cost scale symbols levels
unfolding cost
cost-cons scale v symbols z levels = distance-cons v (symbol_at scale z) symbols (map (symbol_at scale) levels)

pub nothing_costs : (scale : ℕ) (others : List ℕ) → cost scale [] others ≡ 0
unfolding cost distance
nothing_costs scale others = refl

pub squared_same : (x : ℤ) → squared x x ≡ 0
unfolding squared
squared_same x = grind (arith, ints)

pub distance_same : (xs : List ℤ) → distance xs xs ≡ 0
unfolding distance
distance_same [] = refl
distance_same (x ∷ xs) = distance-cons x x xs xs ∙ ap₂ (λ a b. a + b) (squared_same x) (distance_same xs)

-- lists that are made over a range
distance_made : (f g : ℕ → ℤ) (a n : ℕ)
    → distance (map f (range_with_len a n)) (map g (range_with_len a n)) ≡ over (λ t. squared (f t) (g t)) a n
unfolding distance
distance_made f g a zero = refl
distance_made f g a (suc n) =
    distance-cons (f a) (g a) (map f (range_with_len (a + 1) n)) (map g (range_with_len (a + 1) n))
    ∙ ap (λ k. squared (f a) (g a) + k) (distance_made f g (a + 1) n)
    ∙ sym (sum_by-cons (λ x. x) (squared (f a) (g a)) (map (λ t. squared (f t) (g t)) (range_with_len (a + 1) n)))

-- how far data symbol d is moved
abbrev moved : List (List ℤ) → List (List ℤ) → ℕ → ℕ
moved old new d = squared (data_symbol old d) (data_symbol new d)

coder_moved : (old new : List (List ℤ)) (e : ℕ) → length new ≡ length old
    → distance (coder_symbols old e) (coder_symbols new e)
    ≡ over (λ t. moved old new (symbol_place 0 t e)) 0 (69 * length old)
unfolding coder_symbols
coder_moved old new e long = grind (arith, distance_made)

-- the twelve symbols of a round, in whichever order the coders have
round_moved : (q : ℕ → ℕ) (t : ℕ) → over (λ e. q (symbol_place 0 t e)) 0 12 ≡ over (λ j. q (12 * t + j)) 0 12
unfolding symbol_place
round_moved q t = grind (arith, over)

-- the symbols of a segment
row_moved : (old new : List (List ℤ)) (i : ℕ) → length (get_or old i []) ≡ 832 → length (get_or new i []) ≡ 832
    → ((k : ℕ) → k < 4 → get_or (get_or new i []) k (pos 0) ≡ get_or (get_or old i []) k (pos 0))
    → over (λ k. moved old new (828 * i + k)) 0 828 ≡ distance (get_or old i []) (get_or new i [])
unfolding data_symbol
row_moved old new i long after sync =
    let x : List ℤ = get_or old i [] in
    let y : List ℤ = get_or new i [] in
    let f : ℕ → ℕ = λ k. squared (get_or x k (pos 0)) (get_or y k (pos 0)) in
    let front : over f 0 4 ≡ 0 = over_none f 0 4 (λ k a b. ap (squared (get_or x k (pos 0))) (sync k (omega arith))
    ∙ squared_same (get_or x k (pos 0))) in
    over_moved (λ k. moved old new (828 * i + k)) f 0 (0 + 4) 828 (λ k l. grind arith)
    ∙ sym (none_first (over f (0 + 4) 828)) ∙ ap (λ n. n + over f (0 + 4) 828) (sym front) ∙ sym (over_parts f 0 4 828)
    ∙ sym (distance_made (λ k. get_or x k (pos 0)) (λ k. get_or y k (pos 0)) 0 832)
    ∙ ap₂ distance (sym (fill_by_all (λ k. get_or x k (pos 0)) x 832 (pos 0) long (λ k l. refl)))
    (sym (fill_by_all (λ k. get_or y k (pos 0)) y 832 (pos 0) after (λ k l. refl)))

-- of segments of 832 symbols that were softened
pub distance_is : (scale : ℕ) (old new : List (List ℤ)) → IsSoftened scale old new
    → ((i : ℕ) → i < length old → length (get_or old i []) ≡ 832)
    → ((i : ℕ) → i < length new → length (get_or new i []) ≡ 832)
    → coders_distance old new 12 ≡ segments_distance old new
unfolding coders_distance segments_distance
distance_is scale old new h long after =
    let q : ℕ → ℕ = moved old new in
    let twelve : 12 * (69 * length old) ≡ 828 * length old = omega arith in
    over_same (λ e. distance (coder_symbols old e) (coder_symbols new e))
    (λ e. over (λ t. q (symbol_place 0 t e)) 0 (69 * length old)) 0 12 (λ e a b. coder_moved old new e h.long)
    ∙ over_swap (λ t e. q (symbol_place 0 t e)) 12 (69 * length old)
    ∙ over_same (λ t. over (λ e. q (symbol_place 0 t e)) 0 12) (λ t. over (λ j. q (12 * t + j)) 0 12) 0
    (69 * length old) (λ t a b. round_moved q t)
    ∙ over_blocks q 12 (69 * length old) ∙ ap (over q 0) twelve ∙ sym (over_blocks q 828 (length old))
    ∙ over_same (λ i. over (λ k. q (828 * i + k)) 0 828) (λ i. distance (get_or old i []) (get_or new i [])) 0
    (length old) (λ i a b. row_moved old new i (long i (omega arith)) (after i (omega (arith, h.long)))
    (λ k l. h.syncs i k l))
