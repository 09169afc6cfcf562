-- Sums over the first symbols of a sync, one more at a time.
use Rattle.std.proofs.Common.{◌≡◌, ℕ, ℤ, ◌+◌, ◌+ℤ◌, Bool, List, [], ◌∷◌, ◌++◌, map, ap, ◌∙◌, arith}
use Rattle.std.specs.List.{range_with_len}
use Rattle.std.proofs.lemmas.Int.{ints}
use Rattle.std.proofs.lemmas.List.FromFn.{map-range_with_len_more, sum_by-map-range_with_len_more}
use Rattle.dtx_level.specs.Shown.{counted_at, sum_where, total}
use Rattle.dtx_level.specs.Measures.{noise, square_at}

zero_add : (n : ℕ) → 0 + n ≡ n
zero_add n = omega arith

total_more : (xs : List ℤ) (x : ℤ) → total (xs ++ x ∷ []) ≡ total xs +ℤ x
total_more [] x = omega (arith, ints)
total_more (y ∷ xs) x = ap (λ s. y +ℤ s) (total_more xs x) ∙ turned y (total xs) x
  where
    turned : (a b c : ℤ) → a +ℤ (b +ℤ c) ≡ a +ℤ b +ℤ c
    turned a b c = omega (arith, ints)

pub sum_more : (plus : Bool) (symbols : List ℤ) (place i : ℕ)
    → sum_where plus symbols place (i + 1) ≡ sum_where plus symbols place i +ℤ counted_at plus symbols place i
unfolding sum_where
sum_more plus symbols place i = ap total (map-range_with_len_more (counted_at plus symbols place) 0 i i (zero_add i))
    ∙ total_more (map (counted_at plus symbols place) (range_with_len 0 i)) (counted_at plus symbols place i)

pub noise_more : (segment : List ℤ) (i : ℕ) → noise segment (i + 1) ≡ noise segment i + square_at segment i
unfolding noise
noise_more segment i = sum_by-map-range_with_len_more (λ x. x) (square_at segment) 0 i i (zero_add i)
