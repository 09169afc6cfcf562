-- Pieces of a list that is two others, one behind the other.
use Rattle.std.proofs.Common.{◌≡◌, ℕ, ◌+◌, ◌≤◌, List, ◌++◌, length, take, drop, ap, arith}
use Rattle.std.proofs.lemmas.List.{drop-append-le, take-append-le, drop-drop, drop_at, length-drop}

-- a piece of the first one
pub piece-front : {A : Type 0} (xs ys : List A) (a n : ℕ) → a + n ≤ length xs
    → take n (drop a (xs ++ ys)) ≡ take n (drop a xs)
piece-front xs ys a n l = grind (arith, drop-append-le, take-append-le, length-drop)

-- a piece of the second one
pub piece-back : {A : Type 0} (xs ys : List A) (m a n : ℕ) → length xs ≡ m
    → take n (drop (m + a) (xs ++ ys)) ≡ take n (drop a ys)
piece-back xs ys m a n e = ap (λ zs. take n zs) (rw (← drop-drop a m (xs ++ ys), drop_at xs ys m e))
