-- The least of two sums, in one lane of a vector.
use Rattle.std.proofs.Common.{◌≡◌, ℕ, ◌+◌, ◌%◌, ◌<◌, ◌≤◌, cond, nat_lt, min, List, ◌++◌, length, get_or, arith}
use Rattle.std.proofs.lemmas.Bool.{ltb-true, ltb-false}
use Rattle.std.proofs.lemmas.List.{get_or_append_left}
use lib.Lanes.{top}

lane_min : (x y : ℕ) → cond (top 31 (cond (nat_lt x y) 4294967295 0)) x y ≡ min x y
lane_min x y = grind (arith, ltb-true, ltb-false)

-- four costs, and costs that are added to them
pub record AreSmall (xs ys : List ℕ) : Type 0 where
  pub xs_long : length xs ≡ 4
  pub ys_long : length ys ≡ 4
  pub xs_small : (k : ℕ) → k < 4 → get_or xs k 0 ≤ 64516
  pub ys_small : (k : ℕ) → k < 4 → get_or ys k 0 ≤ 1388900448

sum_lane : (xs ys : List ℕ) (i j : ℕ) → AreSmall xs ys → i < 4 → j < 4
    → (get_or (xs ++ xs) i 0 + get_or (ys ++ ys) j 0) % 4294967296 ≡ get_or xs i 0 + get_or ys j 0
sum_lane xs ys i j h l m = grind (arith, get_or_append_left)

pub least_lane : (xs ys : List ℕ) (i j k l : ℕ) → AreSmall xs ys → i < 4 → j < 4 → k < 4 → l < 4
    → cond (top 31 (cond (nat_lt ((get_or (xs ++ xs) i 0 + get_or (ys ++ ys) j 0) % 4294967296)
    ((get_or (xs ++ xs) k 0 + get_or (ys ++ ys) l 0) % 4294967296)) 4294967295 0))
    ((get_or (xs ++ xs) i 0 + get_or (ys ++ ys) j 0) % 4294967296)
    ((get_or (xs ++ xs) k 0 + get_or (ys ++ ys) l 0) % 4294967296)
    ≡ min (get_or xs i 0 + get_or ys j 0) (get_or xs k 0 + get_or ys l 0)
least_lane xs ys i j k l h a b c d = grind (arith, lane_min, sum_lane)
