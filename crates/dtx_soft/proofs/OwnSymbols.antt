-- Symbols that are those of a path's levels.
use Rattle.std.proofs.Common.{◌≡◌, ℕ, zero, suc, ℤ, ◌*◌, ◌<◌, ◌-ℤ◌, nat_abs, List, [], ◌∷◌, length, map, refl, sym, ap₂}
use Rattle.std.proofs.Common.{arith}
use Rattle.std.proofs.lemmas.Int.{ints}
use Rattle.std.proofs.lemmas.List.{length-map}
use Rattle.dtx_soft.specs.Paths.{IsPath, cost, distance, squared, symbol_at}
use Rattle.dtx_soft.specs.Least.{IsLeast}
use Rattle.dtx_soft.proofs.MovedLemmas.{distance-cons, distance_same}

same_squared : (x y : ℤ) → squared x y ≡ 0 → x ≡ y
unfolding squared
same_squared x y h = close (nat_abs (x -ℤ y)) refl h
  where
    close : (n : ℕ) → nat_abs (x -ℤ y) ≡ n → n * n ≡ 0 → x ≡ y
    close zero e h = omega (arith, ints, e)
    close (suc n) e h = absurd (omega (arith, h))

pub same_distance : (xs ys : List ℤ) → length ys ≡ length xs → distance xs ys ≡ 0 → ys ≡ xs
same_distance [] [] n h = refl
same_distance [] (y ∷ ys) n h = absurd (omega arith)
same_distance (x ∷ xs) [] n h = absurd (omega arith)
same_distance (x ∷ xs) (y ∷ ys) n h =
    let e = distance-cons x y xs ys in
    ap₂ ◌∷◌ (sym (same_squared x y (omega (arith, e, h)))) (same_distance xs ys (omega arith) (omega (arith, e, h)))

pub own_symbols : (scale start found : ℕ) (levels others : List ℕ) → start < 4 → IsPath start levels
    → IsLeast scale (map (symbol_at scale) levels) found others → (cost scale (map (symbol_at scale) levels) others ≡ 0)
    × (map (symbol_at scale) others ≡ map (symbol_at scale) levels)
unfolding cost
own_symbols scale start found levels others l path h = grind (arith, same_distance, length-map, distance_same)
