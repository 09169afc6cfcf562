-- What the least paths of a field cost at most, where its symbols are signed bytes.
use Rattle.std.proofs.Common.{◌≡◌, ℕ, zero, suc, ℤ, pos, ◌+◌, ◌*◌, ◌<◌, ◌≤◌, ◌-ℤ◌, nat_abs, List, [], ◌∷◌, length, map}
use Rattle.std.proofs.Common.{sum, sym, ap, ◌∙◌, subst, arith}
use Rattle.std.specs.List.{range_with_len, zip, AllByRecursion}
use Rattle.std.proofs.lemmas.Int.{ints}
use Rattle.std.proofs.lemmas.List.FromFn.{length-map-range_with_len, sum_by-map-range_with_len_more}
use Rattle.std.proofs.lemmas.List.Sums.{sum_by-cons}
use Rattle.std.proofs.Math.Nat.{mul-le-mul, mul-suc}
use Rattle.dtx_slice.specs.Unrolled.{symbol_place}
use Rattle.dtx_soft.specs.Coders.{AreLeast, IsSoftened, coder_symbols, coders_distance, data_symbol}
use Rattle.dtx_soft.specs.Paths.{IsPath, distance, next_state, squared, symbol_at}
use Rattle.dtx_soft.specs.Bounds.{AreSigned}

abbrev AreWithin : ℕ → List ℤ → Type 0
AreWithin most symbols = AllByRecursion (λ x. nat_abs x ≤ most) symbols

-- the square of how far a signed byte is off a level's symbol at most
abbrev pub most_square : ℕ → ℕ
most_square scale = (128 + 7 * scale) * (128 + 7 * scale)

apart : (scale : ℕ) (x y : ℤ) → nat_abs x ≤ 128 → nat_abs y ≤ 7 * scale → nat_abs (x -ℤ y) ≤ 128 + 7 * scale
apart scale x y h k = omega (arith, ints, h, k)

squared_small : (scale : ℕ) (x y : ℤ) → nat_abs x ≤ 128 → nat_abs y ≤ 7 * scale → squared x y ≤ most_square scale
unfolding squared
squared_small scale x y h k = mul-le-mul (apart scale x y h k) (apart scale x y h k)

distance_small : (scale : ℕ) (xs ys : List ℤ) → AreWithin 128 xs → AreWithin (7 * scale) ys
    → distance xs ys ≤ most_square scale * length xs
unfolding distance
distance_small scale [] ys h k = omega arith
distance_small scale (x ∷ xs) [] h k = omega arith
distance_small scale (x ∷ xs) (y ∷ ys) h k =
    let one = squared_small scale x y h.0 k.0 in
    let rest = distance_small scale xs ys h.1 k.1 in
    let both = sum_by-cons (λ pair. squared pair.0 pair.1) (x, y) (zip xs ys) in
    let more = mul-suc (most_square scale) (length xs) in
    added (distance (x ∷ xs) (y ∷ ys)) (squared x y) (distance xs ys) (most_square scale)
    (most_square scale * length xs) (most_square scale * suc (length xs)) both one rest more
  where
    added : (all first behind most most_behind most_all : ℕ) → all ≡ first + behind → first ≤ most
        → behind ≤ most_behind → most_all ≡ most_behind + most → all ≤ most_all
    added all first behind most most_behind most_all e f g h = omega arith

within_map : (f : ℕ → ℤ) (most a n : ℕ) → ((t : ℕ) → nat_abs (f t) ≤ most) → AreWithin most (map f (range_with_len a n))
within_map f most a zero h = tt
within_map f most a (suc n) h = (h a, within_map f most (a + 1) n h)

level_small : (scale z : ℕ) → z < 8 → nat_abs (symbol_at scale z) ≤ 7 * scale
unfolding symbol_at
level_small scale z l = grind (arith, mul-le-mul, ints)

path_small : (scale state : ℕ) (levels : List ℕ) → IsPath state levels
    → AreWithin (7 * scale) (map (symbol_at scale) levels)
path_small scale state [] h = tt
path_small scale state (z ∷ levels) h = (level_small scale z h.0, path_small scale (next_state state z) levels h.2)

coder_small : (scale : ℕ) (old : List (List ℤ)) (e : ℕ) (new : List ℤ) → AreSigned old
    → AreLeast scale (coder_symbols old e) new
    → distance (coder_symbols old e) new ≤ most_square scale * (69 * length old)
unfolding coder_symbols data_symbol
coder_small scale old e new h least =
    let long = length-map-range_with_len (λ t. data_symbol old (symbol_place 0 t e)) 0 (69 * length old) in
    let most = distance_small scale (coder_symbols old e) new
    (within_map (λ t. data_symbol old (symbol_place 0 t e)) 128 0 (69 * length old) (λ t. h _ _))
    (subst (AreWithin (7 * scale)) (sym least.symbols) (path_small scale least.start least.levels least.least.path)) in
    subst (λ n. distance (coder_symbols old e) new ≤ most_square scale * n) long most

-- a sum of n numbers, each at most `most`
pub sums_small : (f : ℕ → ℕ) (most n : ℕ) → ((e : ℕ) → e < n → f e ≤ most) → sum (map f (range_with_len 0 n)) ≤ n * most
sums_small f most zero h = omega arith
sums_small f most (suc n) h =
    let next : suc n ≡ n + 1 = omega arith in
    next_sum (sum (map f (range_with_len 0 (suc n)))) (sum (map f (range_with_len 0 n))) (f n)
    (ap (λ m. sum (map f (range_with_len 0 m))) next
    ∙ sum_by-map-range_with_len_more (λ x. x) f 0 n n (omega arith))
    (sums_small f most n (λ e l. h e (omega arith))) (h n (omega arith))
  where
    next_sum : (all front last : ℕ) → all ≡ front + last → front ≤ n * most → last ≤ most → all ≤ suc n * most
    next_sum all front last e a b = grind arith

-- the costs of all twelve coders
pub scaled_costs_small : (scale : ℕ) (old new : List (List ℤ)) → AreSigned old → IsSoftened scale old new
    → coders_distance old new 12 ≤ 12 * (most_square scale * (69 * length old))
unfolding coders_distance
scaled_costs_small scale old new h soft =
    sums_small (λ e. distance (coder_symbols old e) (coder_symbols new e)) (most_square scale * (69 * length old)) 12
    (λ e l. coder_small scale old e (coder_symbols new e) h (soft.coders e l))
