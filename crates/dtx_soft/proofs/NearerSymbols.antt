-- The symbol of the nearer of two levels is that on the symbol's side of the limit in their midst.
use Rattle.std.proofs.Common.{◌≡◌, ℕ, ℤ, pos, zero, suc, ◌+◌, ◌*◌, ◌<◌, ◌≤◌, ◌+ℤ◌, ◌-ℤ◌, ◌≤ℤ◌, nat_abs, Bool, true}
use Rattle.std.proofs.Common.{false, cond, nat_le, refl, sym, ◌∙◌, get_or, arith}
use Rattle.std.specs.Prelude.{int_lt, ◌<ℤ◌}
use Rattle.std.proofs.lemmas.Bool.{cases_lt}
use Rattle.std.proofs.lemmas.Bool.Decides.{nat_tests}
use Rattle.std.proofs.lemmas.Int.{ints}
use Rattle.std.proofs.Math.Nat.{mul-le-mul_left}
use Rattle.dtx_soft.specs.Gaps.{nearer_level, row_of}
use Rattle.dtx_soft.specs.Paths.{squared, symbol_at}
use Rattle.dtx_soft.specs.Trace.{limit_of, nearer_symbol}

-- numbers are in the order of their squares
root_at_most : (a b : ℕ) → a * a ≤ b * b → a ≤ b
root_at_most a b l = grind (arith, cases_lt, mul-le-mul_left)

root_below : (a b : ℕ) → a * a < b * b → a < b
root_below a b l = grind (arith, cases_lt, mul-le-mul_left)

at_most : (a b : ℕ) → nat_le a b ≡ true → a ≤ b
at_most a b e = grind (arith, nat_tests)

above : (a b : ℕ) → nat_le a b ≡ false → b < a
above a b e = grind (arith, nat_tests)

less : (x y : ℤ) → int_lt x y ≡ true → x <ℤ y
less x y e = grind (arith, ints)

not_less : (x y : ℤ) → int_lt x y ≡ false → y ≤ℤ x
not_less x y e = grind (arith, ints)

-- two symbols that are so far off the limit, and on which side of it and how near another one stands
by_limit : (far : ℕ) (v limit low high : ℤ) (t u : Bool) → low ≡ limit -ℤ pos far → high ≡ limit +ℤ pos far
    → int_lt limit v ≡ t → nat_le (squared v low) (squared v high) ≡ u
    → cond t (limit +ℤ pos far) (limit -ℤ pos far) ≡ cond u low high
unfolding squared
by_limit far v limit low high true false e f g h = sym f
by_limit far v limit low high false true e f g h = sym e
by_limit far v limit low high true true e f g h = grind (arith, root_at_most, at_most, less, ints)
by_limit far v limit low high false false e f g h =
    let k : nat_abs (v -ℤ high) < nat_abs (v -ℤ low) = root_below _ _ (above _ _ h) in
    let m : v ≤ℤ limit = not_less limit v g in
    absurd (omega (arith, ints))

level_is : (u : Bool) (scale z : ℕ)
    → cond u (symbol_at scale z) (symbol_at scale (z + 4)) ≡ symbol_at scale (cond u z (z + 4))
level_is true scale z = refl
level_is false scale z = refl

nearer_by : (scale z : ℕ) (v limit : ℤ) → symbol_at scale z ≡ limit -ℤ pos (4 * scale)
    → symbol_at scale (z + 4) ≡ limit +ℤ pos (4 * scale)
    → cond (int_lt limit v) (limit +ℤ pos (4 * scale)) (limit -ℤ pos (4 * scale))
    ≡ symbol_at scale (nearer_level scale v z)
nearer_by scale z v limit e f =
    by_limit (4 * scale) v limit (symbol_at scale z) (symbol_at scale (z + 4)) (int_lt limit v) _ e f refl refl
    ∙ level_is (nat_le (squared v (symbol_at scale z)) (squared v (symbol_at scale (z + 4)))) scale z

-- the limits are in the midst of the levels' symbols
first_low : (scale : ℕ) → symbol_at scale 0 ≡ limit_of scale 0 0 -ℤ pos (4 * scale)
unfolding symbol_at
first_low scale = omega (arith, ints)

first_high : (scale : ℕ) → symbol_at scale 4 ≡ limit_of scale 0 0 +ℤ pos (4 * scale)
unfolding symbol_at
first_high scale = omega (arith, ints)

second_low : (scale : ℕ) → symbol_at scale 1 ≡ limit_of scale 1 0 -ℤ pos (4 * scale)
unfolding symbol_at
second_low scale = omega (arith, ints)

second_high : (scale : ℕ) → symbol_at scale 5 ≡ limit_of scale 1 0 +ℤ pos (4 * scale)
unfolding symbol_at
second_high scale = omega (arith, ints)

third_low : (scale : ℕ) → symbol_at scale 2 ≡ limit_of scale 0 1 -ℤ pos (4 * scale)
unfolding symbol_at
third_low scale = omega (arith, ints)

third_high : (scale : ℕ) → symbol_at scale 6 ≡ limit_of scale 0 1 +ℤ pos (4 * scale)
unfolding symbol_at
third_high scale = omega (arith, ints)

fourth_low : (scale : ℕ) → symbol_at scale 3 ≡ limit_of scale 1 1 -ℤ pos (4 * scale)
unfolding symbol_at
fourth_low scale = omega (arith, ints)

fourth_high : (scale : ℕ) → symbol_at scale 7 ≡ limit_of scale 1 1 +ℤ pos (4 * scale)
unfolding symbol_at
fourth_high scale = omega (arith, ints)

-- the nearer symbol is that of the row's level
pub nearer_is_symbol : (scale : ℕ) (symbol : ℤ) (q1 pair : ℕ) → q1 < 2 → pair < 2
    → nearer_symbol scale symbol q1 pair ≡ symbol_at scale (get_or (row_of scale symbol).levels (q1 + 2 * pair) 0)
unfolding row_of
nearer_is_symbol scale v zero zero k m = nearer_by scale 0 v (limit_of scale 0 0) (first_low scale) (first_high scale)
nearer_is_symbol scale v (suc zero) zero k m = grind (arith, nearer_by, second_low, second_high)
nearer_is_symbol scale v zero (suc zero) k m =
    nearer_by scale 2 v (limit_of scale 0 1) (third_low scale) (third_high scale)
nearer_is_symbol scale v (suc zero) (suc zero) k m =
    nearer_by scale 3 v (limit_of scale 1 1) (fourth_low scale) (fourth_high scale)
nearer_is_symbol scale v zero (suc (suc pair)) k m = absurd (omega arith)
nearer_is_symbol scale v (suc zero) (suc (suc pair)) k m = absurd (omega arith)
nearer_is_symbol scale v (suc (suc q1)) pair k m = absurd (omega arith)
