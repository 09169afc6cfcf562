-- The squares of a symbol's row have the gaps that the formulas say.
use Rattle.std.proofs.Common.{◌≡◌, ℕ, ℤ, pos, ◌+◌, ◌*◌, ◌/◌, ◌%◌, ◌<◌, ◌≤◌, ◌+ℤ◌, ◌-ℤ◌, ◌≤ℤ◌, nat_abs, Bool, true}
use Rattle.std.proofs.Common.{false}
use Rattle.std.proofs.Common.{◌&&◌, nat_eq, nat_le, nat_lt, cond, zero, suc, [], ◌∷◌, refl, sym, subst, get_or, arith}
use Rattle.std.specs.Ordering.{int_eq}
use Rattle.std.proofs.lemmas.Int.{ints}
use Rattle.std.proofs.lemmas.Bool.Decides.{nat_tests, Decides-int_eq, Decides-eqb}
use Rattle.dtx_lists.proofs.Below.{at_below}
use Rattle.dtx_soft.specs.Gaps.{AreGaps, nearer_level, nearer_square, row_of, tie_of, unit}
use Rattle.dtx_soft.specs.Nearest.{IsTieBreak, across_of, even_of, odd_of, seen}
use Rattle.dtx_soft.proofs.SquareTests.{all_pass, formulas_pass, have_gaps, is_tied}
use Rattle.dtx_soft.proofs.SquareTests.{level_by, levels_pass, lifted, passes, squares_pass}
use Rattle.dtx_soft.proofs.WritesLemmas.{four}

both : (a b : Bool) → (a && b) ≡ true → (a ≡ true) × (b ≡ true)
both true true e = (refl, refl)
both true false e = absurd (cc)
both false b e = absurd (cc)

same_numbers : (a b : ℕ) → nat_eq a b ≡ true → a ≡ b
same_numbers a b e = (Decides-eqb a b).0 e

same_integers : (a b : ℤ) → int_eq a b ≡ true → a ≡ b
same_integers a b e = (Decides-int_eq a b).0 e

at_most : (a b : ℕ) → nat_le a b ≡ true → a ≤ b
at_most a b e = grind (arith, nat_tests)

quotient : (s n : ℕ) → n < 256 → (256 * s + n) / 256 ≡ s
quotient s n m = omega arith

rest : (s n : ℕ) → n < 256 → (256 * s + n) % 256 ≡ n
rest s n m = omega arith

tested : (scale n : ℕ) → scale < 19 → n < 256 → passes scale (pos n -ℤ pos 128) ≡ true
tested scale n l m = subst (λ s. passes s (pos n -ℤ pos 128) ≡ true) (quotient scale n m)
    (subst (λ k. passes ((256 * scale + n) / 256) (pos k -ℤ pos 128) ≡ true) (rest scale n m)
    (at_below (λ k. passes (k / 256) (pos (k % 256) -ℤ pos 128)) 4864 (256 * scale + n) all_pass (omega arith)))

-- what the test says
pub record AreTested (scale : ℕ) (symbol : ℤ) : Type 0 where
  pub first : nearer_square scale symbol 0 + unit scale * 2048 ≡ nearer_square scale symbol 3
      + unit scale * lifted (across_of scale (seen scale symbol) +ℤ even_of scale (seen scale symbol) (pos 0))
  pub second : nearer_square scale symbol 1 + unit scale * 2048 ≡ nearer_square scale symbol 3
      + unit scale * lifted (odd_of scale (seen scale symbol) (pos 0))
  pub third : nearer_square scale symbol 2 + unit scale * 2048 ≡ nearer_square scale symbol 3
      + unit scale * lifted (across_of scale (seen scale symbol))
  pub even_tied : even_of scale (seen scale symbol) (pos 1)
      ≡ even_of scale (seen scale symbol) (pos 0) +ℤ pos (tie_of scale symbol 0)
  pub odd_tied : odd_of scale (seen scale symbol) (pos 1)
      ≡ odd_of scale (seen scale symbol) (pos 0) +ℤ pos (tie_of scale symbol 1)
  pub small : (z : ℕ) → z < 4 → nearer_square scale symbol z ≤ 64516

opened : (scale : ℕ) (symbol : ℤ) → passes scale symbol ≡ true → AreTested scale symbol
unfolding passes formulas_pass squares_pass levels_pass level_by have_gaps is_tied
opened scale symbol t =
    let gaps = both _ _ t in
    let a = both _ _ gaps.0 in
    let b = both _ _ a.1 in
    let c = both _ _ b.1 in
    let d = both _ _ c.1 in
    let e = both _ _ d.1 in
    let f = both _ _ e.1 in
    let even = both _ _ gaps.1 in
    record {
      first = same_numbers _ _ a.0;
      second = same_numbers _ _ b.0;
      third = same_numbers _ _ c.0;
      even_tied = same_integers _ _ even.0;
      odd_tied = same_integers _ _ even.1;
      small = four _ (at_most _ _ d.0) (at_most _ _ e.0) (at_most _ _ f.0) (at_most _ _ f.1);
    }

pub are_tested : (scale : ℕ) (symbol : ℤ) → scale ≤ 18 → pos 0 ≤ℤ (symbol +ℤ pos 128) → symbol ≤ℤ pos 127
    → AreTested scale symbol
are_tested scale symbol l from to =
    let back : pos (nat_abs (symbol +ℤ pos 128)) -ℤ pos 128 ≡ symbol = omega (arith, ints) in
    opened scale symbol (subst (λ v. passes scale v ≡ true) back
    (tested scale (nat_abs (symbol +ℤ pos 128)) (omega arith) (omega (arith, ints))))

lifted_is : (x : ℤ) → pos 0 ≤ℤ (x +ℤ pos 2048) → pos (lifted x) ≡ pos 2048 +ℤ x
lifted_is x l = omega (arith, ints)

-- the gaps of the squares in a symbol's row
pub row_gaps : (scale : ℕ) (symbol x y u : ℤ) → AreTested scale symbol → x ≡ even_of scale (seen scale symbol) (pos 0)
    → y ≡ odd_of scale (seen scale symbol) (pos 0) → u ≡ across_of scale (seen scale symbol)
    → pos 0 ≤ℤ (u +ℤ x +ℤ pos 2048) → pos 0 ≤ℤ (y +ℤ pos 2048) → pos 0 ≤ℤ (u +ℤ pos 2048)
    → AreGaps (unit scale) (row_of scale symbol).squares x y u
unfolding row_of
row_gaps scale symbol x y u t ex ey eu lx ly lu = record {
  base = nearer_square scale symbol 3;
  lift = 2048;
  units = lifted (u +ℤ x) ∷ lifted y ∷ lifted u ∷ 2048 ∷ [];
  each = four _ first second third refl;
  even_is = (let a = lifted_is (u +ℤ x) lx in let b = lifted_is u lu in omega (arith, ints));
  odd_is = lifted_is y ly;
  across_is = lifted_is u lu;
}
  where
    first : nearer_square scale symbol 0 + unit scale * 2048
        ≡ nearer_square scale symbol 3 + unit scale * lifted (u +ℤ x)
    first = grind (arith, lifted)

    second : nearer_square scale symbol 1 + unit scale * 2048 ≡ nearer_square scale symbol 3 + unit scale * lifted y
    second = subst (λ a. nearer_square scale symbol 1 + unit scale * 2048 ≡ nearer_square scale symbol 3 + unit scale *
        lifted a) (sym ey) t.second

    third : nearer_square scale symbol 2 + unit scale * 2048 ≡ nearer_square scale symbol 3 + unit scale * lifted u
    third = subst (λ a. nearer_square scale symbol 2 + unit scale * 2048 ≡ nearer_square scale symbol 3 + unit scale *
        lifted a) (sym eu) t.third

tie_is : (m n : ℕ) → IsTieBreak m n (cond (nat_lt n m) 1 0)
tie_is m n = record { before = λ l. grind (arith, nat_tests); behind = λ l. grind (arith, nat_tests) }

pub row_tie : (scale : ℕ) (symbol : ℤ) (z : ℕ) → z < 2
    → IsTieBreak (get_or (row_of scale symbol).levels z 0) (get_or (row_of scale symbol).levels (z + 2) 0) (tie_of scale
    symbol z)
unfolding row_of
row_tie scale symbol zero l = tie_is (nearer_level scale symbol 0) (nearer_level scale symbol 2)
row_tie scale symbol (suc zero) l = tie_is (nearer_level scale symbol 1) (nearer_level scale symbol 3)
row_tie scale symbol (suc (suc z)) l = absurd (omega arith)
