-- The row of a symbol has the nearer of each two levels.
use Rattle.std.proofs.Common.{◌≡◌, ℕ, zero, suc, ℤ, pos, ◌+◌, ◌%◌, ◌<◌, ◌≤◌, ◌⊎◌, inl, inr, ◌+ℤ◌, ◌≤ℤ◌, min, cond}
use Rattle.std.proofs.Common.{nat_le, get_or, refl, sym, ap, ◌∙◌, subst, arith}
use Rattle.std.proofs.lemmas.Bool.{cases_lt}
use Rattle.std.proofs.lemmas.Bool.Decides.{nat_tests}
use Rattle.dtx_soft.specs.Gaps.{nearer_level, nearer_square, row_of}
use Rattle.dtx_soft.specs.Nearest.{AreNearest, IsNearest, IsTieBreak}
use Rattle.dtx_soft.specs.Paths.{squared, symbol_at}
use Rattle.dtx_soft.proofs.SquareGaps.{AreTested, are_tested, row_tie}
use Rattle.dtx_soft.proofs.WritesLemmas.{four}

other_is : (y z : ℕ) → y < 8 → z < 4 → y % 4 ≡ z % 4 → (y ≡ z) ⊎ (y ≡ z + 4)
other_is y z l m e = grind (arith, cases_lt)

level_by : (a b z : ℕ) → ((a ≤ b) × (cond (nat_le a b) z (z + 4) ≡ z) × (min a b ≡ a))
    ⊎ ((b < a) × (cond (nat_le a b) z (z + 4) ≡ z + 4) × (min a b ≡ b))
level_by a b z = grind (arith, cases_lt, nat_tests)

nearest_is : (scale : ℕ) (v : ℤ) (z level square : ℕ) → z < 4 → square ≤ 64516
    → ((squared v (symbol_at scale z) ≤ squared v (symbol_at scale (z + 4))) × (level ≡ z)
    × (square ≡ squared v (symbol_at scale z)))
    ⊎ ((squared v (symbol_at scale (z + 4)) < squared v (symbol_at scale z)) × (level ≡ z + 4)
    × (square ≡ squared v (symbol_at scale (z + 4)))) → IsNearest scale v z level square
nearest_is scale v z level square l s (inl h) = record {
  small = omega (arith, h.1);
  bounded = s;
  alike = ap (λ n. n % 4) h.1;
  exact = h.2 ∙ ap (λ n. squared v (symbol_at scale n)) (sym h.1);
  nearest = λ y m e. nearest y (other_is y z m l e);
  first = λ y m e t. first y (other_is y z m l e);
}
  where
    nearest : (y : ℕ) → (y ≡ z) ⊎ (y ≡ z + 4) → square ≤ squared v (symbol_at scale y)
    nearest y (inl e) = subst (λ n. square ≤ squared v (symbol_at scale n)) (sym e) (omega (arith, h.2))
    nearest y (inr e) = subst (λ n. square ≤ squared v (symbol_at scale n)) (sym e) (omega (arith, h.0, h.2))

    first : (y : ℕ) → (y ≡ z) ⊎ (y ≡ z + 4) → level ≤ y
    first y (inl e) = omega (arith, h.1)
    first y (inr e) = omega (arith, h.1)
nearest_is scale v z level square l s (inr h) = grind (arith, other_is)

nearer_is : (scale : ℕ) (v : ℤ) (z : ℕ) → z < 4 → AreTested scale v
    → IsNearest scale v z (nearer_level scale v z) (nearer_square scale v z)
nearer_is scale v z l t = nearest_is scale v z (nearer_level scale v z) (nearer_square scale v z) l (t.small z l)
    (level_by (squared v (symbol_at scale z)) (squared v (symbol_at scale (z + 4))) z)

pub row_is : (scale : ℕ) (v : ℤ) → scale ≤ 18 → pos 0 ≤ℤ (v +ℤ pos 128) → v ≤ℤ pos 127
    → AreNearest scale v (row_of scale v)
unfolding row_of
row_is scale v l from to =
    let t : AreTested scale v = are_tested scale v l from to in
    record {
      levels = refl;
      squares = refl;
      each = four (λ z. IsNearest scale v z (get_or (row_of scale v).levels z 0) (get_or (row_of scale v).squares z 0))
          (nearer_is scale v 0 (omega arith) t) (nearer_is scale v 1 (omega arith) t)
          (nearer_is scale v 2 (omega arith) t) (nearer_is scale v 3 (omega arith) t);
      tie_breaks = λ z m. tie_breaks z m;
    }
  where
    tie_breaks : (z : ℕ) → z < 2
        → IsTieBreak (get_or (row_of scale v).levels z 0) (get_or (row_of scale v).levels (z + 2) 0)
        (get_or (row_of scale v).tie_breaks z 0)
    tie_breaks zero m = row_tie scale v 0 m
    tie_breaks (suc zero) m = row_tie scale v 1 m
    tie_breaks (suc (suc z)) m = absurd (omega arith)
