-- Bounds of the differences of squares and of potentials.
use Rattle.std.proofs.Common.{◌≡◌, ℕ, ℤ, pos, ◌+◌, ◌≤◌, ◌+ℤ◌, ◌-ℤ◌, ◌≤ℤ◌, nat_abs, refl, arith}
use Rattle.std.specs.Int.{int_min}
use Rattle.std.proofs.lemmas.Int.{ints, clamps}
use Rattle.dtx_soft.specs.declared.gaps.Gap.{Gap}
use Rattle.dtx_soft.specs.declared.gaps.SquareGaps.{SquareGaps}
use Rattle.dtx_soft.specs.Bounds.{AreBounds, AreWithin, Bounds, IsBounded, IsReached, IsScale}
use Rattle.dtx_soft.specs.Gaps.{AreSums}
use Rattle.dtx_soft.specs.Nearest.{IsSquares, across_of, even_of, odd_of, seen}

pub seen_reached : (b : Bounds) (scale : ℕ) (symbol : ℤ) → IsReached b symbol → IsReached b (seen scale symbol)
seen_reached b scale symbol h = grind arith

pub even_small : (b : Bounds) (c : ℕ) (v t : ℤ) → AreBounds b → IsScale b c → nat_abs v ≤ b.reach → pos 0 ≤ℤ t
    → t ≤ℤ pos 1 → nat_abs (even_of c v t) ≤ b.far
even_small b c v t w s l f g = omega (arith, ints, clamps)

pub odd_small : (b : Bounds) (c : ℕ) (v t : ℤ) → AreBounds b → IsScale b c → nat_abs v ≤ b.reach → pos 0 ≤ℤ t
    → t ≤ℤ pos 1 → nat_abs (odd_of c v t) ≤ b.far
odd_small b c v t w s l f g = omega (arith, ints, clamps)

pub across_small : (b : Bounds) (c : ℕ) (v : ℤ) → AreBounds b → IsScale b c → nat_abs v ≤ b.reach
    → nat_abs (across_of c v) ≤ b.aside
across_small b c v w s l = omega (arith, ints, clamps)

beside_small : (b : Bounds) (c : ℕ) (v : ℤ) → AreBounds b → IsScale b c → nat_abs v ≤ b.reach
    → nat_abs (odd_of c v (pos 0) -ℤ (across_of c v +ℤ even_of c v (pos 0))) ≤ b.aside
beside_small b c v w s l = omega (arith, ints, clamps)

pub squares_within : (b : Bounds) (scale : ℕ) (symbol : ℤ) (squares : SquareGaps ℤ) → AreBounds b → IsScale b scale
    → IsReached b symbol → IsSquares scale symbol squares → AreWithin b squares
squares_within b scale symbol squares w s l q =
    let r = seen_reached b scale symbol l in
    let to : pos 0 ≤ℤ pos 1 = omega (arith, ints) in
    let above : pos 1 ≤ℤ pos 1 = omega (arith, ints) in
    record {
      even = rw q.even (even_small b scale (seen scale symbol) (pos 0) w s r (omega (arith, ints)) to);
      odd = rw q.odd (odd_small b scale (seen scale symbol) (pos 0) w s r (omega (arith, ints)) to);
      across = rw q.across (across_small b scale (seen scale symbol) w s r);
      beside = rw (q.odd, q.across, q.even) (beside_small b scale (seen scale symbol) w s r);
      even_tied = rw q.even_tied (even_small b scale (seen scale symbol) (pos 1) w s r to above);
      odd_tied = rw q.odd_tied (odd_small b scale (seen scale symbol) (pos 1) w s r to above);
    }

bounded : (far aside : ℕ) (x y u d e f : ℤ) → nat_abs x ≤ far → nat_abs y ≤ far → nat_abs u ≤ aside
    → nat_abs (y -ℤ (u +ℤ x)) ≤ aside → nat_abs f ≤ far → nat_abs (e -ℤ (d +ℤ f)) ≤ far
    → (nat_abs ((u +ℤ f) +ℤ (int_min (x +ℤ d) (pos 0) -ℤ int_min (y +ℤ e) (pos 0))) ≤ far + aside)
    × (nat_abs ((u +ℤ f) +ℤ (int_min x d -ℤ int_min y e)) ≤ far + aside)
    × (nat_abs (int_min (y +ℤ e) (pos 0) -ℤ int_min y e) ≤ far) × (nat_abs (((u +ℤ f) +ℤ (int_min x d -ℤ int_min y e))
    -ℤ (((u +ℤ f) +ℤ (int_min (x +ℤ d) (pos 0) -ℤ int_min (y +ℤ e) (pos 0)))
    +ℤ (int_min (y +ℤ e) (pos 0) -ℤ int_min y e))) ≤ far)
bounded far aside x y u d e f a b g h i j = (
  omega (arith, ints, clamps),
  omega (arith, ints, clamps),
  omega (arith, ints, clamps),
  omega (arith, ints, clamps),
)

pub sums_bounded : (b : Bounds) (squares : SquareGaps ℤ) (old new : Gap ℤ) → AreWithin b squares → IsBounded b old
    → AreSums squares old new → IsBounded b new
sums_bounded b squares old new s h n =
    let all = bounded b.far b.aside squares.even squares.odd squares.across old.even old.odd old.across s.even s.odd
    s.across s.beside h.across h.beside in
    record {
      even = rw n.even all.0;
      odd = rw n.odd all.1;
      across = rw n.across all.2;
      beside = rw (n.odd, n.even, n.across) all.3;
    }

-- what such gaps are
pub sums_of : (squares : SquareGaps ℤ) (old : Gap ℤ) → AreSums squares old (record {
  even = (squares.across +ℤ old.across) +ℤ (int_min (squares.even +ℤ old.even) (pos 0)
      -ℤ int_min (squares.odd +ℤ old.odd) (pos 0));
  odd = (squares.across +ℤ old.across) +ℤ (int_min squares.even old.even -ℤ int_min squares.odd old.odd);
  across = int_min (squares.odd +ℤ old.odd) (pos 0) -ℤ int_min squares.odd old.odd;
})
sums_of squares old = record { even = refl; odd = refl; across = refl }

-- the gaps of no symbols
pub none_bounded : (b : Bounds) (gap : Gap ℤ) → gap.even ≡ pos 0 → gap.odd ≡ pos 0 → gap.across ≡ pos 0
    → IsBounded b gap
none_bounded b gap e f g = grind (arith, ints)
