-- Gaps of potentials, one more symbol in front.
use Rattle.std.proofs.Common.{◌≡◌, ℕ, ℤ, pos, ◌+◌, ◌*◌, ◌/◌, ◌%◌, ◌<◌, ◌≤◌, ◌⊎◌, inl, inr, ◌+ℤ◌, ◌-ℤ◌, ◌≤ℤ◌, ◌<ℤ◌, ◌^◌}
use Rattle.std.proofs.Common.{min, List, [], ◌∷◌, get_or, refl, sym, ap, ◌∙◌, subst, w8, arith}
use mir.Val.{SFits}
use Rattle.std.specs.Int.{int_min}
use Rattle.std.proofs.lemmas.Int.{ints, clamps}
use Rattle.std.proofs.lemmas.Bool.{cases_order}
use Rattle.dtx_soft.specs.declared.nearest.Nearest.{Nearest}
use Rattle.dtx_soft.specs.declared.gaps.Gap.{Gap}
use Rattle.dtx_soft.specs.declared.gaps.SquareGaps.{SquareGaps}
use Rattle.dtx_soft.specs.Bounds.{AreBounds, AreWithin, Bounds, IsScale}
use Rattle.dtx_soft.specs.Gaps.{AreGaps, AreSigns, AreSums, AreTaken, IsBefore, IsStep, SaysAbove, row_of, tie_of, unit}
use Rattle.dtx_soft.specs.Nearest.{IsSquares, IsTaken, IsTieBreak, cheapest, through}
use Rattle.dtx_soft.proofs.SquareGaps.{AreTested, are_tested, row_gaps, row_tie}
use Rattle.std.proofs.lemmas.Bool.Decides.{nat_tests}
use Rattle.dtx_soft.specs.Paths.{next_state}
use Rattle.dtx_soft.proofs.LeastPathLemmas.{next_small}
use Rattle.dtx_soft.proofs.Steps.{bit_taken}
use Rattle.dtx_soft.proofs.Units.{least_in_units, less_in_units, same_in_units, sum_in_units}
use Rattle.dtx_soft.proofs.WritesLemmas.{four}

-- what a pair of levels comes to, in units
abbrev pub units_through : List ℕ → List ℕ → ℕ → ℕ → ℕ
units_through squares behind state z = get_or squares z 0 + get_or behind (next_state state z) 0

pub through_units : (k : ℕ) (row : Nearest) (behind : List ℕ) (x y u d e f : ℤ) (r : AreGaps k row.squares x y u)
    (g : AreGaps k behind d e f) (state z : ℕ) → state < 4 → z < 4
    → through row behind state z + k * (r.lift + g.lift) ≡ r.base + g.base + k * units_through r.units g.units state z
through_units k row behind x y u d e f r g state z l m = grind (arith, sum_in_units, next_small)

-- a tie decides where both come to as much
by_units : (k z c x y a b tie bit : ℕ) → 0 < k → tie ≤ 1 → x + z ≡ c + k * a → y + z ≡ c + k * b
    → ((b < a + tie) × (bit ≡ 1)) ⊎ ((a + tie ≤ b) × (bit ≡ 0))
    → ((y < x + tie) × (bit ≡ 1)) ⊎ ((x + tie ≤ y) × (bit ≡ 0))
by_units k z c x y a b tie bit h t e f (inl m) = inl (less (cases_order b a), m.1)
  where
    less : (b ≡ a) ⊎ ((b < a) ⊎ (a < b)) → y < x + tie
    less (inr (inl l)) = let n = less_in_units k z c y x b a h f e l in omega arith
    less (inl l) = let n = same_in_units k z c y x b a f e l in let o : b < a + tie = m.0 in omega arith
    less (inr (inr l)) = let o : b < a + tie = m.0 in absurd (omega arith)
by_units k z c x y a b tie bit h t e f (inr m) = inr (less (cases_order a b), m.1)
  where
    less : (a ≡ b) ⊎ ((a < b) ⊎ (b < a)) → x + tie ≤ y
    less (inr (inl l)) = let n = less_in_units k z c x y a b h e f l in omega arith
    less (inl l) = let n = same_in_units k z c x y a b e f l in let o : a + tie ≤ b = m.0 in omega arith
    less (inr (inr l)) = let o : a + tie ≤ b = m.0 in absurd (omega arith)

pub units_taken : (k : ℕ) (row : Nearest) (behind : List ℕ) (x y u d e f : ℤ) (r : AreGaps k row.squares x y u)
    (g : AreGaps k behind d e f) (state tie bit : ℕ) → 0 < k → state < 4 → tie ≤ 1
    → IsTieBreak (get_or row.levels (state / 2) 0) (get_or row.levels (state / 2 + 2) 0) tie
    → ((units_through r.units g.units state (state / 2 + 2) < units_through r.units g.units state (state / 2) + tie)
    × (bit ≡ 1))
    ⊎ ((units_through r.units g.units state (state / 2) + tie ≤ units_through r.units g.units state (state / 2 + 2))
    × (bit ≡ 0)) → IsTaken row behind state bit
units_taken k row behind x y u d e f r g state tie bit h l t i b = bit_taken row behind state tie bit i
    (by_units k (k * (r.lift + g.lift)) (r.base + g.base) (through row behind state (state / 2))
    (through row behind state (state / 2 + 2)) (units_through r.units g.units state (state / 2))
    (units_through r.units g.units state (state / 2 + 2)) tie bit h t
    (through_units k row behind x y u d e f r g state (state / 2) l (omega arith))
    (through_units k row behind x y u d e f r g state (state / 2 + 2) l (omega arith)) b)

-- the potentials before the symbol, in units
pub least_units : (k : ℕ) (row : Nearest) (behind before : List ℕ) (x y u d e f : ℤ) (r : AreGaps k row.squares x y u)
    (g : AreGaps k behind d e f) → ((s : ℕ) → s < 4 → get_or before s 0 ≡ cheapest row behind s) → (s : ℕ) → s < 4
    → get_or before s 0 + k * (r.lift + g.lift) ≡ r.base + g.base
    + k * min (units_through r.units g.units s (s / 2)) (units_through r.units g.units s (s / 2 + 2))
least_units k row behind before x y u d e f r g h s l = ap (λ n. n + k * (r.lift + g.lift)) (h s l)
    ∙ least_in_units k (k * (r.lift + g.lift)) (r.base + g.base) (through row behind s (s / 2))
    (through row behind s (s / 2 + 2)) (units_through r.units g.units s (s / 2))
    (units_through r.units g.units s (s / 2 + 2)) (through_units k row behind x y u d e f r g s (s / 2) l (omega arith))
    (through_units k row behind x y u d e f r g s (s / 2 + 2) l (omega arith))

-- the new gaps
pub gaps_before : (k : ℕ) (row : Nearest) (behind before : List ℕ) (x y u d e f v w z : ℤ)
    → AreGaps k row.squares x y u → AreGaps k behind d e f
    → ((s : ℕ) → s < 4 → get_or before s 0 ≡ cheapest row behind s)
    → ((m0 m1 m2 m3 p0 p1 p2 p3 : ℕ) → pos m0 ≡ pos m2 +ℤ x → pos m1 ≡ pos m3 +ℤ y → pos m2 ≡ pos m3 +ℤ u
    → pos p0 ≡ pos p2 +ℤ d → pos p1 ≡ pos p3 +ℤ e → pos p2 ≡ pos p3 +ℤ f
    → (pos (min (m0 + p0) (m2 + p2)) ≡ pos (min (m1 + p1) (m3 + p3)) +ℤ v)
    × (pos (min (m0 + p2) (m2 + p0)) ≡ pos (min (m1 + p3) (m3 + p1)) +ℤ w)
    × (pos (min (m1 + p1) (m3 + p3)) ≡ pos (min (m1 + p3) (m3 + p1)) +ℤ z)) → AreGaps k before v w z
unfolding next_state
gaps_before k row behind before x y u d e f v w z r g h by =
    let least : (s : ℕ) → s < 4 → get_or before s 0 + k * (r.lift + g.lift) ≡ r.base + g.base + k * min
    (units_through r.units g.units s (s / 2)) (units_through r.units g.units s (s / 2 + 2)) =
    least_units k row behind before x y u d e f r g h in
    let all : (pos (min (m 0 + p 0) (m 2 + p 2)) ≡ pos (min (m 1 + p 1) (m 3 + p 3)) +ℤ v) ×
    (pos (min (m 0 + p 2) (m 2 + p 0)) ≡ pos (min (m 1 + p 3) (m 3 + p 1)) +ℤ w) ×
    (pos (min (m 1 + p 1) (m 3 + p 3)) ≡ pos (min (m 1 + p 3) (m 3 + p 1)) +ℤ z) =
    by (m 0) (m 1) (m 2) (m 3) (p 0) (p 1) (p 2) (p 3) r.even_is r.odd_is r.across_is g.even_is g.odd_is g.across_is in
    record {
      base = r.base + g.base;
      lift = r.lift + g.lift;
      units = min (m 0 + p 0) (m 2 + p 2) ∷ min (m 0 + p 2) (m 2 + p 0) ∷ min (m 1 + p 1) (m 3 + p 3)
          ∷ min (m 1 + p 3) (m 3 + p 1) ∷ [];
      each = four _ (least 0 (omega arith)) (least 1 (omega arith)) (least 2 (omega arith)) (least 3 (omega arith));
      even_is = all.0;
      odd_is = all.1;
      across_is = all.2;
    }
  where
    m : ℕ → ℕ
    m s = get_or r.units s 0

    p : ℕ → ℕ
    p s = get_or g.units s 0

signs : (a b tie bit : ℕ) (o n : ℤ) → pos (a + tie) +ℤ o ≡ pos b +ℤ n → SaysAbove o n bit
    → ((b < a + tie) × (bit ≡ 1)) ⊎ ((a + tie ≤ b) × (bit ≡ 0))
signs a b tie bit o n e (inl h) = inl ((let l : o <ℤ n = h.0 in omega (arith, ints)), h.1)
signs a b tie bit o n e (inr h) = inr ((let l : n ≤ℤ o = h.0 in omega (arith, ints)), h.1)

is_bit : {o n : ℤ} {bit : ℕ} → SaysAbove o n bit → bit < 2
is_bit (inl h) = omega (arith, h.1)
is_bit (inr h) = omega (arith, h.1)

small_tie : (scale : ℕ) (symbol : ℤ) (z : ℕ) → tie_of scale symbol z ≤ 1
small_tie scale symbol z = grind (arith, nat_tests)

marks_taken : (scale : ℕ) (symbol : ℤ) (squares : SquareGaps ℤ) (gap : Gap ℤ) (marks : ℕ)
    → AreTested scale symbol → IsSquares scale symbol squares
    → AreGaps (unit scale) (row_of scale symbol).squares squares.even squares.odd squares.across
    → AreSigns squares gap marks → AreTaken scale symbol gap marks
unfolding next_state
marks_taken scale symbol squares gap marks t q r s behind g =
    let la : s.first < 2 = is_bit s.first_says in
    let lb : s.second < 2 = is_bit s.second_says in
    let lc : s.third < 2 = is_bit s.third_says in
    let ld : s.fourth < 2 = is_bit s.fourth_says in
    let even_tied : squares.even_tied ≡ squares.even +ℤ pos (tie_of scale symbol 0) =
    q.even_tied ∙ t.even_tied ∙ ap (λ z. z +ℤ pos (tie_of scale symbol 0)) (sym q.even) in
    let odd_tied : squares.odd_tied ≡ squares.odd +ℤ pos (tie_of scale symbol 1) =
    q.odd_tied ∙ t.odd_tied ∙ ap (λ z. z +ℤ pos (tie_of scale symbol 1)) (sym q.odd) in
    four (λ n. IsTaken (row_of scale symbol) behind n (marks / 2 ^ n % 2))
    (subst (IsTaken (row_of scale symbol) behind 0) (omega arith) (at 0 0 s.first (omega arith) refl (signs _ _ (tie_of
    scale symbol 0) s.first (pos 0) (squares.even_tied +ℤ gap.even) (omega (arith, ints)) s.first_says)))
    (subst (IsTaken (row_of scale symbol) behind 1) (omega arith) (at 1 0 s.second (omega arith) refl (signs _ _ (tie_of
    scale symbol 0) s.second gap.even squares.even_tied (omega (arith, ints)) s.second_says)))
    (subst (IsTaken (row_of scale symbol) behind 2) (omega arith) (at 2 1 s.third (omega arith) refl (signs _ _ (tie_of
    scale symbol 1) s.third (pos 0) (squares.odd_tied +ℤ gap.odd) (omega (arith, ints)) s.third_says)))
    (subst (IsTaken (row_of scale symbol) behind 3) (omega arith) (at 3 1 s.fourth (omega arith) refl (signs _ _ (tie_of
    scale symbol 1) s.fourth gap.odd squares.odd_tied (omega (arith, ints)) s.fourth_says)))
  where
    at : (state z bit : ℕ) → state < 4 → state / 2 ≡ z → ((units_through r.units g.units state (state / 2 + 2)
        < units_through r.units g.units state (state / 2) + tie_of scale symbol (state / 2)) × (bit ≡ 1))
        ⊎ ((units_through r.units g.units state (state / 2) + tie_of scale symbol (state / 2)
        ≤ units_through r.units g.units state (state / 2 + 2)) × (bit ≡ 0))
        → IsTaken (row_of scale symbol) behind state bit
    at state z bit l e =
        units_taken (unit scale) (row_of scale symbol) behind squares.even squares.odd squares.across gap.even gap.odd
        gap.across r g state (tie_of scale symbol (state / 2)) bit (omega arith) l (small_tie scale symbol (state / 2))
        (row_tie scale symbol (state / 2) (omega arith))

-- the new gaps, of numbers that differ by the old ones
new_even : (m0 m1 m2 m3 p0 p1 p2 p3 : ℕ) (x y u d e f : ℤ) → pos m0 ≡ pos m2 +ℤ x → pos m1 ≡ pos m3 +ℤ y
    → pos m2 ≡ pos m3 +ℤ u → pos p0 ≡ pos p2 +ℤ d → pos p1 ≡ pos p3 +ℤ e → pos p2 ≡ pos p3 +ℤ f
    → pos (min (m0 + p0) (m2 + p2)) ≡ pos (min (m1 + p1) (m3 + p3))
    +ℤ ((u +ℤ f) +ℤ (int_min (x +ℤ d) (pos 0) -ℤ int_min (y +ℤ e) (pos 0)))
new_even m0 m1 m2 m3 p0 p1 p2 p3 x y u d e f e1 e2 e3 e4 e5 e6 = omega (arith, ints, clamps)

new_odd : (m0 m1 m2 m3 p0 p1 p2 p3 : ℕ) (x y u d e f : ℤ) → pos m0 ≡ pos m2 +ℤ x → pos m1 ≡ pos m3 +ℤ y
    → pos m2 ≡ pos m3 +ℤ u → pos p0 ≡ pos p2 +ℤ d → pos p1 ≡ pos p3 +ℤ e → pos p2 ≡ pos p3 +ℤ f
    → pos (min (m0 + p2) (m2 + p0)) ≡ pos (min (m1 + p3) (m3 + p1)) +ℤ ((u +ℤ f) +ℤ (int_min x d -ℤ int_min y e))
new_odd m0 m1 m2 m3 p0 p1 p2 p3 x y u d e f e1 e2 e3 e4 e5 e6 = omega (arith, ints, clamps)

new_across : (m1 m3 p1 p3 : ℕ) (y e : ℤ) → pos m1 ≡ pos m3 +ℤ y → pos p1 ≡ pos p3 +ℤ e
    → pos (min (m1 + p1) (m3 + p3)) ≡ pos (min (m1 + p3) (m3 + p1)) +ℤ (int_min (y +ℤ e) (pos 0) -ℤ int_min y e)
new_across m1 m3 p1 p3 y e e1 e2 = omega (arith, ints, clamps)

gaps_right : (scale : ℕ) (symbol : ℤ) (squares : SquareGaps ℤ) (gap new : Gap ℤ)
    → AreGaps (unit scale) (row_of scale symbol).squares squares.even squares.odd squares.across
    → AreSums squares gap new → IsBefore scale symbol gap new
gaps_right scale symbol squares gap new r n behind before p q =
    gaps_before (unit scale) (row_of scale symbol) behind before squares.even squares.odd squares.across gap.even
    gap.odd gap.across new.even new.odd new.across r p q
    (λ m0 m1 m2 m3 p0 p1 p2 p3 i1 i2 i3 i4 i5 i6. (grind (arith, new_even, new_odd, new_across)))

-- a step at a symbol
pub one_step : (b : Bounds) (scale : ℕ) (symbol : ℤ) (squares : SquareGaps ℤ) (old new : Gap ℤ) (marks : ℕ)
    → AreBounds b → IsScale b scale → SFits w8 symbol → IsSquares scale symbol squares → AreWithin b squares
    → AreSums squares old new → AreSigns squares old marks → IsStep scale symbol old new marks
one_step b scale symbol squares old new marks w s fits q l sums signs =
    let tested : AreTested scale symbol =
    are_tested scale symbol (omega arith) (omega (arith, ints)) (omega (arith, ints)) in
    let gaps : AreGaps (unit scale) (row_of scale symbol).squares squares.even squares.odd squares.across =
    row_gaps scale symbol squares.even squares.odd squares.across tested q.even q.odd q.across
    (omega (arith, ints, w.lifted, l.across, l.even)) (omega (arith, ints, w.lifted, l.odd))
    (omega (arith, ints, w.lifted, l.across)) in
    record {
      from = omega (arith, ints);
      to = omega (arith, ints);
      gaps = gaps_right scale symbol squares old new gaps sums;
      taken = marks_taken scale symbol squares old marks tested q gaps signs;
    }
