-- The bytes of a word lie far apart on the air: of 522 bytes in a row it has at most ten, and of 1,045 at most twenty.
--
-- Byte m of the codewords stands at place m + 208 * (m % 52). Those of one value of m / 52 are a ramp, of which
-- neighbours stand 209 places apart; each further ramp stands 52 places on. The 207 bytes of a word are of five ramps,
-- of which the first lacks its begin and the last lacks its end.
use Rattle.std.proofs.Common.{◌≡◌, ℕ, zero, suc, ◌+◌, ◌-◌, ◌*◌, ◌/◌, ◌%◌, ◌<◌, ◌≤◌, ◌⊎◌, min, inl, inr, subst, arith}
use Rattle.dtx_frame.proofs.CountsLemmas.{total}
use Rattle.dtx_bursts.proofs.Counting.{total_rises}

abbrev pub air_place : ℕ → ℕ
air_place m = m + 208 * (m % 52)

-- Of ramp t, those in the window of n places from w on: m from the one of these numbers on and below the other.
abbrev ramp_begin : ℕ → ℕ → ℕ
ramp_begin w t = 51 * t + (w + 157 * t + 208) / 209

in_ramp : (w n m : ℕ) → w ≤ air_place m → air_place m < w + n
    → (ramp_begin w (m / 52) ≤ m) × (m < ramp_begin (w + n) (m / 52))
in_ramp w n m l h = (omega (arith, l), omega (arith, h))

-- how many of the numbers from a on and below b stand before m
abbrev before : ℕ → ℕ → ℕ → ℕ
before a b m = min (m - a) (b - a)

before_never : (a b m : ℕ) → before a b m ≤ before a b (m + 1)
before_never a b m = omega arith

before_rises : (a b m : ℕ) → a ≤ m → m < b → 1 + before a b m ≤ before a b (m + 1)
before_rises a b m l h = omega (arith, l, h)

abbrev ramp_count : ℕ → ℕ → ℕ → ℕ → ℕ
ramp_count w n t m = before (ramp_begin w t) (ramp_begin (w + n) t) m

five_counts : ℕ → ℕ → ℕ → ℕ → ℕ
five_counts w n t m =
    ramp_count w n t m + ramp_count w n (t + 1) m + ramp_count w n (t + 2) m + ramp_count w n (t + 3) m
    + ramp_count w n (t + 4) m

-- ---- at most ten

few_ten : (w t r : ℕ) → r < 52 → five_counts w 522 t (52 * t + r + 207) ≤ five_counts w 522 t (52 * t + r) + 10
unfolding five_counts
few_ten w t r l = omega (arith, l)

few_twenty : (w t r : ℕ) → r < 52 → five_counts w 1045 t (52 * t + r + 207) ≤ five_counts w 1045 t (52 * t + r) + 20
unfolding five_counts
few_twenty w t r l = omega (arith, l)

-- ---- each byte of the word in the window is counted

never : (w n t m : ℕ) → five_counts w n t m ≤ five_counts w n t (m + 1)
unfolding five_counts
never w n t m = omega (
  arith,
  before_never (ramp_begin w t) (ramp_begin (w + n) t) m,
  before_never (ramp_begin w (t + 1)) (ramp_begin (w + n) (t + 1)) m,
  before_never (ramp_begin w (t + 2)) (ramp_begin (w + n) (t + 2)) m,
  before_never (ramp_begin w (t + 3)) (ramp_begin (w + n) (t + 3)) m,
  before_never (ramp_begin w (t + 4)) (ramp_begin (w + n) (t + 4)) m,
)

rises : (w n t m : ℕ) → 52 * t ≤ m → m < 52 * (t + 5) → w ≤ air_place m → air_place m < w + n
    → 1 + five_counts w n t m ≤ five_counts w n t (m + 1)
unfolding five_counts
rises w n t m a b l h = by_ramp (m / 52 - t) (omega (arith, a)) (omega (arith, a, b))
  where
    before_ramp : (u : ℕ) → ramp_count w n u m ≤ ramp_count w n u (m + 1)
    before_ramp u = before_never (ramp_begin w u) (ramp_begin (w + n) u) m

    at_ramp : (u : ℕ) → m / 52 ≡ u → 1 + ramp_count w n u m ≤ ramp_count w n u (m + 1)
    at_ramp u e = rw (← e) (before_rises (ramp_begin w (m / 52)) (ramp_begin (w + n) (m / 52)) m (in_ramp w n m l h).0
        (in_ramp w n m l h).1)

    by_ramp : (k : ℕ) → m / 52 ≡ t + k → k < 5
        → 1 + (ramp_count w n t m + ramp_count w n (t + 1) m + ramp_count w n (t + 2) m + ramp_count w n (t + 3) m
        + ramp_count w n (t + 4) m)
        ≤ ramp_count w n t (m + 1) + ramp_count w n (t + 1) (m + 1) + ramp_count w n (t + 2) (m + 1)
        + ramp_count w n (t + 3) (m + 1) + ramp_count w n (t + 4) (m + 1)
    by_ramp zero e k = grind arith
    by_ramp (suc zero) e k = grind arith
    by_ramp (suc (suc zero)) e k = omega (
      arith,
      before_ramp t,
      before_ramp (t + 1),
      at_ramp (t + 2) e,
      before_ramp (t + 3),
      before_ramp (t + 4),
    )
    by_ramp (suc (suc (suc zero))) e k = omega (
      arith,
      before_ramp t,
      before_ramp (t + 1),
      before_ramp (t + 2),
      at_ramp (t + 3) e,
      before_ramp (t + 4),
    )
    by_ramp (suc (suc (suc (suc zero)))) e k = omega (
      arith,
      before_ramp t,
      before_ramp (t + 1),
      before_ramp (t + 2),
      before_ramp (t + 3),
      at_ramp (t + 4) e,
    )
    by_ramp (suc (suc (suc (suc (suc k))))) e l = absurd (omega (arith, l))

-- where a count of places of word j is 1 in the window alone
abbrev pub IsWithin : (w n j : ℕ) → (ℕ → ℕ) → Type 0
IsWithin w n j g = (m : ℕ) → 207 * j ≤ m → m < 207 * j + 207
    → (g m ≡ 0) ⊎ ((g m ≡ 1) × (w ≤ air_place m) × (air_place m < w + n))

counted : (w n t m : ℕ) (g : ℕ → ℕ) → 52 * t ≤ m → m < 52 * (t + 5)
    → (g m ≡ 0) ⊎ ((g m ≡ 1) × (w ≤ air_place m) × (air_place m < w + n))
    → g m + five_counts w n t m ≤ five_counts w n t (m + 1)
counted w n t m g a b (inl z) = omega (arith, z, never w n t m)
counted w n t m g a b (inr (o, l, u)) = omega (arith, o, rises w n t m a b l u)

within_window : (w n j most : ℕ) (g : ℕ → ℕ) → IsWithin w n j g
    → ((t r : ℕ) → r < 52 → five_counts w n t (52 * t + r + 207) ≤ five_counts w n t (52 * t + r) + most)
    → total g (207 * j) 207 ≤ most
within_window w n j most g h few =
    let t : ℕ = 207 * j / 52 in
    let r : ℕ = 207 * j % 52 in
    let at : 52 * t + r ≡ 207 * j = omega arith in
    omega (
      arith,
      (subst (λ (m : ℕ). five_counts w n t (m + 207) ≤ five_counts w n t m + most) at (few t r (omega arith))),
      total_rises (five_counts w n t) g (207 * j) 207
          (λ i l m. counted w n t i g (omega arith) (omega arith) (h i l m)),
    )

pub at_most_ten : (w j : ℕ) (g : ℕ → ℕ) → IsWithin w 522 j g → total g (207 * j) 207 ≤ 10
at_most_ten w j g h = within_window w 522 j 10 g h (few_ten w)

pub at_most_twenty : (w j : ℕ) (g : ℕ → ℕ) → IsWithin w 1045 j g → total g (207 * j) 207 ≤ 20
at_most_twenty w j g h = within_window w 1045 j 20 g h (few_twenty w)

-- two bytes of a word that are more than 1,046 places apart
pub no_nearer : (j k m : ℕ) → 207 * j ≤ k → k < 207 * j + 207 → 207 * j ≤ m → m < 207 * j + 207
    → air_place k + 1047 ≤ air_place m → air_place k + 1097 ≤ air_place m
no_nearer j k m a b c d l = omega (arith, a, b, c, d, l)
