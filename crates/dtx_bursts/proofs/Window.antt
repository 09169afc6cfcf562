-- Where the places of a word that fail a test hang on symbols in a row, they are few.
use Rattle.std.proofs.Common.{◌≡◌, ℕ, ◌+◌, ◌*◌, ◌<◌, ◌≤◌, ◌⊎◌, cond, inl, inr, Bool, true, false, ap, arith, ◌-◌}
use Rattle.std.proofs.lemmas.Bool.{cases_lt}
use Rattle.dtx_frame.proofs.CountsLemmas.{total}
use Rattle.dtx_outer.specs.Inner.{IsComplete}
use Rattle.dtx_bursts.proofs.Least.{IsLeast, AllPass, least_by}
use Rattle.dtx_bursts.proofs.Places.{begin_of, end_of, apart_ten, apart_twenty}
use Rattle.dtx_bursts.proofs.Spread.{air_place, IsWithin, at_most_ten, at_most_twenty, no_nearer}

-- Each place of word j at which the test fails hangs on the symbols from one on, so many.
abbrev pub AreTouched : (count from j : ℕ) → (ℕ → Bool) → Type 0
AreTouched count from j p = (m : ℕ) → 207 * j ≤ m → m < 207 * j + 207
    → (p m ≡ true) ⊎ ((from ≤ end_of (air_place m)) × (begin_of (air_place m) < from + count))

-- Two bytes of word j that stand n places apart or more hang on symbols that are further apart than so many in a row.
abbrev pub AreApart : (count n j : ℕ) → Type 0
AreApart count n j = (k m : ℕ) → 207 * j ≤ k → k < 207 * j + 207 → 207 * j ≤ m → m < 207 * j + 207
    → air_place k + n ≤ air_place m → end_of (air_place k) + count ≤ begin_of (air_place m)

pub never_both : (b : Bool) → b ≡ true → b ≡ false → ⊥
never_both true t f = cc
never_both false t f = cc

-- a byte of a word that is all there
pub byte_there : (given j m : ℕ) → IsComplete 207 52 4 given j → 207 * j ≤ m → m < 207 * j + 207 → air_place m < given
byte_there given j m c l u =
    let z : 207 * j + (m - 207 * j) ≡ m = omega (arith, l) in
    rw (← z) (c (m - 207 * j) (omega (arith, l, u)))

-- 1 where the test fails
abbrev pub failing : (ℕ → Bool) → ℕ → ℕ
failing p m = cond (p m) 0 1

window_from : (count n from j : ℕ) (p : ℕ → Bool) → AreTouched count from j p → AreApart count n j → (k : ℕ)
    → IsLeast p air_place (207 * j) 207 k → IsWithin (air_place k) n j (failing p)
window_from count n from j p touched apart k h m l u = grind (arith, end_of, air_place, begin_of, never_both, cases_lt)

-- the number of them
by_least : (count n from j most : ℕ) (p : ℕ → Bool) → AreTouched count from j p → AreApart count n j
    → ((w : ℕ) → IsWithin w n j (failing p) → total (failing p) (207 * j) 207 ≤ most)
    → ((k : ℕ) × IsLeast p air_place (207 * j) 207 k) ⊎ AllPass p (207 * j) 207 → total (failing p) (207 * j) 207 ≤ most
by_least count n from j most p touched apart few (inl (k, h)) = few (air_place k) (grind (arith, window_from))
by_least count n from j most p touched apart few (inr pass) = few 0 (λ m l u. inl (ap (λ b. cond b 0 1) (pass m l u)))

apart_in_ten : (j : ℕ) → AreApart 2022 522 j
apart_in_ten j k m a b c d l = apart_ten (air_place k) (air_place m) l

pub few_in_ten : (from j : ℕ) (p : ℕ → Bool) → AreTouched 2022 from j p → total (failing p) (207 * j) 207 ≤ 10
few_in_ten from j p touched = by_least 2022 522 from j 10 p touched (apart_in_ten j) (λ w. at_most_ten w j (failing p))
    (least_by p air_place (207 * j) 207)

apart_in_twenty : (j : ℕ) → AreApart 4141 1045 j
apart_in_twenty j k m a b c d l = grind (arith, apart_twenty, air_place, cases_lt, no_nearer)

pub few_in_twenty : (from j : ℕ) (p : ℕ → Bool) → AreTouched 4141 from j p → total (failing p) (207 * j) 207 ≤ 20
few_in_twenty from j p touched =
    by_least 4141 1045 from j 20 p touched (apart_in_twenty j) (λ w. at_most_twenty w j (failing p))
    (least_by p air_place (207 * j) 207)
