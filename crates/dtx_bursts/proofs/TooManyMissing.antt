-- One missing symbol more in a row can be too many: a stream's first packet shows it.
use Rattle.std.proofs.Common.{◌≡◌, ℕ, ℤ, negsuc, ◌+◌, ◌*◌, ◌/◌, ◌<◌, ◌≤◌, ◌⊎◌, cond, nat_le, nat_lt, ◌&&◌, ◌||◌, inl}
use Rattle.std.proofs.Common.{inr, not, Bool, true, false, List, [], ◌∷◌, length, get_or, refl, sym, subst, arith}
use Rattle.std.proofs.lemmas.Bool.{and_parts, cases_lt, leb-true, ltb-true, or_cases}
use Rattle.dtx_lists.proofs.Below.{holds_below, at_below}
use Rattle.dtx_trellis.specs.Trellis.{symbol_of}
use Rattle.dtx_slice.specs.Unrolled.{symbol_place, coder_of}
use Rattle.dtx_frame.proofs.CountsLemmas.{total}
use Rattle.dtx_frame.proofs.SlicesLemmas.{sliced_symbol}
use Rattle.dtx_coder.specs.Stream.{a53}
use Rattle.dtx_receiver.specs.Bytes.{groups_of}
use Rattle.dtx_erase.specs.Marks.{is_missing, is_marked, marks_in}
use Rattle.dtx_erase.specs.Mended.{marks_at}
use Rattle.dtx_erase.specs.Mending.{lost}
use Rattle.dtx_erase.proofs.UnmarkedLemmas.{length-marks}
use Rattle.dtx_chain.specs.Damage.{AreReceived, AreFound, from_sync, to_sync}
use Rattle.dtx_bursts.specs.Burst.{IsGap, symbol_at, symbol_level}
use Rattle.dtx_bursts.proofs.Bytes.{AreAlike, same_groups, symbol_within}
use Rattle.dtx_bursts.proofs.Counting.{lost_least, no_fewer, rising}
use Rattle.dtx_bursts.proofs.Marks.{MarkedOrNot, marked_or_not}
use Rattle.dtx_bursts.proofs.Mended.{gap_is_burst}
use Rattle.dtx_bursts.proofs.Missing.{mark_at}
use Rattle.dtx_bursts.proofs.Places.{begin_of, end_of, position_of}
use Rattle.dtx_bursts.proofs.Replaced.{are_replaced, inside, level_eight, outside, replaced, row, symbol_replaced}
use Rattle.dtx_bursts.proofs.Spread.{air_place}
use Rattle.dtx_bursts.proofs.Syncs.{burst_found}
use Rattle.dtx_bursts.proofs.TooMany.{enough_groups, first_complete, leaves, some_segments, whole_stream}
use Rattle.dtx_bursts.proofs.Window.{never_both}

-- the symbol of a symbol's level
decided : List (List ℤ) → ℕ → ℤ
decided sent p = symbol_of (symbol_level sent p)

-- a stream of which 4,142 symbols in a row are missing, from symbol 19,982 on
gapped : List (List ℕ) → List (List ℤ)
gapped ps = replaced (row 4142 19982 (λ p. negsuc 127) (decided (a53 ps))) (length (a53 ps))

missing_inside : (ps : List (List ℕ)) (p : ℕ) → p < 832 * length (a53 ps) → 19982 ≤ p → p < 19982 + 4142
    → is_missing (symbol_at (gapped ps) p) ≡ true
unfolding gapped
missing_inside ps p l a b = grind (arith, symbol_replaced, row, decided, inside)

left_outside : (ps : List (List ℕ)) (p : ℕ) → p < 832 * length (a53 ps) → (p < 19982) ⊎ (19982 + 4142 ≤ p)
    → symbol_at (gapped ps) p ≡ symbol_of (symbol_level (a53 ps) p)
unfolding gapped decided
left_outside ps p l side = grind (arith, symbol_replaced, row, decided, outside)

there_test : holds_below (λ z. not (is_missing (symbol_of z))) 8 ≡ true
unfolding symbol_of
there_test = refl

is_there : (z : ℕ) → z < 8 → is_missing (symbol_of z) ≡ false
is_there z l = none (is_missing (symbol_of z)) (at_below (λ z. not (is_missing (symbol_of z))) 8 z there_test l)
  where
    none : (b : Bool) → not b ≡ true → b ≡ false
    none true e = cc
    none false e = refl

gapped_received : (ps : List (List ℕ)) → AreReceived ps 0 (a53 ps) (gapped ps)
unfolding gapped
gapped_received ps = are_replaced ps (row 4142 19982 (λ p. negsuc 127) (decided (a53 ps)))

gapped_gap : (ps : List (List ℕ)) → IsGap 4142 19982 (a53 ps) (gapped ps)
unfolding symbol_level
gapped_gap ps =
    grind (arith, cases_lt, gapped, left_outside, sliced_symbol, level_eight, missing_inside, never_both, is_there)

gapped_found : (ps : List (List ℕ)) → AreFound 0 (a53 ps) (gapped ps)
gapped_found ps = burst_found ps 0 4142 19982 (a53 ps) (gapped ps) (gapped_received ps)
    (leaves 4142 19982 (length (a53 ps)) (omega arith) (omega arith)) (grind (arith, gap_is_burst, gapped, gapped_gap))

-- ---- twenty-one bytes of packet 0

-- whether byte m of the codewords hangs on them, by its last symbol or by its first
hangs : ℕ → Bool
hangs m = (nat_lt m 207 && (nat_le 19982 (end_of (air_place m)) && nat_lt (end_of (air_place m)) 24124))
    || (nat_lt m 207 && (nat_le 19982 (begin_of (air_place m)) && nat_lt (begin_of (air_place m)) 24124))

twenty_one : List ℕ
twenty_one = 23 ∷ 24 ∷ 25 ∷ 26 ∷ 27 ∷ 75 ∷ 76 ∷ 77 ∷ 78 ∷ 79 ∷ 127 ∷ 128 ∷ 129 ∷ 130 ∷ 131 ∷ 178 ∷ 179 ∷ 180 ∷ 181 ∷ 182
    ∷ 183 ∷ []

they_hang : rising hangs 0 twenty_one 207 ≡ true
unfolding hangs twenty_one position_of symbol_place coder_of
they_hang = refl

hangs_at : (m : ℕ) → hangs m ≡ true → (m < 207) × (((19982 ≤ end_of (air_place m)) × (end_of (air_place m) < 24124))
    ⊎ ((19982 ≤ begin_of (air_place m)) × (begin_of (air_place m) < 24124)))
unfolding hangs
hangs_at m t = grind (arith, or_cases, end_of, air_place, begin_of, and_parts, ltb-true, leb-true)

same : (ps : List (List ℕ)) → groups_of (gapped ps) ≡ groups_of (a53 ps)
same ps = same_groups (a53 ps) (gapped ps) (gapped_received ps).as_many

some : (ps : List (List ℕ)) → 52 ≤ length ps → 0 < length (gapped ps)
some ps l = omega (arith, (gapped_received ps).as_many, some_segments ps l)

-- a byte that hangs on them is marked
marked : (ps : List (List ℕ)) (y : ℕ) → 52 ≤ length ps → y < 10764
    → ((19982 ≤ end_of y) × (end_of y < 24124)) ⊎ ((19982 ≤ begin_of y) × (begin_of y < 24124))
    → is_marked (gapped ps) y ≡ true
marked ps y l m h = by_mark (grind (arith, marked_or_not, gapped, gapped_received, some, same, enough_groups)) h
  where
    within : (i : ℕ) → i < 5 → position_of (4 * (y / 12) + i) (coder_of 0 y) < 832 * length (a53 ps)
    within i k = symbol_within (a53 ps) y i (some_segments ps l) (omega (arith, m, enough_groups ps l)) k

    start : 4 * (y / 12) ≡ 4 * (y / 12) + 0
    start = omega arith

    by_mark : MarkedOrNot (gapped ps) y
        → ((19982 ≤ end_of y) × (end_of y < 24124)) ⊎ ((19982 ≤ begin_of y) × (begin_of y < 24124))
        → is_marked (gapped ps) y ≡ true
    by_mark (inl (i, k, e, t)) h = t
    by_mark (inr (none, t)) (inl (a, b)) = absurd (never_both (is_missing (symbol_at (gapped ps) (end_of y)))
        (missing_inside ps (end_of y) (within 4 (omega arith)) a b) (none 4 (omega arith)))
    by_mark (inr (none, t)) (inr (a, b)) =
        absurd (grind (arith, never_both, gapped, position_of, missing_inside, within, start))

-- 1 where byte m of the codewords is marked
flag_at : List (List ℕ) → ℕ → ℕ
flag_at ps m = cond (is_marked (gapped ps) (air_place m)) 1 0

flags : (ps : List (List ℕ)) → 52 ≤ length ps → (m : ℕ) → hangs m ≡ true → flag_at ps m ≡ 1
unfolding flag_at
flags ps l m t = grind (arith, hangs_at, marked, air_place)

many_lost : (ps : List (List ℕ)) → 52 ≤ length ps → 21 ≤ lost (marks_at (marks_in (gapped ps)) 0)
unfolding flag_at twenty_one
many_lost ps l =
    let least : total (flag_at ps) 0 207 ≤ lost (marks_at (marks_in (gapped ps)) 0) =
    subst (λ (n : ℕ). total (flag_at ps) 0 n ≤ lost (marks_at (marks_in (gapped ps)) 0))
    (length-marks (marks_in (gapped ps)) 0) (lost_least (flag_at ps) 0 (marks_at (marks_in (gapped ps)) 0) each) in
    through (total (flag_at ps) 0 207) _ (no_fewer (flag_at ps) hangs (flags ps l) twenty_one 0 207 they_hang) least
  where
    through : (x y : ℕ) → 21 ≤ x → x ≤ y → 21 ≤ y
    through x y a b = omega (arith, a, b)

    alike : AreAlike (gapped ps) (a53 ps)
    alike = record {
      first = (gapped_received ps).long;
      second = whole_stream ps;
      some = some ps l;
      as_long = sym (gapped_received ps).as_many;
    }

    flag : (x y : Bool) → x ≡ y → cond y 1 0 ≤ cond x 1 0
    flag true true e = omega arith
    flag false false e = omega arith
    flag true false e = cc
    flag false true e = cc

    each : (i : ℕ) → i < length (marks_at (marks_in (gapped ps)) 0)
        → flag_at ps (0 + i) ≤ cond (get_or (marks_at (marks_in (gapped ps)) 0) i false) 1 0
    each i m = flag (get_or (marks_at (marks_in (gapped ps)) 0) i false) (is_marked (gapped ps) (air_place (0 + i)))
        (grind (arith, mark_at, gapped, alike, first_complete, same, length-marks))

first_lost : (ps : List (List ℕ)) → 52 ≤ length ps → 21 ≤ lost (marks_at (marks_in (from_sync 0 (gapped ps))) 0)
unfolding to_sync from_sync
first_lost ps l = many_lost ps l

pub one_more : (ps : List (List ℕ)) → 52 ≤ length ps
    → (got : List (List ℤ)) × AreReceived ps 0 (a53 ps) got × AreFound 0 (a53 ps) got
    × IsGap 4142 19982 (a53 ps) got × (21 ≤ lost (marks_at (marks_in (from_sync 0 got)) 0))
one_more ps l = (gapped ps, gapped_received ps, gapped_found ps, gapped_gap ps, first_lost ps l)
