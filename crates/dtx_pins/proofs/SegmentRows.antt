-- The symbols of the coders in a segment, and a list of rows of which those of a segment were written.
use Rattle.std.proofs.Common.{◌≡◌, ℕ, ℤ, pos, ◌+◌, ◌-◌, ◌*◌, ◌/◌, ◌%◌, ◌<◌, ◌≤◌, List, [], length, take, drop, get_or}
use Rattle.std.proofs.Common.{◌∙◌, arith}
use Rattle.std.proofs.lemmas.List.{get_or-append_right, get_or-drop, get_or-take, get_or_append_left, length-take-le}
use Rattle.std.proofs.lemmas.List.FromFn.{get_or-map-range_with_len}
use borrow.Rule.Slice.PartMut.{put_mid}
use Rattle.dtx_slice.specs.Unrolled.{symbol_place}
use Rattle.dtx_soft.specs.Coders.{coder_symbols, data_symbol}

-- ---- symbols

place_segment : (t e : ℕ) → symbol_place 0 t e / 828 ≡ t / 69
unfolding symbol_place
place_segment t e = omega arith

-- which of the twelve symbols of a round
place_round : (t e : ℕ) → symbol_place 0 t e % 828 ≡ 12 * (t % 69) + (e + 12 - 4 * ((0 + t / 69) % 3)) % 12
unfolding symbol_place
place_round t e = omega arith

-- the symbol of coder e in round r of segment i
pub symbol_in_segment : (heard : List (List ℤ)) (turn i r e : ℕ) → i < length heard → r < 69 → turn ≡ i % 3
    → get_or (coder_symbols heard e) (69 * i + r) (pos 0)
    ≡ get_or (get_or heard i []) (4 + 12 * r + (e + 12 - 4 * turn) % 12) (pos 0)
unfolding coder_symbols data_symbol
symbol_in_segment heard turn i r e l m n = grind (arith, get_or-map-range_with_len, place_segment, place_round)

-- ---- rows

pub part_row : (at k r : ℕ) (rows : List (List ℕ)) → r < k
    → get_or (take k (drop at rows)) r [] ≡ get_or rows (at + r) []
part_row at k r rows l = get_or-take k (drop at rows) r [] l ∙ get_or-drop at rows r []

pub row_before : (at k i : ℕ) (rows part : List (List ℕ)) → at ≤ length rows → i < at
    → get_or (put_mid at k rows part) i [] ≡ get_or rows i []
row_before at k i rows part h l = grind (arith, get_or_append_left, length-take-le, get_or-take)

pub row_within : (at k r : ℕ) (rows part : List (List ℕ)) → at ≤ length rows → r < length part
    → get_or (put_mid at k rows part) (at + r) [] ≡ get_or part r []
row_within at k r rows part h l = grind (arith, get_or-append_right, length-take-le, get_or_append_left)

pub row_behind : (at k i : ℕ) (rows part : List (List ℕ)) → at ≤ length rows → length part ≡ k → at + k ≤ i
    → get_or (put_mid at k rows part) i [] ≡ get_or rows i []
row_behind at k i rows part h long l = grind (arith, get_or-append_right, length-take-le, get_or-drop)
