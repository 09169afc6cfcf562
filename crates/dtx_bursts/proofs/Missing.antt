-- Missing symbols in a row mark few bytes of each word, and leave the others as they were.
use Rattle.std.proofs.Common.{◌≡◌, ℕ, ℤ, ◌+◌, ◌*◌, ◌<◌, ◌≤◌, ◌⊎◌, cond, not, inl, inr, Bool, true, false, List, length}
use Rattle.std.proofs.Common.{map, get_or, refl, ap, ◌∙◌, subst, arith}
use Rattle.std.proofs.lemmas.List.FromFn.{get_or-map-range_with_len}
use Rattle.std.specs.List.{range_with_len}
use Rattle.dtx_frame.proofs.CountsLemmas.{total}
use Rattle.dtx_outer.specs.Inner.{codeword_byte_place, IsComplete, word_at}
use Rattle.dtx_outer.proofs.WordsLemmas.{get_or-word}
use Rattle.dtx_receiver.specs.Bytes.{groups_of, bytes_in}
use Rattle.dtx_erase.specs.Marks.{is_missing, is_marked, marks_in}
use Rattle.dtx_erase.specs.Mended.{marks_at}
use Rattle.dtx_erase.specs.Mending.{lost, unmarked_distance}
use Rattle.dtx_erase.proofs.UnmarkedLemmas.{length-marks}
use Rattle.dtx_bursts.specs.Burst.{symbol_at, symbol_level}
use Rattle.dtx_bursts.proofs.Bytes.{AreAlike, byte_stays, length-run, not_before, not_behind, symbol_within}
use Rattle.dtx_bursts.proofs.Counting.{lost_within, none_unmarked}
use Rattle.dtx_bursts.proofs.Marks.{MarkedOrNot, marked_or_not}
use Rattle.dtx_bursts.proofs.Places.{begin_of, end_of, position_of}
use Rattle.dtx_bursts.proofs.Spread.{air_place}
use Rattle.dtx_bursts.proofs.Window.{AreTouched, byte_there, failing, few_in_twenty, never_both}

-- a run and what was received of it
pub record AreMissing (count from : ℕ) (a b : List (List ℤ)) : Type 0 where
  pub there : (n : ℕ) → n < 832 * length a
      → (is_missing (symbol_at a n) ≡ true) ⊎ (symbol_level a n ≡ symbol_level b n)
  pub missing : (n : ℕ) → n < 832 * length a → is_missing (symbol_at a n) ≡ true → (from ≤ n) × (n < from + count)

-- a byte is marked and hangs on those, or isn't and is as it was
abbrev IsToldOf : (count from : ℕ) (a b : List (List ℤ)) (y : ℕ) → Type 0
IsToldOf count from a b y = ((is_marked a y ≡ true) × (from ≤ end_of y) × (begin_of y < from + count))
    ⊎ ((is_marked a y ≡ false) × (get_or (bytes_in a) y 0 ≡ get_or (bytes_in b) y 0))

told : (count from : ℕ) (a b : List (List ℤ)) (y : ℕ) → AreAlike a b → AreMissing count from a b
    → y < 828 * groups_of a → MarkedOrNot a y → IsToldOf count from a b y
told count from a b y h gap l (inl (i, m, lost, marked)) =
    grind (arith, position_of, symbol_within, not_behind, not_before)
told count from a b y h gap l (inr (seen, unmarked)) = grind (arith, byte_stays, position_of, symbol_within, never_both)

-- ---- a word

pub mark_at : (a b : List (List ℤ)) (j i : ℕ) → AreAlike a b → IsComplete 207 52 4 (828 * groups_of a) j → i < 207
    → get_or (marks_at (marks_in a) j) i false ≡ is_marked a (air_place (207 * j + i))
unfolding marks_at marks_in
mark_at a b j i h c l =
    get_or-map-range_with_len (λ p. get_or (map (is_marked a) (range_with_len 0 (length (bytes_in a))))
    (codeword_byte_place 52 4 p) false) (207 * j) 207 i (207 * j + i) false l refl
    ∙ get_or-map-range_with_len (is_marked a) 0 (length (bytes_in a)) (air_place (207 * j + i))
    (air_place (207 * j + i)) false (rw (length-run a h.first) (c i l)) (omega arith)

-- whether byte m of the codewords isn't marked
abbrev unmarked_at : List (List ℤ) → ℕ → Bool
unmarked_at a m = not (is_marked a (air_place m))

touched : (a b : List (List ℤ)) (count from j : ℕ) → AreAlike a b → AreMissing count from a b
    → IsComplete 207 52 4 (828 * groups_of a) j → AreTouched count from j (unmarked_at a)
touched a b count from j h gap c m l u =
    elim (told count from a b (air_place m) h gap (byte_there (828 * groups_of a) j m c l u)
    (marked_or_not a (air_place m) h.first h.some (byte_there (828 * groups_of a) j m c l u))) [
      | inl (e, x, y) ↦ inr (x, y)
      | inr (e, s) ↦ inl (ap not e)
    ]

pub few_lost : (a b : List (List ℤ)) (from j : ℕ) → AreAlike a b → AreMissing 4141 from a b
    → IsComplete 207 52 4 (828 * groups_of a) j → lost (marks_at (marks_in a) j) ≤ 20
few_lost a b from j h gap c = through (lost (marks_at (marks_in a) j)) (total (failing (unmarked_at a)) (207 * j) 207)
    (subst (λ (n : ℕ). lost (marks_at (marks_in a) j) ≤ total (failing (unmarked_at a)) (207 * j) n)
    (length-marks (marks_in a) j) (lost_within (failing (unmarked_at a)) (207 * j) (marks_at (marks_in a) j) each))
    (few_in_twenty from j (unmarked_at a) (touched a b 4141 from j h gap c))
  where
    through : (x y : ℕ) → x ≤ y → y ≤ 20 → x ≤ 20
    through x y l m = omega (arith, l, m)

    flag : (x y : Bool) → x ≡ y → cond x 1 0 ≤ cond (not y) 0 1
    flag true true e = omega arith
    flag false false e = omega arith
    flag true false e = cc
    flag false true e = cc

    each : (i : ℕ) → i < length (marks_at (marks_in a) j)
        → cond (get_or (marks_at (marks_in a) j) i false) 1 0 ≤ failing (unmarked_at a) (207 * j + i)
    each i l = grind (arith, air_place, mark_at, length-marks)

pub none_wrong : (a b : List (List ℤ)) (count from j : ℕ) → AreAlike a b → AreMissing count from a b
    → IsComplete 207 52 4 (828 * groups_of a) j
    → unmarked_distance (marks_at (marks_in a) j) (word_at 207 52 4 (bytes_in a) j) (word_at 207 52 4 (bytes_in b) j)
    ≡ 0
none_wrong a b count from j h gap c =
    grind (arith, none_unmarked, length-marks, told, air_place, marked_or_not, mark_at, get_or-word)
