-- A burst is slight damage.
use Rattle.std.proofs.Common.{◌≡◌, ℕ, ℤ, ◌+◌, ◌-◌, ◌*◌, ◌<◌, ◌≤◌, ◌==◌, ◌⊎◌, cond, inl, inr, Bool, true, List, length}
use Rattle.std.proofs.Common.{drop, get_or, subst, arith}
use Rattle.std.proofs.lemmas.Bool.{cases_lt, eq-eqb}
use Rattle.dtx_laws.specs.Codeword.{distance}
use Rattle.dtx_frame.proofs.CountsLemmas.{total}
use Rattle.dtx_outer.specs.Inner.{IsComplete, word_at}
use Rattle.dtx_outer.proofs.WordsLemmas.{length-word, get_or-word}
use Rattle.dtx_receiver.specs.Bytes.{groups_of, bytes_in}
use Rattle.dtx_chain.specs.Damage.{ArePackets, AreReceived, AreFound, IsNear, IsSlight, from_sync, to_sync}
use Rattle.dtx_chain.specs.Damage.{packet_behind, word_in}
use Rattle.dtx_bursts.specs.Burst.{IsBurst}
use Rattle.dtx_bursts.proofs.Bytes.{AreAlike, DifferWithin, off_byte}
use Rattle.dtx_bursts.proofs.Counting.{distance_within}
use Rattle.dtx_bursts.proofs.Moved.{alike_moved, differ_moved, no_word, sent_word}
use Rattle.dtx_bursts.proofs.Places.{begin_of, end_of}
use Rattle.dtx_bursts.proofs.Spread.{air_place}
use Rattle.dtx_bursts.proofs.Window.{AreTouched, byte_there, failing, few_in_ten}

abbrev pub differs : ℕ → ℕ → ℕ
differs x y = cond (x == y) 0 1

-- whether byte m of the codewords is the same in two runs
abbrev pub same_at : List (List ℤ) → List (List ℤ) → ℕ → Bool
same_at a b m = get_or (bytes_in a) (air_place m) 0 == get_or (bytes_in b) (air_place m) 0

touched : (a b : List (List ℤ)) (count from j : ℕ) → AreAlike a b → DifferWithin count from a b
    → IsComplete 207 52 4 (828 * groups_of a) j → AreTouched count from j (same_at a b)
touched a b count from j h d c m l u =
    by_side (cases_lt (end_of (air_place m)) from) (cases_lt (begin_of (air_place m)) (from + count))
  where
    off : (end_of (air_place m) < from) ⊎ (from + count ≤ begin_of (air_place m)) → same_at a b m ≡ true
    off x = eq-eqb (get_or (bytes_in a) (air_place m) 0) (get_or (bytes_in b) (air_place m) 0)
        (off_byte a b count from (air_place m) h d (byte_there (828 * groups_of a) j m c l u) x)

    by_side : (end_of (air_place m) < from) ⊎ (from ≤ end_of (air_place m))
        → (begin_of (air_place m) < from + count) ⊎ (from + count ≤ begin_of (air_place m))
        → (same_at a b m ≡ true) ⊎ ((from ≤ end_of (air_place m)) × (begin_of (air_place m) < from + count))
    by_side (inl x) y = inl (off (inl x))
    by_side (inr x) (inl y) = inr (x, y)
    by_side (inr x) (inr y) = inl (off (inr y))

-- in how many places word j of two runs differs
pub distance_by : (a b : List (List ℤ)) (j : ℕ)
    → distance (word_at 207 52 4 (bytes_in a) j) (word_at 207 52 4 (bytes_in b) j)
    ≤ total (failing (same_at a b)) (207 * j) 207
distance_by a b j = subst (λ (n : ℕ). distance (word_at 207 52 4 (bytes_in a) j) (word_at 207 52 4 (bytes_in b) j)
    ≤ total (failing (same_at a b)) (207 * j) n) (length-word 207 52 4 (bytes_in a) j)
    (grind (arith, distance_within, failing, each))
  where
    each : (i : ℕ) → i < length (word_at 207 52 4 (bytes_in a) j)
        → cond (get_or (word_at 207 52 4 (bytes_in a) j) i 0 == get_or (word_at 207 52 4 (bytes_in b) j) i 0) 0 1
        ≤ failing (same_at a b) (207 * j + i)
    each i l = grind (arith, length-word, get_or-word)

-- the words of two runs
pub words_near : (a b : List (List ℤ)) (from j : ℕ) → AreAlike a b → DifferWithin 2022 from a b
    → IsComplete 207 52 4 (828 * groups_of a) j
    → distance (word_at 207 52 4 (bytes_in a) j) (word_at 207 52 4 (bytes_in b) j) ≤ 10
words_near a b from j h d c = through (distance (word_at 207 52 4 (bytes_in a) j) (word_at 207 52 4 (bytes_in b) j))
    (total (failing (same_at a b)) (207 * j) 207) (distance_by a b j)
    (few_in_ten from j (same_at a b) (touched a b 2022 from j h d c))
  where
    through : (x y : ℕ) → x ≤ y → y ≤ 10 → x ≤ 10
    through x y l m = omega (arith, l, m)

-- ---- a stream

-- where there is a field sync
near_behind : (ps : List (List ℕ)) (first from j : ℕ) (sent got : List (List ℤ)) → AreReceived ps first sent got
    → ArePackets ps → IsBurst 2022 from sent got → to_sync first < length sent
    → IsComplete 207 52 4 (828 * groups_of (from_sync first got)) j
    → IsNear ps (packet_behind first + j) (word_in first got j)
unfolding word_in from_sync
near_behind ps first from j sent got r p burst l c = rw (← sent_word ps first j sent got r p l c)
    (words_near (drop (to_sync first) got) (drop (to_sync first) sent) (from - 832 * to_sync first) j
    (alike_moved ps first (to_sync first) sent got r l) (grind (arith, differ_moved)) c)

near : (ps : List (List ℕ)) (first from j : ℕ) (sent got : List (List ℤ)) → AreReceived ps first sent got
    → ArePackets ps → IsBurst 2022 from sent got → IsComplete 207 52 4 (828 * groups_of (from_sync first got)) j
    → (to_sync first < length sent) ⊎ (length sent ≤ to_sync first)
    → IsNear ps (packet_behind first + j) (word_in first got j)
near ps first from j sent got r p burst c (inl l) = near_behind ps first from j sent got r p burst l c
near ps first from j sent got r p burst c (inr l) = absurd (no_word first got j (omega (arith, l, r.as_many)) c)

pub burst_slight : (ps : List (List ℕ)) (first from : ℕ) (sent got : List (List ℤ)) → AreReceived ps first sent got
    → ArePackets ps → AreFound first sent got → IsBurst 2022 from sent got → IsSlight ps first sent got
burst_slight ps first from sent got r p found burst = grind (arith, near, cases_lt)
