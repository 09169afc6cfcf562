-- One symbol more in a row can be too many: a stream's first packet shows it.
use Rattle.std.proofs.Common.{◌≡◌, ℕ, ℤ, ◌+◌, ◌-◌, ◌*◌, ◌/◌, ◌%◌, ◌<◌, ◌≤◌, ◌⊎◌, nat_le, nat_lt, ◌&&◌, ◌||◌, inl, inr}
use Rattle.std.proofs.Common.{Bool, true, List, [], ◌∷◌, length, get_or, refl, sym, subst, arith, max, min}
use Rattle.std.proofs.lemmas.Bool.{and_parts, cases_lt, cond-false, leb-true, ltb-true, ne_eqb, or_cases}
use Rattle.dtx_laws.specs.Codeword.{distance}
use Rattle.dtx_trellis.specs.Trellis.{symbol_of}
use Rattle.dtx_slice.specs.Unrolled.{symbol_place, coder_of}
use Rattle.dtx_frame.proofs.CountsLemmas.{total}
use Rattle.dtx_frame.proofs.SlicesLemmas.{sliced_symbol}
use Rattle.dtx_outer.specs.Inner.{IsComplete, word_at}
use Rattle.dtx_outer.proofs.WordsLemmas.{length-word, get_or-word}
use Rattle.dtx_coder.specs.Stream.{a53}
use Rattle.dtx_coder.proofs.CountsLemmas.{a53_segment, length-a53}
use Rattle.dtx_receiver.specs.Bytes.{groups_of, bytes_in}
use Rattle.dtx_chain.specs.Damage.{ArePackets, AreReceived, AreFound, codeword_at, from_sync, packet_behind, to_sync}
use Rattle.dtx_chain.specs.Damage.{word_in}
use Rattle.dtx_chain.proofs.LevelsLemmas.{groups_are}
use Rattle.dtx_bursts.specs.Burst.{IsBurst, LeavesSyncs, symbol_at, symbol_level}
use Rattle.dtx_bursts.proofs.Apart.{apart_by_first, apart_by_last}
use Rattle.dtx_bursts.proofs.Bytes.{AreWhole, same_groups, symbol_within}
use Rattle.dtx_bursts.proofs.Counting.{distance_least, no_fewer, rising}
use Rattle.dtx_bursts.proofs.Moved.{sent_word}
use Rattle.dtx_bursts.proofs.Places.{begin_of, end_of, position_of}
use Rattle.dtx_bursts.proofs.Replaced.{are_replaced, inside, level_eight, outside, replaced, row, symbol_replaced}
use Rattle.dtx_bursts.proofs.Slight.{differs}
use Rattle.dtx_bursts.proofs.Spread.{air_place}
use Rattle.dtx_bursts.proofs.Syncs.{burst_found}

-- a symbol of the opposite level: seven less its own
opposite : List (List ℤ) → ℕ → ℤ
opposite sent p = symbol_of (7 - symbol_level sent p)

-- a stream of which 2,023 symbols in a row are opposite, from symbol 25,425 on
turned : List (List ℕ) → List (List ℤ)
turned ps = replaced (row 2023 25425 (opposite (a53 ps)) (symbol_at (a53 ps))) (length (a53 ps))

level_turned : (ps : List (List ℕ)) (p : ℕ) → p < 832 * length (a53 ps) → 25425 ≤ p → p < 25425 + 2023
    → symbol_level (turned ps) p ≡ 7 - symbol_level (a53 ps) p
unfolding turned opposite symbol_level
level_turned ps p l a b = grind (arith, symbol_replaced, row, opposite, inside, sliced_symbol)

level_left : (ps : List (List ℕ)) (p : ℕ) → p < 832 * length (a53 ps) → (p < 25425) ⊎ (25425 + 2023 ≤ p)
    → symbol_level (turned ps) p ≡ symbol_level (a53 ps) p
unfolding turned symbol_level
level_left ps p l side = grind (arith, symbol_replaced, row, opposite, outside)

turned_received : (ps : List (List ℕ)) → AreReceived ps 0 (a53 ps) (turned ps)
unfolding turned
turned_received ps = are_replaced ps (row 2023 25425 (opposite (a53 ps)) (symbol_at (a53 ps)))

turned_burst : (ps : List (List ℕ)) → IsBurst 2023 25425 (a53 ps) (turned ps)
turned_burst ps = record { others = λ n l side. level_left ps n l side }

pub leaves : (count from segments : ℕ) → 483 ≤ from → from + count ≤ 260000 → LeavesSyncs 0 count from segments
unfolding to_sync
leaves count from segments a b = record { behind = omega arith; few = λ i l z. by_first i z (cases_lt i 1) }
  where
    by_first : (i : ℕ) → (0 + i) % 313 ≡ 0 → (i < 1) ⊎ (1 ≤ i)
        → min (from + count) (832 * i + 515) ≤ max from (832 * i) + 32
    by_first i z (inl l) = omega (arith, a, l)
    by_first i z (inr l) = omega (arith, b, l, z)

turned_found : (ps : List (List ℕ)) → AreFound 0 (a53 ps) (turned ps)
turned_found ps = burst_found ps 0 2023 25425 (a53 ps) (turned ps) (turned_received ps)
    (leaves 2023 25425 (length (a53 ps)) (omega arith) (omega arith)) (turned_burst ps)

-- ---- eleven bytes of packet 0

-- whether byte m of the codewords hangs on them: by its last symbol, or by its first alone
hangs : ℕ → Bool
hangs m = (nat_lt m 207 && (nat_le 25425 (end_of (air_place m)) && nat_lt (end_of (air_place m)) 27448))
    || (nat_lt m 207 && ((nat_le 25425 (begin_of (air_place m)) && nat_lt (begin_of (air_place m)) 27448)
    && nat_le 27448 (position_of (4 * (air_place m / 12) + 1) (coder_of 0 (air_place m)))))

eleven : List ℕ
eleven = 30 ∷ 31 ∷ 81 ∷ 82 ∷ 83 ∷ 133 ∷ 134 ∷ 135 ∷ 185 ∷ 186 ∷ 187 ∷ []

they_hang : rising hangs 0 eleven 207 ≡ true
unfolding hangs eleven position_of symbol_place coder_of
they_hang = refl

pub whole_stream : (ps : List (List ℕ)) → AreWhole (a53 ps)
whole_stream ps i l = a53_segment ps i l

pub some_segments : (ps : List (List ℕ)) → 52 ≤ length ps → 0 < length (a53 ps)
some_segments ps l = omega (arith, l, length-a53 ps)

pub enough_groups : (ps : List (List ℕ)) → 52 ≤ length ps → 13 ≤ groups_of (a53 ps)
enough_groups ps l = omega (arith, l, groups_are ps)

-- the levels on which a byte hangs
level_of : (ps : List (List ℕ)) (y i : ℕ) → 52 ≤ length ps → y < 10764 → i < 5
    → position_of (4 * (y / 12) + i) (coder_of 0 y) < 832 * length (a53 ps)
level_of ps y i l m k = symbol_within (a53 ps) y i (some_segments ps l) (omega (arith, m, enough_groups ps l)) k

same : (ps : List (List ℕ)) → groups_of (turned ps) ≡ groups_of (a53 ps)
same ps = same_groups (a53 ps) (turned ps) (turned_received ps).as_many

some : (ps : List (List ℕ)) → 52 ≤ length ps → 0 < length (turned ps)
some ps l = omega (arith, (turned_received ps).as_many, some_segments ps l)

there : (ps : List (List ℕ)) (run : List (List ℤ)) (y : ℕ) → 52 ≤ length ps → y < 10764
    → groups_of run ≡ groups_of (a53 ps) → y < 828 * groups_of run
there ps run y l m e = omega (arith, e, m, enough_groups ps l)

-- a byte that hangs on them is another
other_byte : (ps : List (List ℕ)) (y : ℕ) → 52 ≤ length ps → y < 10764 → ((25425 ≤ end_of y) × (end_of y < 27448))
    ⊎ ((25425 ≤ begin_of y) × (begin_of y < 27448) × (27448 ≤ position_of (4 * (y / 12) + 1) (coder_of 0 y)))
    → get_or (bytes_in (turned ps)) y 0 ≡ get_or (bytes_in (a53 ps)) y 0 → ⊥
other_byte ps y l m (inl (a, b)) = apart_by_last (turned ps) (a53 ps) y (turned_received ps).long (some ps l)
    (there ps (turned ps) y l m (same ps)) (whole_stream ps)
    (some_segments ps l) (there ps (a53 ps) y l m refl) (level_eight (a53 ps) (end_of y))
    (level_turned ps (end_of y) (level_of ps y 4 l m (omega arith)) a b)
other_byte ps y l m (inr (a, b, c)) =
    let start : 4 * (y / 12) ≡ 4 * (y / 12) + 0 = omega arith in
    apart_by_first (turned ps) (a53 ps) y (turned_received ps).long (some ps l)
    (there ps (turned ps) y l m (same ps)) (whole_stream ps) (some_segments ps l) (there ps (a53 ps) y l m refl)
    (grind (arith, level_eight, position_of)) (level_eight (a53 ps) (position_of (4 * (y / 12) + 1) (coder_of 0 y)))
    (level_turned ps (position_of (4 * (y / 12) + 0) (coder_of 0 y)) (level_of ps y 0 l m (omega arith))
    (rw (← start) a) (rw (← start) b))
    (level_left ps (position_of (4 * (y / 12) + 1) (coder_of 0 y)) (level_of ps y 1 l m (omega arith)) (inr c))

-- as the test tells
hangs_at : (m : ℕ) → hangs m ≡ true → (m < 207) × (((25425 ≤ end_of (air_place m)) × (end_of (air_place m) < 27448))
    ⊎ ((25425 ≤ begin_of (air_place m)) × (begin_of (air_place m) < 27448)
    × (27448 ≤ position_of (4 * (air_place m / 12) + 1) (coder_of 0 (air_place m)))))
unfolding hangs
hangs_at m t = grind (arith, or_cases, end_of, air_place, begin_of, position_of, and_parts, ltb-true, leb-true)

-- 1 where a byte of the first word hangs on them
other_at : List (List ℕ) → ℕ → ℕ
other_at ps m = differs (get_or (bytes_in (turned ps)) (air_place m) 0) (get_or (bytes_in (a53 ps)) (air_place m) 0)

others : (ps : List (List ℕ)) → 52 ≤ length ps → (m : ℕ) → hangs m ≡ true → other_at ps m ≡ 1
unfolding other_at
others ps l m t = grind (arith, hangs_at, cond-false, turned, air_place, ne_eqb, other_byte)

eleven_others : (ps : List (List ℕ)) → 52 ≤ length ps → 11 ≤ total (other_at ps) 0 207
unfolding eleven
eleven_others ps l = no_fewer (other_at ps) hangs (others ps l) eleven 0 207 they_hang

-- ---- the first word

pub first_complete : (ps : List (List ℕ)) (g : ℕ) → 52 ≤ length ps → g ≡ groups_of (a53 ps)
    → IsComplete 207 52 4 (828 * g) 0
first_complete ps g l e i m = omega (arith, m, e, enough_groups ps l)

first_word : (ps : List (List ℕ)) → ArePackets ps → 52 ≤ length ps
    → word_at 207 52 4 (bytes_in (a53 ps)) 0 ≡ codeword_at ps 0
unfolding to_sync packet_behind from_sync
first_word ps p l = sent_word ps 0 0 (a53 ps) (turned ps) (turned_received ps) p (some_segments ps l)
    (first_complete ps (groups_of (turned ps)) l (same_groups (a53 ps) (turned ps) (turned_received ps).as_many))

words_far : (ps : List (List ℕ)) → 52 ≤ length ps
    → 11 ≤ distance (word_at 207 52 4 (bytes_in (turned ps)) 0) (word_at 207 52 4 (bytes_in (a53 ps)) 0)
unfolding other_at
words_far ps l =
    let least : total (other_at ps) 0 207 ≤ distance (word_at 207 52 4 (bytes_in (turned ps)) 0)
    (word_at 207 52 4 (bytes_in (a53 ps)) 0) = subst (λ (n : ℕ). total (other_at ps) 0 n
    ≤ distance (word_at 207 52 4 (bytes_in (turned ps)) 0) (word_at 207 52 4 (bytes_in (a53 ps)) 0))
    (long (turned ps)) (grind (arith, distance_least, other_at, turned, long, differs, at)) in
    through (total (other_at ps) 0 207) _ (eleven_others ps l) least
  where
    through : (x y : ℕ) → 11 ≤ x → x ≤ y → 11 ≤ y
    through x y a b = omega (arith, a, b)

    long : (run : List (List ℤ)) → length (word_at 207 52 4 (bytes_in run) 0) ≡ 207
    long run = length-word 207 52 4 (bytes_in run) 0

    at : (run : List (List ℤ)) (i : ℕ) → i < 207
        → get_or (bytes_in run) (air_place (0 + i)) 0 ≡ get_or (word_at 207 52 4 (bytes_in run) 0) i 0
    at run i m = sym (get_or-word 207 52 4 (bytes_in run) 0 i m)

first_far : (ps : List (List ℕ)) → ArePackets ps → 52 ≤ length ps
    → 11 ≤ distance (word_in 0 (turned ps) 0) (codeword_at ps 0)
unfolding word_in to_sync from_sync
first_far ps p l = rw (← first_word ps p l) (words_far ps l)

pub one_more : (ps : List (List ℕ)) → ArePackets ps → 52 ≤ length ps
    → (got : List (List ℤ)) × AreReceived ps 0 (a53 ps) got × AreFound 0 (a53 ps) got
    × IsBurst 2023 25425 (a53 ps) got × (11 ≤ distance (word_in 0 got 0) (codeword_at ps 0))
one_more ps p l = (turned ps, turned_received ps, turned_found ps, turned_burst ps, first_far ps p l)
