-- Slightly damaged segments of a stream are one run, which begins with their first field sync.
use Rattle.std.proofs.Common.{◌≡◌, ◌≢◌, ℕ, ℤ, zero, suc, ◌+◌, ◌-◌, ◌*◌, ◌/◌, ◌%◌, ◌<◌, ◌≤◌, false, List, [], ◌∷◌}
use Rattle.std.proofs.Common.{length, map, sum, get_or, sym, ap, ◌∙◌, subst, inl, arith}
use Rattle.std.specs.List.{range_with_len}
use Rattle.std.proofs.lemmas.Bool.{lt-leb}
use Rattle.std.proofs.lemmas.Bool.Decides.{nat_tests}
use Rattle.std.proofs.lemmas.List.{length-take, length-drop, take_all, get_or-take, get_or-drop}
use Rattle.dtx_frame.specs.Detection.{differs, differing, looks_like}
use Rattle.dtx_frame.proofs.CountsLemmas.{total, sum_is}
use Rattle.dtx_frame.proofs.UnlikeLemmas.{unlike_segment}
use Rattle.dtx_coder.specs.Stream.{whole_groups, zero_states, levels, segment, a53}
use Rattle.dtx_coder.proofs.BytesLemmas.{length-whole}
use Rattle.dtx_coder.proofs.CountsLemmas.{length-a53}
use Rattle.dtx_receiver.specs.Runs.{runs}
use Rattle.dtx_receiver.specs.Intervals.{NoneLooks, IsRun, AreRuns, segments_in}
use Rattle.dtx_receiver.proofs.IntervalsLemmas.{are_runs, only_runs}
use Rattle.dtx_receiver.proofs.SegmentsLemmas.{place_data}
use Rattle.dtx_chain.specs.Damage.{damage_at, damaged_symbols, AreFound, AreReceived, to_sync, from_sync, packet_behind}
use Rattle.dtx_chain.proofs.PlacesLemmas.{data_at_place}

-- ---- data segments

total_within : (f g h : ℕ → ℕ) (a n : ℕ) → ((i : ℕ) → f i ≤ g i + h i) → total f a n ≤ total g a n + total h a n
total_within f g h a zero p = omega arith
total_within f g h a (suc n) p = omega (arith, p a, total_within f g h (suc a) n p)

-- a symbol that differs from the sync's and doesn't as it was received is damaged
differs_within : (sent got : List ℤ) (i : ℕ) → differs sent i ≤ differs got i + damage_at sent got i
unfolding differs damage_at
differs_within sent got i = grind (arith, nat_tests)

differing_within : (sent got : List ℤ) → differing sent ≤ differing got + damaged_symbols sent got
unfolding differing damaged_symbols
differing_within sent got =
    bound (sum (map (differs sent) (range_with_len 0 515))) (sum (map (differs got) (range_with_len 0 515)))
    (sum (map (damage_at sent got) (range_with_len 0 515)))
    (total (differs sent) 0 515) (total (differs got) 0 515) (total (damage_at sent got) 0 515)
    (sum_is (differs sent) 0 515) (sum_is (differs got) 0 515) (sum_is (damage_at sent got) 0 515)
    (total_within (differs sent) (differs got) (damage_at sent got) 0 515 (differs_within sent got))
  where
    bound : (x y z a b c : ℕ) → x ≡ a → y ≡ b → z ≡ c → a ≤ b + c → x ≤ y + z
    bound x y z a b c e f g h = omega arith

still_unlike : (sent got : List ℤ) → 64 ≤ differing sent → damaged_symbols sent got ≤ 31 → looks_like got ≡ false
unfolding looks_like
still_unlike sent got h l = lt-leb (differing got) 32 (omega (arith, differing_within sent got, h, l))

unlike : (ps : List (List ℕ)) (d : ℕ) → d < 4 * (length ps / 4) → 64 ≤ differing (segment (levels ps) d)
unfolding segment levels
unlike ps d l = unlike_segment 0 (length ps / 4) d zero_states (whole_groups ps) (length-whole ps) l

unlike_at : (ps : List (List ℕ)) (n : ℕ) → n < length (a53 ps) → n % 313 ≢ 0 → 64 ≤ differing (get_or (a53 ps) n [])
unlike_at ps n l z =
    let within : n - (n + 312) / 313 < 4 * (length ps / 4) = omega (arith, l, z, length-a53 ps) in
    subst (λ (s : List ℤ). 64 ≤ differing s) (grind (arith, data_at_place, place_data))
    (unlike ps (n - (n + 312) / 313) within)

pub no_sync : (ps : List (List ℕ)) (n : ℕ) (got : List ℤ) → n < length (a53 ps) → n % 313 ≢ 0
    → damaged_symbols (get_or (a53 ps) n []) got ≤ 31 → looks_like got ≡ false
no_sync ps n got l z few = still_unlike (get_or (a53 ps) n []) got (unlike_at ps n l z) few

-- ---- what was sent

pub sent_within : (ps : List (List ℕ)) (first : ℕ) (sent got : List (List ℤ)) → AreReceived ps first sent got
    → 0 < length sent → first + length sent ≤ length (a53 ps)
sent_within ps first sent got r l = grind (arith, length-take, length-drop)

pub sent_at : (ps : List (List ℕ)) (first : ℕ) (sent got : List (List ℤ)) → AreReceived ps first sent got → (i : ℕ)
    → i < length sent → get_or sent i [] ≡ get_or (a53 ps) (first + i) []
sent_at ps first sent got r i l = grind (arith, get_or-take, get_or-drop)

-- ---- the first field sync

pub sync_first : (first : ℕ) → (first + to_sync first) % 313 ≡ 0
unfolding to_sync
sync_first first = omega arith

pub none_earlier : (first i : ℕ) → i < to_sync first → (first + i) % 313 ≢ 0
unfolding to_sync
none_earlier first i l = λ z. omega (arith, l, z)

pub field_begins : (first : ℕ) → packet_behind first % 312 ≡ 0
unfolding packet_behind
field_begins first = grind arith

-- the place of its segment is the next one
pub behind_sync : (first : ℕ) → packet_behind first + packet_behind first / 312 ≡ first + to_sync first
unfolding packet_behind
behind_sync first = grind (arith, sync_first)

-- ---- one run

pub one_run_left : (ps : List (List ℕ)) (first : ℕ) (sent got : List (List ℤ)) → AreReceived ps first sent got
    → to_sync first < length sent → AreFound first sent got → runs got ≡ from_sync first got ∷ []
unfolding from_sync
one_run_left ps first sent got r l h = (are_runs got).2
    ∙ ap (map (segments_in got)) (only_runs got 0 (are_runs got).0 ((to_sync first, length got - to_sync first) ∷ [])
    (are_runs got).1 mine) ∙ ap (λ xs. xs ∷ []) (grind (arith, take_all, length-drop))
  where
    within : to_sync first + (length got - to_sync first) ≡ length got
    within = omega (arith, l, r.as_many)

    -- each 313th from there on
    run : IsRun got (to_sync first) (length got - to_sync first)
    run = record {
      some = omega (arith, l, r.as_many);
      within = omega (arith, within);
      syncs = λ j m z. h.syncs (to_sync first + j) (omega (arith, m, within, r.as_many))
          (omega (arith, sync_first first));
      ends = inl within;
    }

    none : NoneLooks got 0 (to_sync first)
    none = λ i _ m.
        still_unlike (get_or sent i []) (get_or got i [])
        (subst (λ (s : List ℤ). 64 ≤ differing s) (sym (sent_at ps first sent got r i (omega (arith, m, l))))
        (grind (arith, unlike_at, sent_within, none_earlier))) (h.before i (omega (arith, m, l)) m)

    mine : AreRuns got 0 ((to_sync first, length got - to_sync first) ∷ [])
    mine = (omega arith, none, run, λ i a b. absurd (omega (arith, a, b, within)))
