-- The packets that a repeater gives its exciter of a feed that it hears.
use Rattle.std.proofs.Common.{◌≡◌, ◌⊎◌, inl, inr, ℕ, ℤ, zero, suc, ◌+◌, ◌-◌, ◌*◌, ◌/◌, ◌%◌, ◌<◌, ◌≤◌, ◌==◌, Bool, true}
use Rattle.std.proofs.Common.{false, cond, List, [], ◌∷◌, length, map, drop, get_or, refl, ap, ◌∙◌, arith}
use Rattle.std.specs.Prelude.{slice_range}
use Rattle.std.specs.List.{range_with_len, filter, flat_map}
use Rattle.std.proofs.lemmas.Bool.{cases_Bool, true≢false, eqb-true, eqb-false}
use Rattle.std.proofs.lemmas.List.{append-nil, get_or-drop, length-drop, length-map}
use Rattle.dtx_lists.proofs.RangeFilter.{filter-kept, filter-range_none}
use Rattle.dtx_lists.proofs.RangeMoved.{map-range_moved}
use Rattle.dtx_frame.specs.Detection.{looks_second}
use Rattle.dtx_plan.specs.declared.plan.Plan.{Plan}
use Rattle.dtx_plan.specs.declared.transmitter.Transmitter.{Transmitter}
use Rattle.dtx_adapter.specs.Feed.{feed}
use Rattle.dtx_adapter.proofs.FeedsLemmas.{length-feed}
use Rattle.dtx_adapter.proofs.ReadingsLemmas.{sync_fed}
use Rattle.dtx_coder.specs.Stream.{a53}
use Rattle.dtx_coder.proofs.CountsLemmas.{length-a53}
use Rattle.dtx_receiver.specs.Bytes.{data_count, groups_of, bytes_in}
use Rattle.dtx_receiver.proofs.CompleteLemmas.{complete_told, complete_all, complete_only}
use Rattle.dtx_receiver.specs.Packets.{is_complete, run_packets, all_packets, received}
use Rattle.dtx_receiver.specs.Runs.{runs}
use Rattle.dtx_receiver.specs.declared.batch.Received.{Received}
use Rattle.dtx_chain.specs.Damage.{ArePackets, as_received, AreReceived, to_sync, from_sync, packet_behind, numbers_in}
use Rattle.dtx_chain.proofs.SlightLemmas.{sent_within, sync_first}
use Rattle.dtx_chain.proofs.WordsLemmas.{packet_at}
use Rattle.dtx_network.specs.Plans.{IsStream}
use Rattle.dtx_repeat.specs.Lives.{packets_in, life_of, lives}
use Rattle.dtx_repeat.specs.Marks.{HasSyncs, without_mark}
use Rattle.dtx_repeat.proofs.MarksLemmas.{second_is, feed_is}
use Rattle.dtx_repeat.specs.Restored.{place_behind, first_place, run_restored}
use Rattle.dtx_gap_filler.specs.Heard.{Hears, first_sync, heard_to}

-- ---- the numbers of the packets of a run

-- what a test leaves of a range, where it passes at no number behind one at which it fails
-- the test fails at each number m behind one at which it fails
fails_behind : (p : ℕ → Bool) (a m i : ℕ) → ((i : ℕ) → p (i + 1) ≡ true → p i ≡ true) → p a ≡ false → i ≡ a + m
    → p i ≡ false
fails_behind p a zero i h f e = let z : i ≡ a = omega (arith, e) in ap p z ∙ f
fails_behind p a (suc m) i h f e = by_cases (cases_Bool (p i)) (fails_behind p a m (a + m) h f refl)
  where
    by_cases : (p i ≡ true) ⊎ (p i ≡ false) → p (a + m) ≡ false → p i ≡ false
    by_cases (inr g) w = g
    by_cases (inl t) w = grind (arith, true≢false)

none_behind : (p : ℕ → Bool) (a n : ℕ) → ((i : ℕ) → p (i + 1) ≡ true → p i ≡ true) → p a ≡ false
    → filter p (range_with_len a n) ≡ []
none_behind p a n h f = filter-range_none p a n (λ i l m. fails_behind p a (i - a) i h f (omega (arith, l)))

front_left : (p : ℕ → Bool) (a n : ℕ) → ((i : ℕ) → p (i + 1) ≡ true → p i ≡ true)
    → filter p (range_with_len a n) ≡ range_with_len a (length (filter p (range_with_len a n)))
front_left p a zero h = refl
front_left p a (suc n) h = by_cases (cases_Bool (p a)) (front_left p (a + 1) n h)
  where
    by_cases : (p a ≡ true) ⊎ (p a ≡ false)
        → filter p (range_with_len (a + 1) n) ≡ range_with_len (a + 1) (length (filter p (range_with_len (a + 1) n)))
        → filter p (range_with_len a (suc n)) ≡ range_with_len a (length (filter p (range_with_len a (suc n))))
    by_cases (inl t) rest = grind (arith, filter-kept)
    by_cases (inr f) rest = grind (arith, none_behind)

length-left : (p : ℕ → Bool) (a n : ℕ) → length (filter p (range_with_len a n)) ≤ n
length-left p a zero = omega arith
length-left p a (suc n) = by_cases (p a) (length-left p (a + 1) n)
  where
    by_cases : (b : Bool) → length (filter p (range_with_len (a + 1) n)) ≤ n
        → length (cond b (a ∷ filter p (range_with_len (a + 1) n)) (filter p (range_with_len (a + 1) n))) ≤ suc n
    by_cases true l = omega (arith, l)
    by_cases false l = omega (arith, l)

-- a word is whole where the next one is
complete_before : (groups k : ℕ) → is_complete (828 * groups) (k + 1) ≡ true → is_complete (828 * groups) k ≡ true
complete_before groups k t = ap (λ n. is_complete n k) (count groups) ∙ (complete_told (207 * (4 * groups)) k).1
    (complete_all (4 * groups) k (inl (elim (complete_only (4 * groups) (k + 1) (grind (arith, complete_told, count))) [
      | inl l ↦ omega (arith, l)
      | inr e ↦ let z = e.0 in omega (arith, z)
    ])))
  where
    count : (g : ℕ) → 828 * g ≡ 207 * (4 * g)
    count g = omega arith

numbers_are : (run : List (List ℤ)) → numbers_in run ≡ range_with_len 0 (length (numbers_in run))
unfolding numbers_in
numbers_are run = front_left (is_complete (828 * groups_of run)) 0 (4 * groups_of run) (complete_before (groups_of run))

-- the data segments of the run are those of packets of the stream
groups_within : (q n l u : ℕ) → 313 * q + n ≤ l → 0 < n → l ≡ 4 * u + (u + 77) / 78
    → 312 * q + 4 * ((n - (n + 312) / 313) / 4) ≤ 4 * u
groups_within q n l u a s e = grind arith

numbers_within : (ps : List (List ℕ)) (first : ℕ) (sent got : List (List ℤ)) → AreReceived ps first sent got
    → to_sync first < length sent → heard_to first got ≤ length ps
unfolding heard_to numbers_in packet_behind groups_of data_count from_sync
numbers_within ps first sent got r l =
    let run : List (List ℤ) = drop (to_sync first) got in
    let most = length-left (is_complete (828 * ((length run - (length run + 312) / 313) / 4))) 0
    (4 * ((length run - (length run + 312) / 313) / 4)) in
    let whole = groups_within ((first + to_sync first) / 313) (length run) (length (a53 ps)) (length ps / 4)
    (grind (arith, sent_within, sync_first, length-drop)) (grind (arith, length-drop)) (length-a53 ps) in
    omega (arith, most, whole)

-- ---- the feed's sync bytes

with_sync : (p : List ℕ) (s : ℕ) → length p ≡ 188 → get_or p 0 0 ≡ s → p ≡ s ∷ drop 1 p
with_sync [] s l e = absurd (omega (arith, l))
with_sync (x ∷ p) s l e = ap (λ y. y ∷ p) e

pub has_syncs : (plan : Plan) (stream : List (List ℕ)) → IsStream stream → ArePackets (feed plan stream)
    → HasSyncs (feed plan stream)
has_syncs plan stream u h = grind (arith, length-feed, with_sync, packet_at, sync_fed)

-- ---- the run's place in its frame

pub place_is : (q : ℕ) (b : Bool) → (312 * q % 624 == 312) ≡ b → cond b 312 0 % 624 ≡ 312 * q % 624
place_is q true e = let z : 312 * q % 624 ≡ 312 = eqb-true (312 * q % 624) 312 e in omega (arith, z)
place_is q false e = grind (arith, eqb-false)

second_told : (plan : Plan) (stream : List (List ℕ)) (t : Transmitter) (delay first : ℕ) (sent got : List (List ℤ))
    → Hears plan stream t delay first sent got
    → looks_second (first_sync first got) ≡ (packet_behind first % 624 == 312)
second_told plan stream t delay first sent got h = grind (arith, second_is)

first_is : (first : ℕ) (got : List (List ℤ)) → get_or (from_sync first got) 0 [] ≡ first_sync first got
unfolding from_sync
first_is first got = grind (arith, get_or-drop)

starts_at : (plan : Plan) (stream : List (List ℕ)) (t : Transmitter) (delay first : ℕ) (sent got : List (List ℤ))
    → Hears plan stream t delay first sent got → first_place (from_sync first got) % 624 ≡ packet_behind first % 624
unfolding place_behind packet_behind
starts_at plan stream t delay first sent got h = grind (arith, first_is, second_told, place_is)

-- ---- its packets

run_is : (got run : List (List ℤ)) → runs got ≡ run ∷ [] → all_packets got ≡ run_packets (bytes_in run)
unfolding all_packets
run_is got run e = ap (flat_map (λ r. run_packets (bytes_in r))) e ∙ append-nil (run_packets (bytes_in run))

received_is : (got run : List (List ℤ)) → runs got ≡ run ∷ [] → received got ≡ packets_in (run_packets (bytes_in run))
unfolding received
received_is got run e = ap (map (λ (r : Received). r.packet.0)) (run_is got run e)

-- those of the stream without their marks
run_packets_are : (ps : List (List ℕ)) (first : ℕ) (got : List (List ℤ)) → runs got ≡ from_sync first got ∷ []
    → received got ≡ map (λ j. as_received (get_or ps (packet_behind first + j) [])) (numbers_in (from_sync first got))
    → packets_in (run_packets (bytes_in (from_sync first got)))
    ≡ map (λ j. without_mark (get_or ps j [])) (range_with_len (packet_behind first)
    (length (numbers_in (from_sync first got))))
unfolding as_received
run_packets_are ps first got e all = grind (arith, received_is, numbers_are, map-range_moved)

length-in : (rs : List Received) → length (packets_in rs) ≡ length rs
length-in rs = length-map rs (λ r. r.packet.0)

length-kept : (ps : List (List ℕ)) (m n : ℕ)
    → length (map (λ j. without_mark (get_or ps j [])) (range_with_len m n)) ≡ n
length-kept ps m zero = refl
length-kept ps m (suc n) = let e = length-kept ps (m + 1) n in omega (arith, e)

life_is : (ps : List (List ℕ)) (first : ℕ) (got : List (List ℤ)) → HasSyncs ps
    → first_place (from_sync first got) % 624 ≡ packet_behind first % 624 → heard_to first got ≤ length ps
    → packets_in (run_packets (bytes_in (from_sync first got)))
    ≡ map (λ j. without_mark (get_or ps j [])) (range_with_len (packet_behind first)
    (length (numbers_in (from_sync first got))))
    → life_of (from_sync first got) ≡ slice_range ps (packet_behind first) (heard_to first got)
unfolding life_of run_restored heard_to
life_is ps first got syncs place within are =
    let run : List (List ℤ) = from_sync first got in
    let m : ℕ = packet_behind first in
    let count : length (run_packets (bytes_in run)) ≡ length (numbers_in run) = grind (arith, length-in, length-kept) in
    feed_is ps m (first_place run) (run_packets (bytes_in run)) syncs place (omega (arith, within, count)) (grind arith)
    ∙ ap (λ n. slice_range ps m (m + n)) count

pub one_life : (plan : Plan) (stream : List (List ℕ)) (t : Transmitter) (delay first : ℕ) (sent got : List (List ℤ))
    → ArePackets (feed plan stream) → Hears plan stream t delay first sent got → runs got ≡ from_sync first got ∷ []
    → received got ≡ map (λ j. as_received (get_or (feed plan stream) (packet_behind first + j) []))
    (numbers_in (from_sync first got))
    → lives got ≡ slice_range (feed plan stream) (packet_behind first) (heard_to first got) ∷ []
unfolding lives
one_life plan stream t delay first sent got p h e all =
    grind (arith, life_is, has_syncs, starts_at, numbers_within, run_packets_are)

pub inside : (plan : Plan) (stream : List (List ℕ)) (t : Transmitter) (delay first : ℕ) (sent got : List (List ℤ))
    → Hears plan stream t delay first sent got → heard_to first got ≤ length (feed plan stream)
inside plan stream t delay first sent got h = numbers_within (feed plan stream) first sent got h.received h.holds_sync
