-- The stream of a trial is adapted whole, and no event of a trial reads past its feed.
use Rattle.std.proofs.Common.{◌≡◌, ℕ, zero, suc, ◌+◌, ◌<◌, ◌≤◌, Bool, true, false, not, List, [], ◌∷◌, length, get_or}
use Rattle.std.proofs.Common.{refl, sym, ap, subst, ◌∙◌, arith}
use Rattle.std.specs.Prelude.{None, min}
use Rattle.std.specs.List.{AllByRecursion, find, flat_map, position_or_len, range_with_len}
use Rattle.std.proofs.lemmas.Bool.{cond-false, cond-true, eq-eqb, le-ltb}
use Rattle.std.proofs.lemmas.List.Folds.{flat_map-map}
use Rattle.std.proofs.lemmas.List.FromFn.{get_or-map-range_with_len}
use Rattle.dtx_engine.specs.Recipe.{first_refused, meaning_of_file, unit_at, whole_units}
use Rattle.dtx_galois.proofs.BytesLemmas.{bytes_append}
use Rattle.dtx_galois.specs.Field.{AreBytes}
use Rattle.dtx_packet_jobs.proofs.PacketFileLemmas.{packets_of-bytes}
use Rattle.dtx_forms.specs.Shapes.{packets}
use Rattle.dtx_make.specs.Made.{made_packet, made_stream}
use Rattle.dtx_make.proofs.StreamsLemmas.{length-made_stream}
use Rattle.dtx_packets.specs.Packets.{sync_of, packet_at, packets_of}
use Rattle.dtx_plan.specs.declared.plan.Plan.{Plan}
use Rattle.dtx_schedule.specs.Inside.{first_past_feed}
use Rattle.dtx_recipes.specs.Adapt.{feeding}
use Rattle.dtx_words.specs.Names.{feed_name}
use Rattle.dtx_top.specs.NetMeaning.{is_done}
use Rattle.dtx_top.specs.Trial.{trial_events}
use Rattle.dtx_top.specs.WorkedNetwork.{made_packets}
use Rattle.dtx_top.proofs.Adapted.{taken_means}
use Rattle.dtx_top.proofs.WorkedStream.{length-made, packet_bytes, packet_in, made_stream as are_stream}

-- ---- the packets of the stream

pub trial_packets : (seed count : ℕ) → count ≤ 624000000 → packets_of (made_stream seed count) ≡ made_packets seed count
unfolding made_stream made_packets
trial_packets seed count most = ap packets_of (sym (flat_map-map (λ p. p) (made_packet seed) (range_with_len 0 count)))
    ∙ packets_of-bytes (made_packets seed count) (are_stream seed count most).long

packet_there : (seed count k : ℕ) → count ≤ 624000000 → k < count
    → packet_at (made_stream seed count) k ≡ made_packet seed k
packet_there seed count k most within =
    let file : List ℕ = made_stream seed count in
    sym (grind (arith, get_or-map-range_with_len, length-made_stream))
    ∙ ap (λ (ps : List (List ℕ)). get_or ps k []) (trial_packets seed count most) ∙ packet_in seed count k within

-- ---- it consists of bytes

packets_bytes : (seed : ℕ) (ks : List ℕ) → AreBytes (flat_map (made_packet seed) ks)
packets_bytes seed [] = tt
packets_bytes seed (k ∷ ks) = bytes_append (made_packet seed k) _ (packet_bytes seed k) (packets_bytes seed ks)

pub stream_bytes : (seed count : ℕ) → AreBytes (made_stream seed count)
unfolding made_stream
stream_bytes seed count = packets_bytes seed (range_with_len 0 count)

-- ---- each is allowed

pub begins : (seed index : ℕ) → sync_of (made_packet seed index) ≡ 0x47
unfolding made_packet
begins seed index = grind arith

allowed : (plan : Plan) (seed k : ℕ) → (feeding plan).allows k (made_packet seed k) ≡ true
allowed plan seed k = eq-eqb (sync_of (made_packet seed k)) 0x47 (begins seed k)

none_found : (p : ℕ → Bool) (a n : ℕ) → ((i : ℕ) → a ≤ i → i < a + n → p i ≡ false) → find p (range_with_len a n) ≡ None
none_found p a zero fails = refl
none_found p a (suc n) fails = cond-false _ _ _ (fails a (omega arith) (omega arith))
    ∙ none_found p (a + 1) n (λ i l m. fails i (omega arith) (omega arith))

none_refused : (plan : Plan) (seed count : ℕ) → count ≤ 624000000
    → first_refused packets (feeding plan) (made_stream seed count) ≡ None
unfolding first_refused
none_refused plan seed count most =
    none_found (λ k. not ((feeding plan).allows k (unit_at packets (made_stream seed count) k))) 0
    (min (whole_units packets (made_stream seed count)) 624000000) (λ k l m.
    ap not (subst (λ (unit : List ℕ). (feeding plan).allows k unit ≡ true)
    (sym (packet_there seed count k most (omega (arith, m, length-made_stream seed count)))) (allowed plan seed k)))

-- ---- so its feed is made

pub fed_done : (plan : Plan) (seed count : ℕ) → count ≤ 624000000
    → is_done (meaning_of_file packets (feeding plan) (feed_name ∷ []) (made_stream seed count)).outcome.status ≡ true
fed_done plan seed count most = grind (arith, taken_means, none_refused, le-ltb, length-made_stream)

-- ---- the events are within it

all_fail : {X : Type 0} (test : X → Bool) (xs : List X) → AllByRecursion (λ x. test x ≡ false) xs
    → position_or_len test xs ≡ length xs
all_fail test [] fails = refl
all_fail test (x ∷ xs) fails =
    let step : position_or_len test (x ∷ xs) ≡ 1 + position_or_len test xs = grind (arith, cond-true) in
    omega (arith, step, all_fail test xs fails.1)

pub events_inside : (seed count : ℕ)
    → first_past_feed (trial_events seed count) (length (made_packets seed count)) ≡ None
unfolding first_past_feed
events_inside seed count = grind (arith, cond-false, le-ltb, all_fail, length-made)
