-- What the packets of a feed read as.
use Rattle.std.proofs.Common.{◌≡◌, ◌≢◌, ℕ, ◌+◌, ◌-◌, ◌*◌, ◌/◌, ◌<◌, ◌≤◌, false, All, List, [], length, map, take, drop}
use Rattle.std.proofs.Common.{get_or, refl, sym, ap, subst, ◌∙◌, arith}
use Rattle.std.specs.Prelude.{Ok}
use Rattle.std.proofs.lemmas.List.Elements.{All-map, All-take, All-drop}
use Rattle.std.proofs.lemmas.Bool.{cases_Bool, cond-true, cond-false, eq-eqb, ne_eqb}
use Rattle.std.proofs.lemmas.List.{length-map, take-take, get_or-set_same, get_or-set_other, get_or-map, ext_get_or}
use Rattle.dtx_laws.proofs.ChoiceLemmas.{codeword_length}
use Rattle.dtx_laws.proofs.WordsLemmas.{distance_self}
use Rattle.dtx_packets.specs.Packets.{sync_of, pid_of}
use Rattle.dtx_cadence.specs.Mark.{sync_at, marked}
use Rattle.dtx_coder.specs.Stream.{zero_states, states, whole_groups}
use Rattle.dtx_coder.specs.Runs.{AreStates}
use Rattle.dtx_coder.proofs.KeptLemmas.{states_are}
use Rattle.dtx_ops.specs.Reading.{reading}
use Rattle.dtx_ops.specs.Spelling.{IsEntry, IsValid, data_of, spelling}
use Rattle.dtx_ops.specs.declared.fields.Ops.{Ops}
use Rattle.dtx_ops.specs.declared.paging.Paging.{Paging}
use Rattle.dtx_ops.specs.declared.paging.Paging.TheVariants.{One, Of}
use Rattle.dtx_ops.specs.Paging.{IsPaged}
use Rattle.dtx_ops.proofs.DataLemmas.{length-data_of}
use Rattle.dtx_ops.proofs.ReadingsLemmas.{changed_reads, pid_of-spelling}
use Rattle.dtx_plan.specs.Sound.{IsSound}
use Rattle.dtx_plan.specs.declared.plan.Plan.{Plan}
use Rattle.dtx_plan.specs.declared.transmitter.Transmitter.{Transmitter}
use Rattle.dtx_adapter.specs.Feed.{entry_of, is_placeholder, listed, is_filled, filled_groups, paging_at, ops_at}
use Rattle.dtx_adapter.specs.Feed.{counter_at, as_feed_packet, fed_packet, feed}
use Rattle.dtx_adapter.proofs.GroupsLemmas.{is_filled-same, filled_groups-same}
use Rattle.dtx_adapter.proofs.PagesLemmas.{page_has_place, most_entries}
use Rattle.dtx_adapter.proofs.FeedsLemmas.{length-feed, feed_packet}
use Rattle.dtx_adapter.proofs.MakingLemmas.{listed_differ}

-- ---- what is said is valid

are_states : (packets : List (List ℕ)) → AreStates (states packets)
unfolding states
are_states packets = states_are 0 zero_states (whole_groups packets)

are_entries : (ts : List Transmitter) → All (λ t. IsEntry (entry_of t)) ts → All IsEntry (map entry_of ts)
are_entries ts fit = All-map IsEntry entry_of ts fit

All-listed : {X : Type 0} (P : X → Type 0) (xs : List X) (paging : Paging) → All P xs → All P (listed xs paging)
All-listed P xs One all = all
All-listed P xs (Of page pages) all =
    All-take P (34 * page + 34 - 34 * page) (drop (34 * page) xs) (All-drop P (34 * page) xs all)

valid_at : (plan : Plan) (stream before : List (List ℕ)) (k : ℕ) → IsSound plan
    → All (λ t. IsEntry (entry_of t)) plan.transmitters → k < 624000000 → IsValid (ops_at plan stream before k)
unfolding ops_at
valid_at plan stream before k sound fit within =
    let paging : Paging = paging_at plan stream (k / 4) in
    let ts : List Transmitter = listed plan.transmitters paging in
    let are = are_states (take (4 * (k / 4)) before) in
    let place : IsPaged paging (length (map entry_of ts)) = subst (IsPaged paging) (sym (length-map ts entry_of))
    (page_has_place plan.transmitters (filled_groups stream (k / 4)) sound.transmitters.most) in
    let fits = place.fits in
    record {
      twelve = are.twelve;
      states = are.small;
      stamp = omega arith;
      max_delay = sound.max_delay;
      frame = omega (arith, within);
      index = omega arith;
      few = omega (arith, fits, most_entries paging);
      paged = place;
      entries = are_entries ts (All-listed (λ t. IsEntry (entry_of t)) plan.transmitters paging fit);
      differ = listed_differ plan.transmitters paging sound.transmitters.distinct;
    }

-- ---- the packets of a feed

length-spelling : (f : Ops) (counter sync : ℕ) → IsValid f → length (spelling f counter sync) ≡ 188
unfolding spelling
length-spelling f counter sync valid = omega (arith, codeword_length 184 164 (data_of f), length-data_of f valid)

spelled_reads : (f : Ops) (counter sync : ℕ) → IsValid f → reading (spelling f counter sync) ≡ Ok f
spelled_reads f counter sync valid = grind (arith, changed_reads, length-spelling, pid_of-spelling, distance_self)

made_operations : (ops : Ops) (counter k : ℕ) (p : List ℕ) → pid_of p ≡ 0x1FFA
    → as_feed_packet ops counter k p ≡ spelling ops counter (sync_at k)
unfolding as_feed_packet is_placeholder
made_operations ops counter k p is = grind (arith, cond-true, eq-eqb)

made_other : (ops : Ops) (counter k : ℕ) (p : List ℕ) → pid_of p ≢ 0x1FFA → as_feed_packet ops counter k p ≡ marked k p
unfolding as_feed_packet is_placeholder
made_other ops counter k p other = grind (arith, cond-false, ne_eqb)

fed_made : (plan : Plan) (stream : List (List ℕ)) (k : ℕ) → k < length stream
    → get_or (feed plan stream) k [] ≡ as_feed_packet (ops_at plan stream (take k (feed plan stream)) k)
    (counter_at stream k) k (get_or stream k [])
unfolding fed_packet
fed_made plan stream k within = feed_packet plan stream k within

pub placeholder_reads : (plan : Plan) (stream : List (List ℕ)) (k : ℕ) → IsSound plan
    → All (λ t. IsEntry (entry_of t)) plan.transmitters → length stream ≤ 624000000
    → k < length stream → pid_of (get_or stream k []) ≡ 0x1FFA
    → reading (get_or (feed plan stream) k []) ≡ Ok (ops_at plan stream (take k (feed plan stream)) k)
placeholder_reads plan stream k sound fit most within is =
    grind (arith, fed_made, made_operations, spelled_reads, valid_at)

pid-marked : (k : ℕ) (p : List ℕ) → pid_of (marked k p) ≡ pid_of p
pid-marked k p = grind (arith, get_or-set_other)

pub others_stay : (plan : Plan) (stream : List (List ℕ)) (k : ℕ) → k < length stream
    → pid_of (get_or stream k []) ≢ 0x1FFA → pid_of (get_or (feed plan stream) k []) ≢ 0x1FFA
others_stay plan stream k within other = grind (arith, fed_made, made_other, pid-marked)

-- the states that an operations packet says
pub said_states : (plan : Plan) (stream : List (List ℕ)) (k : ℕ)
    → (ops_at plan stream (take k (feed plan stream)) k).states ≡ states (take (4 * (k / 4)) (feed plan stream))
unfolding ops_at
said_states plan stream k = ap states (take-take (4 * (k / 4)) k (feed plan stream) (omega arith))

-- ---- sync bytes

sync-spelling : (f : Ops) (counter sync : ℕ) → sync_of (spelling f counter sync) ≡ sync
unfolding spelling
sync-spelling f counter sync = refl

sync-made : (ops : Ops) (counter k : ℕ) (p : List ℕ) → length p ≡ 188
    → sync_of (as_feed_packet ops counter k p) ≡ sync_at k
unfolding as_feed_packet
sync-made ops counter k p long = grind (arith, cases_Bool, cond-true, sync-spelling, cond-false, get_or-set_same)

pub sync_fed : (plan : Plan) (stream : List (List ℕ)) (k : ℕ) → k < length stream → length (get_or stream k []) ≡ 188
    → sync_of (get_or (feed plan stream) k []) ≡ sync_at k
sync_fed plan stream k within long = grind (arith, fed_made, sync-made)

-- ---- a feed holds operations packets where its stream holds placeholders

same_place : (ops : Ops) (counter k : ℕ) (p : List ℕ)
    → is_placeholder (as_feed_packet ops counter k p) ≡ is_placeholder p
unfolding as_feed_packet is_placeholder
same_place ops counter k p = grind (arith, cases_Bool, cond-true, eq-eqb, pid_of-spelling, cond-false, pid-marked)

same_places : (plan : Plan) (stream : List (List ℕ)) → map is_placeholder (feed plan stream) ≡ map is_placeholder stream
same_places plan stream =
    let fed : List (List ℕ) = feed plan stream in
    ext_get_or false (map is_placeholder fed) (map is_placeholder stream)
    (length-map fed is_placeholder ∙ length-feed plan stream ∙ sym (length-map stream is_placeholder)) (λ k h.
    let within : k < length stream = omega (arith, h, length-map fed is_placeholder, length-feed plan stream) in
    get_or-map is_placeholder fed k [] false (omega (arith, within, length-feed plan stream))
    ∙ ap is_placeholder (fed_made plan stream k within)
    ∙ same_place (ops_at plan stream (take k fed) k) (counter_at stream k) k (get_or stream k [])
    ∙ sym (get_or-map is_placeholder stream k [] false within))

pub is_filled-feed : (plan : Plan) (stream : List (List ℕ)) (u : ℕ)
    → is_filled (feed plan stream) u ≡ is_filled stream u
is_filled-feed plan stream u = is_filled-same (feed plan stream) stream u (same_places plan stream)

pub filled_groups-feed : (plan : Plan) (stream : List (List ℕ)) (u : ℕ)
    → filled_groups (feed plan stream) u ≡ filled_groups stream u
filled_groups-feed plan stream u = grind (arith, filled_groups-same, is_filled-feed)
