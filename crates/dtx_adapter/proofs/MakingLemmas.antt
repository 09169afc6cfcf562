-- The packets of a group, made one after another.
use Rattle.std.proofs.Common.{◌≡◌, ◌≢◌, ◌⊎◌, inl, inr, ℕ, suc, get_or, drop-cons, ◌+◌, ◌-◌, ◌*◌, ◌/◌, ◌%◌, ◌<◌, ◌≤◌}
use Rattle.std.proofs.Common.{Bool, true, false, ◌||◌, cond, List, [], ◌∷◌, ◌++◌, length, take, drop, map, refl, sym}
use Rattle.std.proofs.Common.{ap, ap₂, subst, ◌∙◌, arith, append_assoc, nat_eq, AllPairs}
use Rattle.std.specs.List.{IsDistinct}
use Rattle.std.proofs.lemmas.Bool.Decides.{Decides-eqb}
use Rattle.std.proofs.lemmas.Bool.{cond-false}
use Rattle.std.proofs.lemmas.List.{length-append, append-nil, drop_all, drop-append-le}
use Rattle.std.proofs.lemmas.Simd.{map-map}
use Rattle.std.proofs.lemmas.Map.Made.{AllPairs-from_IsDistinct}
use Rattle.dtx_ops.specs.declared.fields.Entry.{Entry}
use Rattle.dtx_ops.specs.declared.fields.Ops.{Ops}
use Rattle.dtx_ops.specs.declared.paging.Paging.{Paging}
use Rattle.dtx_coder.specs.Stream.{states}
use Rattle.dtx_plan.specs.declared.plan.Plan.{Plan}
use Rattle.dtx_plan.specs.declared.transmitter.Transmitter.{Transmitter}
use Rattle.dtx_plan.specs.TransmitterTable.{addresses_of}
use Rattle.dtx_adapter.specs.Feed.{entry_of, is_placeholder, placeholders, paging_of, listed, is_filled, filled_groups}
use Rattle.dtx_adapter.specs.Feed.{ops_at, as_feed_packet, feed}
use Rattle.dtx_adapter.specs.Filling.{Filling, Fills, filled_ops, next_page, begun}
use Rattle.dtx_adapter.proofs.GroupsLemmas.{is_filled-none, is_filled-next, filled_groups-more, filled_groups-turn}
use Rattle.dtx_adapter.proofs.PagesLemmas.{listed-map, AllPairs-listed, paging_of-turn}
use Rattle.dtx_adapter.proofs.FeedsLemmas.{placeholders-append, placeholders-one, length-feed, feed_front, feed_next}

-- what is said is what the feed's operations packet says
said_is : (plan : Plan) (filling : Filling) (stream before : List (List ℕ)) (k : ℕ)
    → Fills plan filling stream (k / 4) → filling.states ≡ states (take (4 * (k / 4)) before)
    → filled_ops filling k ≡ ops_at plan stream before k
unfolding filled_ops ops_at
said_is plan filling stream before k fills told = grind (arith, listed-map)

-- ---- the counter

counted : (b : Bool) (n c : ℕ) → c ≡ n % 16 → cond b ((c + 1) % 16) c ≡ (n + cond b 1 0) % 16
counted true n c e = omega (arith, e)
counted false n c e = omega (arith, e)

either_filled : (before this : Bool) → cond this true before ≡ (before || this)
either_filled true true = refl
either_filled true false = refl
either_filled false true = refl
either_filled false false = refl

-- one packet more of the group at hand
pub fills_next : (plan : Plan) (old new : Filling) (stream : List (List ℕ)) (p : List ℕ) (u : ℕ)
    → Fills plan old stream u → 4 * u ≤ length stream → length stream < 4 * u + 4 → new ≡ record old {
      counter = cond (is_placeholder p) ((old.counter + 1) % 16) old.counter;
      filled = cond (is_placeholder p) true old.filled;
    } → Fills plan new (stream ++ p ∷ []) u
fills_next plan old new stream p u fills from to e = record {
  start = ap (λ (f : Filling). f.start) e ∙ fills.start;
  max_delay = ap (λ (f : Filling). f.max_delay) e ∙ fills.max_delay;
  entries = ap (λ (f : Filling). f.entries) e ∙ fills.entries;
  counter = ap (λ (f : Filling). f.counter) e
      ∙ counted (is_placeholder p) (placeholders stream) old.counter fills.counter
      ∙ ap (λ n. n % 16) (sym (placeholders-append stream (p ∷ [])
      ∙ ap (λ n. placeholders stream + n) (placeholders-one p)));
  paging = ap (λ (f : Filling). f.paging) e ∙ fills.paging
      ∙ ap (paging_of plan.transmitters) (sym (filled_groups-more stream (p ∷ []) u from));
  filled = ap (λ (f : Filling). f.filled) e
      ∙ ap (cond (is_placeholder p) true) fills.filled
      ∙ either_filled (is_filled stream u) (is_placeholder p)
      ∙ sym (is_filled-next stream p u from to);
}

-- ---- the packets

-- the states behind all whole groups before a packet of the group
group_states : (plan : Plan) (stream given : List (List ℕ)) (k : ℕ) → length stream % 4 ≡ 0 → length given < 4
    → k ≡ length stream + length given → take (4 * (k / 4)) (feed plan (stream ++ given)) ≡ feed plan stream
group_states plan stream given k whole few at =
    ap (λ n. take n (feed plan (stream ++ given))) (omega (arith, whole, few, at)) ∙ feed_front plan stream given

-- what a packet becomes: the fields count only where it is a placeholder
same_made : (said ops : Ops) (counter other k n : ℕ) (p : List ℕ)
    → (is_placeholder p ≡ false) ⊎ (said ≡ ops) → counter ≡ other → k ≡ n
    → as_feed_packet said counter k p ≡ as_feed_packet ops other n p
unfolding as_feed_packet
same_made said ops counter other k n p (inl not) e at = grind (arith, cond-false)
same_made said ops counter other k n p (inr same) e at = cc

-- one packet more of a group
pub made_next : (plan : Plan) (filling : Filling) (stream given xs : List (List ℕ)) (p : List ℕ) (k : ℕ)
    → Fills plan filling (stream ++ given) (k / 4)
    → length stream % 4 ≡ 0 → length given < 4 → k ≡ length stream + length given
    → (is_placeholder p ≡ false) ⊎ (filling.states ≡ states (feed plan stream))
    → xs ≡ drop (length stream) (feed plan (stream ++ given))
    → xs ++ as_feed_packet (filled_ops filling k) filling.counter k p ∷ []
    ≡ drop (length stream) (feed plan (stream ++ (given ++ p ∷ [])))
made_next plan filling stream given xs p k fills whole few at told e =
    let before : List (List ℕ) = stream ++ given in
    let long : k ≡ length before = omega (arith, at, length-append stream given) in
    let ops : Ops = ops_at plan before (feed plan before) (length before) in
    let next : List ℕ = as_feed_packet ops (placeholders before % 16) (length before) p in
    let says : (is_placeholder p ≡ false) ⊎ (filled_ops filling k ≡ ops) = grind (arith, said_is, group_states) in
    let here : as_feed_packet (filled_ops filling k) filling.counter k p ≡ next =
    same_made (filled_ops filling k) ops filling.counter (placeholders before % 16) k (length before) p says
    fills.counter long in
    ap₂ (λ front q. front ++ q ∷ []) e here ∙ sym (grind (arith, drop-append-le, length-feed, length-append))
    ∙ ap (drop (length stream)) (sym (feed_next plan before p) ∙ ap (feed plan) (append_assoc stream given (p ∷ [])))

-- ---- no packet

pub fills_none : (plan : Plan) (filling : Filling) (stream : List (List ℕ)) (u : ℕ) → Fills plan filling stream u
    → Fills plan filling (stream ++ []) u
fills_none plan filling stream u fills = subst (λ whole. Fills plan filling whole u) (sym (append-nil stream)) fills

pub made_none : (plan : Plan) (stream : List (List ℕ)) → [] ≡ drop (length stream) (feed plan (stream ++ []))
made_none plan stream = grind (arith, drop_all, length-feed, length-append)

-- ---- the packets that a group has

-- the next packet is still as it was given
pub still_given : (old now : List (List ℕ)) (i : ℕ) (d : List ℕ) → i < length old → length now ≡ length old
    → drop i now ≡ drop i old → (get_or now i d ≡ get_or old i d) × (drop (suc i) now ≡ drop (suc i) old)
still_given old now i d here long rest =
    let a = drop-cons now i d (omega arith) in
    let b = drop-cons old i d here in
    (cc, cc)

-- ---- a group begins

pub fills_begun : (plan : Plan) (old new : Filling) (stream : List (List ℕ)) (told : List ℕ) (u : ℕ)
    → Fills plan old stream ((length stream - 1) / 4) → length stream ≡ 4 * u → new ≡ begun old told
    → Fills plan new stream u
unfolding begun
fills_begun plan old new stream told u fills whole e =
    let before : ℕ = (length stream - 1) / 4 in
    record {
      start = ap (λ (f : Filling). f.start) e ∙ fills.start;
      max_delay = ap (λ (f : Filling). f.max_delay) e ∙ fills.max_delay;
      entries = ap (λ (f : Filling). f.entries) e ∙ fills.entries;
      counter = ap (λ (f : Filling). f.counter) e ∙ fills.counter;
      paging = ap (λ (f : Filling). f.paging) e
          ∙ ap₂ (λ turns paging. cond turns (next_page paging) paging) fills.filled fills.paging
          ∙ sym (paging_of-turn plan.transmitters (filled_groups stream before) (is_filled stream before))
          ∙ ap (paging_of plan.transmitters) (sym (filled_groups-turn stream u whole));
      filled = ap (λ (f : Filling). f.filled) e ∙ sym (is_filled-none stream u (omega (arith, whole)));
    }

-- ---- the transmitters

-- the addresses of a plan's entries differ
pub entries_differ : (ts : List Transmitter) (es : List Entry) → es ≡ map entry_of ts
    → IsDistinct nat_eq (addresses_of ts) → AllPairs (λ a b. a ≢ b) (map (λ (e : Entry). e.address) es)
entries_differ ts es e distinct = grind (arith, map-map, AllPairs-from_IsDistinct, Decides-eqb)

-- and so do those that are at hand
pub at_hand_differ : (all at_hand : List Entry) (paging : Paging) → at_hand ≡ listed all paging
    → AllPairs (λ a b. a ≢ b) (map (λ (e : Entry). e.address) all)
    → AllPairs (λ a b. a ≢ b) (map (λ (e : Entry). e.address) at_hand)
at_hand_differ all at_hand paging held differ = subst (AllPairs (λ a b. a ≢ b)) (grind (arith, listed-map))
    (AllPairs-listed (λ a b. a ≢ b) (map (λ (e : Entry). e.address) all) paging differ)

pub listed_differ : (ts : List Transmitter) (paging : Paging) → IsDistinct nat_eq (addresses_of ts)
    → AllPairs (λ a b. a ≢ b) (map (λ (e : Entry). e.address) (map entry_of (listed ts paging)))
listed_differ ts paging distinct =
    at_hand_differ (map entry_of ts) (map entry_of (listed ts paging)) paging (sym (listed-map entry_of ts paging))
    (entries_differ ts (map entry_of ts) refl distinct)
