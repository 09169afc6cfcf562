-- What a transmitter sends of a feed is the end of what `code` writes of it.
use Rattle.std.proofs.Common.{◌≡◌, ◌≢◌, ℕ, ℤ, zero, suc, ◌+◌, ◌-◌, ◌*◌, ◌≤◌, List, [], ◌∷◌, length}
use Rattle.std.proofs.Common.{map, drop, refl, sym, ap, ap₂, ◌∙◌, subst, arith}
use Rattle.std.specs.Prelude.{Option, Ok}
use Rattle.std.proofs.Math.Seq.{drop-append_seam}
use Rattle.std.proofs.lemmas.List.{drop-drop, length-drop, length-map, map-append, take_all}
use Rattle.dtx_galois.specs.Field.{AreBytes}
use Rattle.dtx_adapter.specs.Feed.{feed}
use Rattle.dtx_adapter.proofs.FeedsLemmas.{length-feed}
use Rattle.dtx_coder.proofs.CountsLemmas.{AreSegments, a53_segment, length-a53}
use Rattle.dtx_coder.specs.Stream.{a53, symbols_of}
use Rattle.dtx_exciter.specs.Lockstep.{segment_place}
use Rattle.dtx_files.specs.LogText.{log_text}
use Rattle.dtx_files.specs.Symbols.{byte_of_symbol, segment_bytes}
use Rattle.dtx_meaning.specs.declared.status.Status.{Status}
use Rattle.dtx_network.specs.Headline.{IsFirstListing, last_packet, stretch_of}
use Rattle.dtx_network.specs.Orders.{has_order, presets}
use Rattle.dtx_network.specs.Plans.{IsPlan, IsStream}
use Rattle.dtx_outside.specs.Shelf.{Files}
use Rattle.dtx_packets.specs.Packets.{packets_of}
use Rattle.dtx_recipes.specs.Adapt.{feed_bytes}
use Rattle.dtx_plan.specs.Plan.{plan_of}
use Rattle.dtx_plan.specs.declared.plan.Plan.{Plan}
use Rattle.dtx_plan.specs.declared.transmitter.Transmitter.{Transmitter}
use Rattle.dtx_jobs.proofs.SymbolsBackLemmas.{each_of}
use Rattle.dtx_recipes.specs.SymbolFile.{symbol_bytes}
use Rattle.dtx_file_laws.specs.Orders.{IsFirstOrder}
use Rattle.dtx_file_laws.specs.Back.{Holds}
use Rattle.dtx_file_laws.proofs.BothEnds.{IsCoded, code_keeps, coded_is, holds_one}
use Rattle.dtx_file_laws.proofs.Captured.{stream_bytes}
use Rattle.dtx_top.proofs.StreamsLemmas.{is_stream}
use Rattle.dtx_file_laws.proofs.FeedEnds.{IsExcited, IsFeedOf, IsOfPlan, Laws, fed_anew, sends}

-- ---- symbols

nothing_left : (n : ℕ) → drop {A = ℕ} n [] ≡ []
nothing_left zero = refl
nothing_left (suc n) = refl

-- the bytes from one segment on
bytes_from : (segments : List (List ℤ)) (p : ℕ) → AreSegments segments
    → segment_bytes (drop p segments) ≡ drop (832 * p) (segment_bytes segments)
bytes_from segments zero long = let z : 0 ≡ 832 * 0 = omega arith in ap (λ n. drop n (segment_bytes segments)) z
bytes_from [] (suc p) long = sym (nothing_left (832 * suc p))
bytes_from (s ∷ segments) (suc p) long =
    let more : 832 + 832 * p ≡ 832 * suc p = omega arith in
    let bytes : List ℕ = map byte_of_symbol s in
    let own : length bytes ≡ 832 = length-map s byte_of_symbol ∙ long.0 in
    let behind : drop 832 (segment_bytes (s ∷ segments)) ≡ segment_bytes segments =
    ap₂ (λ n xs. drop n xs) (sym own) (map-append byte_of_symbol s (symbols_of segments))
    ∙ drop-append_seam bytes (segment_bytes segments) in
    bytes_from segments p long.1
    ∙ ap (drop (832 * p)) (sym behind)
    ∙ drop-drop (832 * p) 832 (segment_bytes (s ∷ segments))
    ∙ ap (λ n. drop n (segment_bytes (s ∷ segments))) more

-- the stretch to the end of a feed
stretch_to_end : (fed : List (List ℕ)) (k : ℕ) → k + 4 ≤ length fed
    → stretch_of fed k (0 + length fed) ≡ drop (segment_place k) (a53 fed)
unfolding stretch_of
stretch_to_end fed k whole =
    take_all (segment_place (last_packet (0 + length fed)) + 1 - segment_place k) (drop (segment_place k) (a53 fed))
    (omega (arith, whole, length-drop (segment_place k) (a53 fed), length-a53 fed))

pub own_symbols : (fed : List (List ℕ)) (k : ℕ) → k + 4 ≤ length fed
    → segment_bytes (stretch_of fed k (0 + length fed)) ≡ drop (832 * segment_place k) (symbol_bytes fed)
own_symbols fed k whole = ap segment_bytes (stretch_to_end fed k whole)
    ∙ bytes_from (a53 fed) (segment_place k) (each_of (λ s. length s ≡ 832) (a53 fed) [] (a53_segment fed))
    ∙ ap (drop (832 * segment_place k)) (stream_bytes fed)

-- ---- a transmitter

-- orders of a feed are the placeholders of its stream
abbrev pub OrdersLaw : Type 0
OrdersLaw = (plan : Plan) (stream : List (List ℕ)) (g : ℕ) → IsPlan plan → IsStream stream
    → has_order (feed plan stream) g ≡ has_order stream g

listing_is : Laws → OrdersLaw → (plan : Plan) (stream : List (List ℕ)) (t : Transmitter) (k : ℕ) → IsPlan plan
    → IsStream stream → length plan.transmitters ≤ 35 → IsOfPlan plan t → IsFirstOrder stream k
    → IsFirstListing t.address (feed plan stream) 0 (0 + length (feed plan stream)) k
listing_is laws orders plan stream t k is_plan is few of first = record {
  group = first.group;
  behind = omega (arith, first.behind);
  whole = omega (arith, first.whole, length-feed plan stream);
  listing = laws.one_page plan stream t k is_plan is of.listed few ∙ orders plan stream k is_plan is ∙ first.order;
  least = λ i z l m. laws.one_page plan stream t i is_plan is of.listed few ∙ orders plan stream i is_plan is
      ∙ first.least i z (omega (arith, l)) m;
}

pub sends_own : Laws → OrdersLaw → (plan : Plan) (bytes stream name fed symbols : List ℕ) (left : Option Files)
    → plan_of bytes ≡ Ok plan → length plan.transmitters ≤ 35 → AreBytes stream → IsFeedOf plan stream name left
    → Holds left name fed → symbols ≡ symbol_bytes (packets_of fed) → (t : Transmitter) → IsOfPlan plan t → (k : ℕ)
    → IsFirstOrder (packets_of stream) k → (input output log : List ℕ) (status : Status) (start now : Option Files)
    → IsExcited t input output log fed status start now → Holds now output (drop (832 * segment_place k) symbols)
sends_own laws orders plan bytes stream name fed symbols left says few are feeds holds coded t of k first input output
    log status start now call =
    let is_plan = laws.plan bytes plan says in
    let is = is_stream stream are feeds.few in
    let list : List (List ℕ) = packets_of stream in
    let all : List (List ℕ) = feed plan list in
    let file : List ℕ = feed_bytes plan list in
    let same : fed ≡ file = holds_one left name fed file holds feeds.file in
    let read : packets_of file ≡ all = laws.read plan list is_plan.sound is.long in
    let own : segment_bytes (stretch_of all k (0 + length all)) ≡ drop (832 * segment_place k) symbols =
    own_symbols all k (omega (arith, first.whole, length-feed plan list))
    ∙ ap (drop (832 * segment_place k)) (ap symbol_bytes (sym read ∙ ap packets_of (sym same)) ∙ sym coded) in
    subst (λ (sent : List ℕ). Holds now output sent) own
    (sends t input output log file status start now (segment_bytes (stretch_of all k (0 + length all)))
    (log_text (presets plan t.offset 0 all k (0 + length all)))
    (subst (λ (f : List ℕ). IsExcited t input output log f status start now) same call)
    (λ small. laws.listed plan list t t.delay [] 0 (length all) k (output ∷ log ∷ []) file small
    (fed_anew plan list t is_plan is of.listed of.in_time)
    (read ∙ sym (take_all (0 + length all - 0) all (omega arith)))
    (listing_is laws orders plan list t k is_plan is few of first)))

-- ---- all calls

pub record IsLeft (plan : Plan) (stream name fed symbols : List ℕ) (left : Option Files) : Type 0 where
  pub feeds : IsFeedOf plan stream name left
  pub coded : symbols ≡ symbol_bytes (packets_of fed)

-- the studio adapts a stream, and then codes its feed
pub studio : (plan : Plan) (stream name sent fed symbols : List ℕ) (status : Status) (mid left : Option Files)
    → IsFeedOf plan stream name mid → name ≢ sent → (Holds mid name (feed_bytes plan (packets_of stream))
    → IsCoded name sent (feed_bytes plan (packets_of stream)) status mid left)
    → Holds left name fed → Holds left sent symbols → IsLeft plan stream name fed symbols left
studio plan stream name sent fed symbols status mid left feeds apart code holds coded =
    let file : List ℕ = feed_bytes plan (packets_of stream) in
    let call = code feeds.file in
    let stays = code_keeps name sent file name file status mid left call apart feeds.file in
    let same : fed ≡ file = holds_one left name fed file holds stays in
    record {
      feeds = record { few = feeds.few; file = stays };
      coded = holds_one left sent symbols (symbol_bytes (packets_of file)) coded
          (coded_is name sent file status mid left call).1
          ∙ ap (λ (f : List ℕ). symbol_bytes (packets_of f)) (sym same);
    }
