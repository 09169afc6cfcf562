-- What `adapt` leaves at one end, and what two transmitters send of it at others, where all calls are done.
use Rattle.std.proofs.Common.{◌≡◌, ◌≢◌, ℕ, ◌+◌, ◌-◌, ◌*◌, ◌%◌, ◌≤◌, ◌==◌, ◌&&◌, Bool, true, false, List, [], ◌∷◌, ◌++◌}
use Rattle.std.proofs.Common.{length, take, refl, sym, ◌∙◌, subst, arith}
use Rattle.std.specs.Prelude.{Option, Some, None, Ok, IfSome, slice_range}
use Rattle.std.specs.FinMap.{get}
use Rattle.std.specs.List.{All, find, range_with_len}
use Rattle.std.proofs.lemmas.Bool.{and_parts, eq-eqb, eqb-true}
use Rattle.std.proofs.lemmas.List.{append-nil, take_all}
use Rattle.std.proofs.lemmas.List.Elements.{All-contains}
use Rattle.dtx_lists.proofs.RangeSearch.{IsFirst, find-range_gives, find-range_misses}
use Rattle.dtx_galois.specs.Field.{AreBytes}
use Rattle.dtx_adapter.specs.Feed.{feed}
use Rattle.dtx_engine.specs.Made.{both, only}
use Rattle.dtx_engine.specs.Recipe.{meaning_of_file}
use Rattle.dtx_files.specs.LogText.{log_text}
use Rattle.dtx_files.specs.Symbols.{segment_bytes}
use Rattle.dtx_forms.proofs.AllowedFileLemmas.{all_read}
use Rattle.dtx_forms.specs.Shapes.{coded_packets, packets}
use Rattle.dtx_meaning.specs.Meaning.{IsAnswered, Meaning}
use Rattle.dtx_meaning.specs.declared.status.Status.{Status}
use Rattle.dtx_meaning.specs.declared.status.Status.TheVariants.{Done}
use Rattle.dtx_network.specs.Headline.{HasNoListing, HaveNoMark, IsFedAnew, IsFirstListing, stretch_of}
use Rattle.dtx_network.specs.Orders.{has_listing, has_order, presets}
use Rattle.dtx_network.specs.Plans.{IsInTime, IsListed, IsPlan, IsStream}
use Rattle.dtx_outside.specs.Shelf.{Files}
use Rattle.dtx_packets.specs.Packets.{packets_of, whole_packets}
use Rattle.dtx_recipes.specs.Adapt.{feeding, feed_bytes}
use Rattle.dtx_plan.specs.Plan.{plan_of}
use Rattle.dtx_plan.specs.Sound.{IsSound}
use Rattle.dtx_plan.specs.declared.plan.Plan.{Plan}
use Rattle.dtx_plan.specs.declared.transmitter.Transmitter.{Transmitter}
use Rattle.dtx_recipes.specs.Excite.{exciting}
use Rattle.dtx_repeated_feed.specs.DoneWith.{IsDoneWith}
use Rattle.dtx_top.proofs.StreamsLemmas.{is_stream}
use Rattle.dtx_file_laws.specs.Back.{Holds}
use Rattle.dtx_file_laws.proofs.Answered.{one_holds, read_whole}
use Rattle.dtx_file_laws.proofs.BothEnds.{holds_one, told_so}
use Rattle.dtx_file_laws.proofs.Excited.{few_read, two_hold, whole_read}

-- ---- the feed

-- the laws of plans and feeds
pub record Laws : Type 0 where
  pub plan : (bytes : List ℕ) (plan : Plan) → plan_of bytes ≡ Ok plan → IsPlan plan
  pub read : (plan : Plan) (stream : List (List ℕ)) → IsSound plan → All (λ packet. length packet ≡ 188) stream
      → packets_of (feed_bytes plan stream) ≡ feed plan stream
  pub one_page : (plan : Plan) (stream : List (List ℕ)) (t : Transmitter) (g : ℕ) → IsPlan plan → IsStream stream
      → IsListed plan t → length plan.transmitters ≤ 35
      → has_listing t.address (feed plan stream) g ≡ has_order (feed plan stream) g
  pub listed : (plan : Plan) (stream : List (List ℕ)) (t : Transmitter) (delay : ℕ) (earlier : List (List ℕ))
      (mark n k : ℕ) (names : List (List ℕ)) (file : List ℕ) → whole_packets file ≤ 624000000
      → IsFedAnew plan stream t delay earlier mark n
      → packets_of file ≡ earlier ++ slice_range (feed plan stream) mark (mark + n)
      → IsFirstListing t.address (feed plan stream) mark (mark + n) k
      → IsDoneWith names (both (segment_bytes (stretch_of (feed plan stream) k (mark + n)))
      (log_text (presets plan t.offset 0 (feed plan stream) k (mark + n))))
      (meaning_of_file coded_packets (exciting t.address delay) names file)
  pub unlisted : (plan : Plan) (stream : List (List ℕ)) (t : Transmitter) (delay : ℕ) (earlier : List (List ℕ))
      (mark n : ℕ) (names : List (List ℕ)) (file : List ℕ) → whole_packets file ≤ 624000000
      → IsFedAnew plan stream t delay earlier mark n
      → packets_of file ≡ earlier ++ slice_range (feed plan stream) mark (mark + n)
      → HasNoListing t.address (feed plan stream) mark (mark + n)
      → IsDoneWith names (only []) (meaning_of_file coded_packets (exciting t.address delay) names file)

-- what `adapt` leaves
pub record IsFeedOf (plan : Plan) (stream : List ℕ) (name : List ℕ) (now : Option Files) : Type 0 where
  pub few : whole_packets stream ≤ 624000000
  pub file : Holds now name (feed_bytes plan (packets_of stream))

feed_left : (plan : Plan) (output stream : List ℕ) (held : Files) (now : Option Files) (status : Status) → status ≡ Done
    → IsAnswered (meaning_of_file packets (feeding plan) (output ∷ []) stream) (Some held) status now
    → IsFeedOf plan stream output now
feed_left plan output stream held now status done answered =
    let m : Meaning = meaning_of_file packets (feeding plan) (output ∷ []) stream in
    let front : List ℕ = take (188 * whole_packets stream) stream in
    let whole = read_whole packets (feeding plan) (output ∷ []) stream (sym answered.answer ∙ done) in
    let is = all_read packets (feeding plan) (output ∷ []) stream whole.allowed whole.few in
    let fed : List ℕ = feed_bytes plan (packets_of stream) in
    record {
      few = whole.few;
      file = one_holds m output fed held now status (grind (arith, append-nil, whole_read)) answered;
    }

pub feed_is : (plan : Plan) (planned input output bytes stream : List ℕ) (status : Status)
    (start now : Option Files) → Holds start planned bytes → Holds start input stream → status ≡ Done
    → IfSome start (λ held. get held planned ≡ Some bytes → get held input ≡ Some stream → status ≡ Done
    → IsAnswered (meaning_of_file packets (feeding plan) (output ∷ []) stream) (Some held) status now)
    → IsFeedOf plan stream output now
feed_is plan planned input output bytes stream status (Some held) now there here done call = grind (arith, feed_left)
feed_is plan planned input output bytes stream status None now there here done call = elim there [ ]

-- ---- the first order that counts

-- a group begins there, and has an order
abbrev orders_at : List (List ℕ) → ℕ → Bool
orders_at fed g = (g % 4 == 0) && has_order fed g

first_is : (fed : List (List ℕ)) (a k : ℕ) → ((g : ℕ) → has_listing a fed g ≡ has_order fed g)
    → IsFirst (orders_at fed) 52 (length fed - 3 - 52) k → IsFirstListing a fed 0 (0 + length fed) k
first_is fed a k same first = grind (arith, and_parts, eqb-true, eq-eqb)

none_is : (fed : List (List ℕ)) (a : ℕ) → ((g : ℕ) → has_listing a fed g ≡ has_order fed g)
    → find (orders_at fed) (range_with_len 52 (length fed - 3 - 52)) ≡ None → HasNoListing a fed 0 (0 + length fed)
none_is fed a same none = λ g z l m.
    same g ∙ ordered (has_order fed g) (g % 4 == 0) (eq-eqb (g % 4) 0 z)
    (find-range_misses (orders_at fed) 52 (length fed - 3 - 52) none g (omega (arith, l)) (omega (arith, l, m)))
  where
    ordered : (x y : Bool) → y ≡ true → (y && x) ≡ false → x ≡ false
    ordered true true e f = f
    ordered true false e f = cc
    ordered false y e f = refl

-- ---- what a transmitter sends

-- a call of a transmitter is done
pub record IsExcited (t : Transmitter) (input output log file : List ℕ) (status : Status)
    (start now : Option Files) : Type 0 where
  pub apart : output ≢ log
  pub there : Holds start input file
  pub done : status ≡ Done
  pub files : IfSome start (λ held. get held input ≡ Some file → status ≡ Done
      → IsAnswered (meaning_of_file coded_packets (exciting t.address t.delay) (output ∷ log ∷ []) file) (Some held)
      status now)

no_mark : HaveNoMark []
no_mark = λ i l. absurd (omega (arith, l))

pub fed_anew : (plan : Plan) (stream : List (List ℕ)) (t : Transmitter) → IsPlan plan → IsStream stream
    → IsListed plan t → IsInTime plan t → IsFedAnew plan stream t t.delay [] 0 (length (feed plan stream))
fed_anew plan stream t is_plan is listed in_time = grind (arith, is_stream, no_mark)

-- it holds what is made, whatever that is
pub sends : (t : Transmitter) (input output log file : List ℕ) (status : Status) (start now : Option Files)
    (made logged : List ℕ) → IsExcited t input output log file status start now
    → (whole_packets file ≤ 624000000 → IsDoneWith (output ∷ log ∷ []) (both made logged)
    (meaning_of_file coded_packets (exciting t.address t.delay) (output ∷ log ∷ []) file)) → Holds now output made
sends t input output log file status start now made logged call means =
    told_so start input file _ _ call.there call.files (λ held _ here of.
    let answered = of here call.done in
    let m : Meaning = meaning_of_file coded_packets (exciting t.address t.delay) (output ∷ log ∷ []) file in
    (two_hold m output log made logged held now status call.apart
    (means (few_read t.address t.delay (output ∷ log ∷ []) file (sym answered.answer ∙ call.done))).outputs answered).0)

-- where a transmitter of the plan is given the feed
pub record IsOfPlan (plan : Plan) (t : Transmitter) : Type 0 where
  pub listed : IsListed plan t
  pub in_time : IsInTime plan t

-- what it sends, by where the first order that counts is found
made_by : Plan → List (List ℕ) → Option ℕ → List ℕ
made_by plan stream (Some k) = segment_bytes (stretch_of (feed plan stream) k (0 + length (feed plan stream)))
made_by plan stream None = []

excited_is : Laws → (plan : Plan) (stream : List (List ℕ)) (t : Transmitter) (input output log : List ℕ)
    (status : Status) (start now : Option Files) → IsPlan plan → IsStream stream → length plan.transmitters ≤ 35
    → IsOfPlan plan t → IsExcited t input output log (feed_bytes plan stream) status start now → (found : Option ℕ)
    → find (orders_at (feed plan stream)) (range_with_len 52 (length (feed plan stream) - 3 - 52)) ≡ found
    → Holds now output (made_by plan stream found)
unfolding made_by
excited_is laws plan stream t input output log status start now is_plan is few of call (Some k) found =
    let fed : List (List ℕ) = feed plan stream in
    let file : List ℕ = feed_bytes plan stream in
    sends t input output log file status start now
    (segment_bytes (stretch_of fed k (0 + length fed))) (log_text (presets plan t.offset 0 fed k (0 + length fed))) call
    (λ small. laws.listed plan stream t t.delay [] 0 (length fed) k (output ∷ log ∷ []) file small
    (fed_anew plan stream t is_plan is of.listed of.in_time)
    (laws.read plan stream is_plan.sound is.long ∙ sym (take_all (0 + length fed - 0) fed (omega arith)))
    (first_is fed t.address k (λ g. laws.one_page plan stream t g is_plan is of.listed few)
    (find-range_gives (orders_at fed) 52 (length fed - 3 - 52) k found)))
excited_is laws plan stream t input output log status start now is_plan is few of call None found =
    let fed : List (List ℕ) = feed plan stream in
    let file : List ℕ = feed_bytes plan stream in
    sends t input output log file status start now [] [] call
    (λ small. laws.unlisted plan stream t t.delay [] 0 (length fed) (output ∷ log ∷ []) file small
    (fed_anew plan stream t is_plan is of.listed of.in_time)
    (laws.read plan stream is_plan.sound is.long ∙ sym (take_all (0 + length fed - 0) fed (omega arith)))
    (none_is fed t.address (λ g. laws.one_page plan stream t g is_plan is of.listed few) found))

-- ---- both

pub same_sent : Laws → (plan : Plan) (bytes stream fed : List ℕ) (name : List ℕ) (left : Option Files)
    → plan_of bytes ≡ Ok plan → length plan.transmitters ≤ 35 → AreBytes stream → IsFeedOf plan stream name left
    → Holds left name fed → (t u : Transmitter) → IsOfPlan plan t → IsOfPlan plan u
    → (input output log input_2 output_2 log_2 : List ℕ) (first second : Status) (start now at then : Option Files)
    → IsExcited t input output log fed first start now → IsExcited u input_2 output_2 log_2 fed second at then
    → (symbols : List ℕ) × Holds now output symbols × Holds then output_2 symbols
same_sent laws plan bytes stream fed name left says few are feeds holds t u of_t of_u input output log input_2 output_2
    log_2 first second start now at then call other =
    let is_plan = laws.plan bytes plan says in
    let is = is_stream stream are feeds.few in
    let list : List (List ℕ) = packets_of stream in
    let all : List (List ℕ) = feed plan list in
    let found : Option ℕ = find (orders_at all) (range_with_len 52 (length all - 3 - 52)) in
    let same : fed ≡ feed_bytes plan list = holds_one left name fed (feed_bytes plan list) holds feeds.file in (
      made_by plan list found,
      excited_is laws plan list t input output log first start now is_plan is few of_t
          (subst (λ (f : List ℕ). IsExcited t input output log f first start now) same call) found refl,
      excited_is laws plan list u input_2 output_2 log_2 second at then is_plan is few of_u
          (subst (λ (f : List ℕ). IsExcited u input_2 output_2 log_2 f second at then) same other) found refl,
    )

-- the numbers of a transmitter of a plan are those that words may have
pub record HasNumbers (t : Transmitter) : Type 0 where
  pub address : t.address ≤ 65535
  pub delay : t.delay ≤ 4294967295

pub numbers_of : (plan : Plan) (t : Transmitter) → IsPlan plan → IsListed plan t → HasNumbers t
numbers_of plan t is listed = grind (arith, All-contains)
