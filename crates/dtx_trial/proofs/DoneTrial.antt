-- The files of a trial of which the headline holds.
use Rattle.std.proofs.Common.{◌≡◌, ℕ, ℤ, pos, negsuc, zero, suc, ◌+◌, ◌-◌, ◌*◌, ◌/◌, ◌<◌, ◌≤◌, List, [], ◌∷◌, ◌++◌}
use Rattle.std.proofs.Common.{length, map, drop, get_or, refl, sym, ap, subst, ◌∙◌, arith}
use Rattle.std.specs.Prelude.{Option, Some, slice_get, slice_range, codes, decimal}
use Rattle.std.specs.FinMap.{get}
use Rattle.std.specs.Int.Signed.{le_z_yes}
use Rattle.std.specs.List.{flat_map, range_with_len}
use Rattle.std.specs.Option.{option_map_or}
use Rattle.std.proofs.lemmas.Fmt.{decimal_digit}
use Rattle.std.proofs.lemmas.List.{append-nil, take_all}
use Rattle.std.proofs.lemmas.List.Folds.{flat_map-map}
use Rattle.dtx_adapter.specs.Feed.{fed_packet, feed, feed_to, ops_at}
use Rattle.dtx_adapter.proofs.FeedsLemmas.{length-feed}
use Rattle.dtx_chain.specs.Damage.{numbers_in, ArePackets, as_received}
use Rattle.dtx_coder.specs.Stream.{a53}
use Rattle.dtx_exciter.specs.Emission.{emission}
use Rattle.dtx_exciter.specs.Log.{emission_over, life_lines, log}
use Rattle.dtx_recipes.specs.Receive.{received_bytes}
use Rattle.dtx_recipes.specs.SymbolFile.{file_segments}
use Rattle.dtx_make.proofs.EntriesLemmas.{entry_at_nothing}
use Rattle.dtx_make.specs.Hurt.{hurt}
use Rattle.dtx_make.proofs.LaidBytesLemmas.{laid_none}
use Rattle.dtx_make.specs.Made.{made_stream}
use Rattle.dtx_net.specs.Lives.{lives_of, lines_of, sent_segments}
use Rattle.dtx_net.proofs.PlaceOfLemmas.{place_only}
use Rattle.dtx_net.specs.Steps.{Step}
use Rattle.dtx_network.specs.GivesBack.{BeginsField, GivesAllBack, IsAllBack, IsReceivedAlone}
use Rattle.dtx_network.specs.Headline.{HaveNoMark, IsFedAnew, IsFirstListing, stretch_of}
use Rattle.dtx_network.specs.Network.{steps_under}
use Rattle.dtx_network.specs.Orders.{has_listing, has_order, presets}
use Rattle.dtx_network.specs.Plans.{IsInTime, IsListed, IsPlan, IsStream}
use Rattle.dtx_outside.specs.Shelf.{Files}
use Rattle.dtx_packet_jobs.proofs.PacketFileLemmas.{packets_of-bytes}
use Rattle.dtx_packets.specs.Packets.{packets_of}
use Rattle.dtx_plan.specs.declared.plan.Plan.{Plan}
use Rattle.dtx_plan.specs.declared.transmitter.Transmitter.{Transmitter}
use Rattle.dtx_receiver.specs.Packets.{received}
use Rattle.dtx_schedule.specs.TransmitterFiles.{log_file, symbol_file}
use Rattle.dtx_top.specs.HeadlineOfFiles.{HeadlineOfFiles}
use Rattle.dtx_top.specs.Networks.{damaged_file, sent_file}
use Rattle.dtx_top.specs.Trial.{IsTrialDone, near, trial_events, trial_network, trial_plan, trial_transmitters}
use Rattle.dtx_top.specs.Trial.{with_trial}
use Rattle.dtx_top.specs.WorkedNetwork.{made_packets}
use Rattle.dtx_trial.proofs.MadeOrders.{IsOrdered, first_listing}
use Rattle.dtx_trial.proofs.TrialLives.{first_lives, length-made, made_unmarked, none_marked, second_lives, third_lives}
use Rattle.dtx_trial.proofs.TrialSymbols.{bytes_back, lines_are, numbers_are, stretch_is}
use Rattle.dtx_trial.specs.TrialFiles.{AreTrialFiles, feed_plan, order_line, trial_log, trial_received}
use Rattle.dtx_trial.specs.TrialFiles.{trial_symbols, whole_from_312}

-- the laws that are cited
pub record Laws : Type 0 where
  pub plan : (seed count : ℕ) → IsPlan (trial_plan seed count)
  pub stream : (seed count : ℕ) → count ≤ 624000000 → IsStream (made_packets seed count)
  pub orders : (plan : Plan) (stream : List (List ℕ)) (g : ℕ) → IsPlan plan → IsStream stream
      → has_order (feed plan stream) g ≡ has_order stream g
  pub listings : (plan : Plan) (stream : List (List ℕ)) (t : Transmitter) (g : ℕ) → IsPlan plan → IsStream stream
      → IsListed plan t → length plan.transmitters ≤ 35
      → has_listing t.address (feed plan stream) g ≡ has_order (feed plan stream) g
  pub segments : (plan : Plan) (stream : List (List ℕ)) (t : Transmitter) (delay : ℕ) (earlier : List (List ℕ))
      (mark n k : ℕ) → IsFedAnew plan stream t delay earlier mark n
      → IsFirstListing t.address (feed plan stream) mark (mark + n) k
      → emission t.address delay (earlier ++ slice_range (feed plan stream) mark (mark + n))
      ≡ stretch_of (feed plan stream) k (mark + n)
  pub lines : (plan : Plan) (stream : List (List ℕ)) (t : Transmitter) (delay : ℕ) (earlier : List (List ℕ))
      (mark n k : ℕ) → IsFedAnew plan stream t delay earlier mark n
      → IsFirstListing t.address (feed plan stream) mark (mark + n) k
      → life_lines t.address delay 0 (earlier ++ slice_range (feed plan stream) mark (mark + n))
      ≡ presets plan t.offset 0 (feed plan stream) k (mark + n)
  pub packets : (plan : Plan) (stream : List (List ℕ)) → IsPlan plan → IsStream stream → ArePackets (feed plan stream)
  pub slight : (feed : List (List ℕ)) (k end : ℕ) → ArePackets feed
      → IsReceivedAlone feed k end (stretch_of feed k end)
  pub back : (feed : List (List ℕ)) (k end : ℕ) (got : List (List ℤ)) → ArePackets feed → end ≤ length feed
      → GivesAllBack feed k end got

-- ---- the feed

-- it doesn't hang on what the plan says of a network
same_to : (seed count : ℕ) (stream : List (List ℕ)) (n : ℕ)
    → feed_to (trial_plan seed count) stream n ≡ feed_to feed_plan stream n
unfolding feed_to fed_packet ops_at
same_to seed count stream zero = refl
same_to seed count stream (suc n) =
    ap (λ (xs : List (List ℕ)). xs ++ fed_packet feed_plan stream xs n ∷ []) (same_to seed count stream n)

same_feed : (seed count : ℕ) (stream : List (List ℕ)) → feed (trial_plan seed count) stream ≡ feed feed_plan stream
unfolding feed
same_feed seed count stream = same_to seed count stream (length stream)

-- of the made stream, under the trial's whole plan
abbrev fed_of : ℕ → ℕ → List (List ℕ)
fed_of seed count = feed (trial_plan seed count) (made_packets seed count)

abbrev steps_of : ℕ → ℕ → List Step
steps_of seed count = steps_under (trial_plan seed count) (made_packets seed count) (trial_events seed count)

fed_long : (seed count : ℕ) → length (fed_of seed count) ≡ count
fed_long seed count = length-feed (trial_plan seed count) (made_packets seed count) ∙ length-made seed count

stream_of : (seed count : ℕ) → IsStream (made_packets seed count)
    → packets_of (made_stream seed count) ≡ made_packets seed count
unfolding made_stream made_packets
stream_of seed count u = ap packets_of (grind (arith, flat_map-map)) ∙ packets_of-bytes (made_packets seed count) u.long

-- ---- what a transmitter sends and logs

-- it is given packets without a mark, or none, and then the whole feed
record IsGiven (seed count : ℕ) (t : Transmitter) (who : ℕ) (earlier : List (List ℕ)) : Type 0 where
  pub listed : IsListed (trial_plan seed count) t
  pub in_time : IsInTime (trial_plan seed count) t
  pub unmarked : HaveNoMark earlier
  pub lives : lives_of who (steps_of seed count) ≡ (earlier ++ fed_of seed count) ∷ []

anew : Laws → (seed count : ℕ) → count ≤ 1000000 → (t : Transmitter) (who : ℕ) (earlier : List (List ℕ))
    → IsGiven seed count t who earlier
    → IsFedAnew (trial_plan seed count) (made_packets seed count) t t.delay earlier 0 count
anew laws seed count most t who earlier given = record {
  is_plan = laws.plan seed count;
  is_stream = laws.stream seed count (omega (arith, most));
  listed = given.listed;
  in_time = given.in_time;
  unmarked = given.unmarked;
  at_mark = refl;
  inside = omega (arith, fed_long seed count);
}

ordered : Laws → (seed count : ℕ) → count ≤ 1000000 → IsOrdered (fed_of seed count) seed count
ordered laws seed count most g = laws.orders (trial_plan seed count) (made_packets seed count) g (laws.plan seed count)
    (laws.stream seed count (omega (arith, most)))

listing : Laws → (seed count : ℕ) → 624 ≤ count → count ≤ 1000000 → (t : Transmitter)
    → IsListed (trial_plan seed count) t → IsFirstListing t.address (fed_of seed count) 0 (0 + count) 100
listing laws seed count least most t listed =
    subst (λ (n : ℕ). IsFirstListing t.address (fed_of seed count) 0 n 100) (omega arith)
    (first_listing t.address (fed_of seed count) seed count (omega (arith, least)) (ordered laws seed count most)
    (λ g. laws.listings (trial_plan seed count) (made_packets seed count) t g (laws.plan seed count)
    (laws.stream seed count (omega (arith, most))) listed (omega arith)))

all_given : (fed : List (List ℕ)) (count : ℕ) → length fed ≡ count → fed ≡ slice_range fed 0 (0 + count)
all_given fed count long = sym (take_all (0 + count - 0) fed (omega (arith, long)))

sends : Laws → (seed count : ℕ) → 624 ≤ count → count ≤ 1000000 → (t : Transmitter) (who : ℕ)
    (earlier : List (List ℕ)) → IsGiven seed count t who earlier
    → sent_segments t who (steps_of seed count) ≡ drop 101 (a53 (fed_of seed count))
unfolding sent_segments
sends laws seed count least most t who earlier given =
    let fed : List (List ℕ) = fed_of seed count in
    ap (emission_over t.address t.delay) given.lives ∙ append-nil (emission t.address t.delay (earlier ++ fed))
    ∙ ap (λ (l : List (List ℕ)). emission t.address t.delay (earlier ++ l)) (all_given fed count (fed_long seed count))
    ∙ laws.segments (trial_plan seed count) (made_packets seed count) t t.delay earlier 0 count 100
    (anew laws seed count most t who earlier given) (listing laws seed count least most t given.listed)
    ∙ ap (stretch_of fed 100) (omega arith) ∙ stretch_is fed count (fed_long seed count) (omega (arith, least))

logs : Laws → (seed count : ℕ) → 624 ≤ count → count ≤ 1000000 → (t : Transmitter) (who : ℕ)
    (earlier : List (List ℕ)) → IsGiven seed count t who earlier
    → lines_of t who (steps_of seed count) ≡ map (order_line t.offset) (range_with_len 0 ((count + 208) / 312))
unfolding lines_of log
logs laws seed count least most t who earlier given = ap (log t.address t.delay 0) given.lives
    ∙ ap (λ (l : List (List ℕ)). life_lines t.address t.delay 0 (earlier ++ l))
    (all_given (fed_of seed count) count (fed_long seed count))
    ∙ laws.lines (trial_plan seed count) (made_packets seed count) t t.delay earlier 0 count 100
    (anew laws seed count most t who earlier given) (listing laws seed count least most t given.listed)
    ∙ ap (presets (trial_plan seed count) t.offset 0 (fed_of seed count) 100) (omega arith)
    ∙ lines_are seed count (fed_of seed count) t.offset (omega (arith, least)) (ordered laws seed count most)

-- ---- the three transmitters

abbrev first : Transmitter
first = near 1 (pos 0)

abbrev second : Transmitter
second = near 2 (pos 25)

abbrev third : Transmitter
third = near 3 (negsuc 9)

first_given : Laws → (seed count : ℕ) → IsGiven seed count first 0 []
first_given laws seed count = record {
  listed = (0, omega arith, refl);
  in_time = le_z_yes tt;
  unmarked = none_marked;
  lives = first_lives seed count (made_packets seed count) (laws.plan seed count) (fed_long seed count);
}

second_given : Laws → (seed count : ℕ) → IsGiven seed count second 1 []
second_given laws seed count = record {
  listed = (1, omega arith, refl);
  in_time = le_z_yes tt;
  unmarked = none_marked;
  lives = second_lives seed count (made_packets seed count) (laws.plan seed count) (fed_long seed count);
}

third_given : Laws → (seed count : ℕ) → IsGiven seed count third 2 (made_packets seed 50)
third_given laws seed count = record {
  listed = (2, omega arith, refl);
  in_time = le_z_yes tt;
  unmarked = made_unmarked seed 50;
  lives = third_lives seed count (made_packets seed count) (laws.plan seed count) (fed_long seed count);
}

-- the two files of each
symbols_of_one : Laws → (seed count : ℕ) → 624 ≤ count → count ≤ 1000000 → (t : Transmitter) (who : ℕ)
    (earlier : List (List ℕ)) → IsGiven seed count t who earlier
    → symbol_file t who (steps_of seed count) ≡ trial_symbols seed count
unfolding symbol_file
symbols_of_one laws seed count least most t who earlier given = grind (arith, sends, same_feed)

log_of_one : Laws → (seed count : ℕ) → 624 ≤ count → count ≤ 1000000 → (t : Transmitter) (who : ℕ)
    (earlier : List (List ℕ)) → IsGiven seed count t who earlier
    → log_file t who (steps_of seed count) ≡ trial_log count t.offset
unfolding log_file
log_of_one laws seed count least most t who earlier given = grind (arith, logs)

-- ---- what is received

no_damage : (file : List ℕ) → hurt [] file ≡ file
no_damage file = sym (laid_none [] 0 file (λ k _ _. entry_at_nothing k))

third_sends : (seed count : ℕ) (stream : List (List ℕ)) → IsPlan (trial_plan seed count)
    → sent_file (trial_plan seed count) (trial_network seed count) stream 3
    ≡ symbol_file third 2 (steps_under (trial_plan seed count) stream (trial_events seed count))
unfolding sent_file
third_sends seed count stream p =
    let own : ℕ → Transmitter → List ℕ =
    λ who t. symbol_file t who (steps_under (trial_plan seed count) stream (trial_events seed count)) in
    ap (λ (o : Option ℕ). option_map_or (λ who. option_map_or (own who) (slice_get trial_transmitters who) []) o [])
    (place_only trial_transmitters 2 third p.sound.transmitters refl)

taken : (seed count : ℕ) (stream : List (List ℕ)) → IsPlan (trial_plan seed count)
    → damaged_file (trial_plan seed count) (trial_network seed count) stream (record { from = 3; damage = [] })
    ≡ symbol_file third 2 (steps_under (trial_plan seed count) stream (trial_events seed count))
unfolding damaged_file
taken seed count stream p = grind (arith, no_damage, third_sends)

begins_field : (count : ℕ) → 624 ≤ count → BeginsField 100 count 312
begins_field count least = record { begins = refl; behind = omega arith; inside = omega (arith, least) }

-- of the stretch, the packets of the feed from 312 on
all_back : Laws → (seed count : ℕ) → 624 ≤ count → count ≤ 1000000
    → IsAllBack (fed_of seed count) 100 312 (stretch_of (fed_of seed count) 100 count)
all_back laws seed count least most =
    let are : ArePackets (fed_of seed count) = laws.packets (trial_plan seed count) (made_packets seed count)
    (laws.plan seed count) (laws.stream seed count (omega (arith, most))) in
    laws.back (fed_of seed count) 100 count (stretch_of (fed_of seed count) 100 count) are
    (omega (arith, fed_long seed count)) (begins_field count least) (laws.slight (fed_of seed count) 100 count are)

received_of : Laws → (seed count : ℕ) → 624 ≤ count → count ≤ 1000000
    → flat_map (λ p. p) (received (drop 101 (a53 (fed_of seed count)))) ≡ trial_received seed count
received_of laws seed count least most =
    let fed : List (List ℕ) = fed_of seed count in
    let many : ℕ = whole_from_312 (4 * (count / 4)) in
    let back : ℕ → List ℕ = λ j. as_received (get_or fed (312 + j) []) in
    let stretch : stretch_of fed 100 count ≡ drop 101 (a53 fed) = grind (arith, stretch_is, fed_long) in
    ap (λ (got : List (List ℤ)). flat_map (λ p. p) (received got)) (sym stretch)
    ∙ ap (flat_map (λ p. p)) (all_back laws seed count least most).packets
    ∙ ap (λ (got : List (List ℤ)). flat_map (λ p. p) (map back (numbers_in (drop 212 got)))) stretch
    ∙ ap (λ (js : List ℕ). flat_map (λ p. p) (map back js)) (grind (arith, numbers_are, fed_long)) ∙ bytes_back fed many
    ∙ ap (λ (packets : List (List ℕ)). flat_map (λ k. as_received (get_or packets k [])) (range_with_len 312 many))
    (same_feed seed count (made_packets seed count))

file_received : Laws → (seed count : ℕ) → 624 ≤ count → count ≤ 1000000
    → file_segments (symbol_file third 2 (steps_of seed count)) ≡ sent_segments third 2 (steps_of seed count)
    → received_bytes (damaged_file (trial_plan seed count) (trial_network seed count) (made_packets seed count)
    (record { from = 3; damage = [] })) ≡ trial_received seed count
file_received laws seed count least most cut =
    ap received_bytes (taken seed count (made_packets seed count) (laws.plan seed count))
    ∙ ap (λ (got : List (List ℤ)). flat_map (λ p. p) (received got))
    (cut ∙ sends laws seed count least most third 2 (made_packets seed 50) (third_given laws seed count))
    ∙ received_of laws seed count least most

-- ---- all files

-- a file of the transmitter at an address of one digit
named : (now : Files) (address : ℕ) (ending bytes : List ℕ) → address < 10
    → get now (codes "tx-" ++ (decimal address ++ ending)) ≡ Some bytes
    → get now (codes "tx-" ++ ((48 + address) ∷ ending)) ≡ Some bytes
named now address ending bytes small is = grind (arith, decimal_digit)

files_of : Laws → (seed count : ℕ) (held now : Files) → 624 ≤ count → count ≤ 1000000
    → get now (codes "trial.ts") ≡ Some (made_stream seed count)
    → HeadlineOfFiles (trial_plan seed count) (trial_network seed count) (made_packets seed count) held now
    → AreTrialFiles seed count now
files_of laws seed count held now least most made h = record {
  stream = made;
  feed = grind (arith, same_feed);
  symbols_1 = named now 1 (codes ".sym") _ (omega arith) (h.files.sent.symbols 0 first refl)
      ∙ ap Some (symbols_of_one laws seed count least most first 0 [] (first_given laws seed count));
  symbols_2 = named now 2 (codes ".sym") _ (omega arith) (h.files.sent.symbols 1 second refl)
      ∙ ap Some (symbols_of_one laws seed count least most second 1 [] (second_given laws seed count));
  symbols_3 = named now 3 (codes ".sym") _ (omega arith) (h.files.sent.symbols 2 third refl)
      ∙ ap Some (symbols_of_one laws seed count least most third 2 (made_packets seed 50)
      (third_given laws seed count));
  log_1 = named now 1 (codes ".log") _ (omega arith) (h.files.sent.logs 0 first refl)
      ∙ ap Some (log_of_one laws seed count least most first 0 [] (first_given laws seed count));
  log_2 = named now 2 (codes ".log") _ (omega arith) (h.files.sent.logs 1 second refl)
      ∙ ap Some (log_of_one laws seed count least most second 1 [] (second_given laws seed count));
  log_3 = named now 3 (codes ".log") _ (omega arith) (h.files.sent.logs 2 third refl)
      ∙ ap Some (log_of_one laws seed count least most third 2 (made_packets seed 50) (third_given laws seed count));
  received = h.files.received ∙ ap Some (file_received laws seed count least most (h.segments 2 third refl));
}

pub trial_files : Laws → (seed count : ℕ) (held now : Files) → 624 ≤ count → count ≤ 1000000
    → IsTrialDone seed count held now → AreTrialFiles seed count now
trial_files laws seed count held now least most done =
    files_of laws seed count (with_trial seed count held) now least most done.stream
    (subst (λ (stream : List (List ℕ)). HeadlineOfFiles (trial_plan seed count) (trial_network seed count) stream
    (with_trial seed count held) now) (stream_of seed count (grind arith)) done.network)
