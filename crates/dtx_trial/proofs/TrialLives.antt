-- What the transmitters of a trial are given: each has one life, which ends with the whole feed.
use Rattle.std.proofs.Common.{◌≡◌, ◌≢◌, ℕ, pos, negsuc, ◌+◌, ◌==◌, List, [], ◌∷◌, ◌++◌, Option, Some, length, map, refl}
use Rattle.std.proofs.Common.{sym, ap, ◌∙◌, arith}
use Rattle.std.specs.List.{range_with_len}
use Rattle.std.proofs.lemmas.List.{append-nil, append_assoc, get_or-map}
use Rattle.std.proofs.lemmas.List.FromFn.{length-map-range_with_len}
use Rattle.dtx_adapter.specs.Feed.{feed}
use Rattle.dtx_lists.proofs.RangeMoved.{map-range_moved}
use Rattle.dtx_make.specs.Made.{made_packet}
use Rattle.dtx_net.specs.Lives.{lives_from, lives_of, own_steps}
use Rattle.dtx_net.proofs.OwnLemmas.{own_elsewhere, own_here, own_steps-append}
use Rattle.dtx_net.proofs.PlaceOfLemmas.{place_only}
use Rattle.dtx_net.specs.Steps.{actions_of, feed_packet, schedule, steps_at, steps_of, transmitter_place}
use Rattle.dtx_network.specs.Headline.{HaveNoMark}
use Rattle.dtx_network.specs.Network.{steps_under}
use Rattle.dtx_network.specs.Plans.{IsPlan}
use Rattle.dtx_exciter.specs.Packets.{syncs}
use Rattle.dtx_packets.specs.Packets.{sync_of}
use Rattle.dtx_plan.specs.Sound.{to_of}
use Rattle.dtx_plan.specs.declared.event.Event.{Event}
use Rattle.dtx_plan.specs.declared.event.Event.TheVariants.{Foreign, Send}
use Rattle.dtx_plan.specs.declared.transmitter.Transmitter.{Transmitter}
use Rattle.dtx_top.specs.Trial.{near, trial_events, trial_plan, trial_transmitters}
use Rattle.dtx_top.specs.WorkedNetwork.{made_packets}
use Rattle.dtx_trial.proofs.MadeOrders.{made_at}

-- ---- the steps of one transmitter

own_all : (who : ℕ) (actions : List (Option (List ℕ))) → own_steps who (steps_at (Some who) actions) ≡ actions
own_all who [] = refl
own_all who (a ∷ actions) = own_here who (record { who = who; packet = a }) (steps_at (Some who) actions) refl
    ∙ ap (λ (rest : List (Option (List ℕ))). a ∷ rest) (own_all who actions)

own_none : (who other : ℕ) (actions : List (Option (List ℕ))) → other ≢ who
    → own_steps who (steps_at (Some other) actions) ≡ []
own_none who other [] n = refl
own_none who other (a ∷ actions) n =
    own_elsewhere who (record { who = other; packet = a }) (steps_at (Some other) actions) n
    ∙ own_none who other actions n

own_more : (ts : List Transmitter) (fed : List (List ℕ)) (who : ℕ) (event : Event) (events : List Event)
    → own_steps who (schedule ts fed (event ∷ events))
    ≡ own_steps who (steps_of ts fed event) ++ own_steps who (schedule ts fed events)
unfolding schedule
own_more ts fed who event events = own_steps-append who (steps_of ts fed event) (schedule ts fed events)

none_left : (ts : List Transmitter) (fed : List (List ℕ)) (who : ℕ) → own_steps who (schedule ts fed []) ≡ []
unfolding schedule
none_left ts fed who = refl

of_other : (ts : List Transmitter) (fed : List (List ℕ)) (who other : ℕ) (event : Event) (events : List Event)
    → transmitter_place (to_of event) ts ≡ Some other → other ≢ who
    → own_steps who (schedule ts fed (event ∷ events)) ≡ own_steps who (schedule ts fed events)
unfolding steps_of
of_other ts fed who other event events e n = grind (arith, own_more, own_none)

of_own : (ts : List Transmitter) (fed : List (List ℕ)) (who : ℕ) (event : Event) (events : List Event)
    → transmitter_place (to_of event) ts ≡ Some who
    → own_steps who (schedule ts fed (event ∷ events)) ≡ actions_of fed event ++ own_steps who (schedule ts fed events)
unfolding steps_of
of_own ts fed who event events e = grind (arith, own_more, own_all)

-- ---- packets in a row

in_row : (f : ℕ → List ℕ) (life : List (List ℕ)) (ks : List ℕ) (rest : List (Option (List ℕ)))
    → lives_from life (map (λ k. Some (f k)) ks ++ rest) ≡ lives_from (life ++ map f ks) rest
in_row f life [] rest = ap (λ (l : List (List ℕ)). lives_from l rest) (sym (append-nil life))
in_row f life (k ∷ ks) rest = rw (in_row f (life ++ f k ∷ []) ks rest, append_assoc life (f k ∷ []) (map f ks))

all_of : (xs : List (List ℕ)) → map (feed_packet xs) (range_with_len 0 (length xs)) ≡ xs
all_of [] = refl
all_of (x ∷ xs) = ap (λ (ys : List (List ℕ)). x ∷ ys)
    (map-range_moved (feed_packet (x ∷ xs)) (feed_packet xs) 1 0 (length xs) (λ i l. grind arith) ∙ all_of xs)

given_all : (fed : List (List ℕ)) (count : ℕ) → length fed ≡ count
    → map (feed_packet fed) (range_with_len 0 count) ≡ fed
given_all fed count long = ap (λ n. map (feed_packet fed) (range_with_len 0 n)) (sym long) ∙ all_of fed

-- ---- a life, and then the whole feed

send_alone : (fed : List (List ℕ)) (to count : ℕ) → length fed ≡ count
    → lives_from [] (actions_of fed (Send to 0 count) ++ []) ≡ fed ∷ []
unfolding actions_of
send_alone fed to count long = rw (in_row (feed_packet fed) [] (range_with_len 0 count) [], given_all fed count long)

send_behind : (fed : List (List ℕ)) (to seed many count : ℕ) → length fed ≡ count
    → lives_from [] (actions_of fed (Foreign to seed 0 many) ++ (actions_of fed (Send to 0 count) ++ []))
    ≡ (made_packets seed many ++ fed) ∷ []
unfolding actions_of made_packets
send_behind fed to seed many count long = simp (in_row, given_all)

-- ---- the three transmitters

first_at : (seed count : ℕ) → IsPlan (trial_plan seed count) → transmitter_place 1 trial_transmitters ≡ Some 0
first_at seed count p = place_only trial_transmitters 0 (near 1 (pos 0)) p.sound.transmitters refl

second_at : (seed count : ℕ) → IsPlan (trial_plan seed count) → transmitter_place 2 trial_transmitters ≡ Some 1
second_at seed count p = place_only trial_transmitters 1 (near 2 (pos 25)) p.sound.transmitters refl

third_at : (seed count : ℕ) → IsPlan (trial_plan seed count) → transmitter_place 3 trial_transmitters ≡ Some 2
third_at seed count p = place_only trial_transmitters 2 (near 3 (negsuc 9)) p.sound.transmitters refl

pub first_lives : (seed count : ℕ) (stream : List (List ℕ)) → IsPlan (trial_plan seed count)
    → length (feed (trial_plan seed count) stream) ≡ count
    → lives_of 0 (steps_under (trial_plan seed count) stream (trial_events seed count))
    ≡ feed (trial_plan seed count) stream ∷ []
unfolding lives_of
first_lives seed count stream p long =
    let fed : List (List ℕ) = feed (trial_plan seed count) stream in
    let more : List Event = Foreign 3 seed 0 50 ∷ (Send 3 0 count ∷ []) in
    ap (lives_from []) (
    of_own trial_transmitters fed 0 (Send 1 0 count) (Send 2 0 count ∷ more) (first_at seed count p)
    ∙ ap (λ (x : List (Option (List ℕ))). actions_of fed (Send 1 0 count) ++ x) (
    of_other trial_transmitters fed 0 1 (Send 2 0 count) more (second_at seed count p) (λ e. cc)
    ∙ of_other trial_transmitters fed 0 2 (Foreign 3 seed 0 50) (Send 3 0 count ∷ []) (third_at seed count p) (λ e. cc)
    ∙ of_other trial_transmitters fed 0 2 (Send 3 0 count) [] (third_at seed count p) (λ e. cc)
    ∙ none_left trial_transmitters fed 0)) ∙ send_alone fed 1 count long

pub second_lives : (seed count : ℕ) (stream : List (List ℕ)) → IsPlan (trial_plan seed count)
    → length (feed (trial_plan seed count) stream) ≡ count
    → lives_of 1 (steps_under (trial_plan seed count) stream (trial_events seed count))
    ≡ feed (trial_plan seed count) stream ∷ []
unfolding lives_of
second_lives seed count stream p long =
    let fed : List (List ℕ) = feed (trial_plan seed count) stream in
    let more : List Event = Foreign 3 seed 0 50 ∷ (Send 3 0 count ∷ []) in
    ap (lives_from []) (
    of_other trial_transmitters fed 1 0 (Send 1 0 count) (Send 2 0 count ∷ more) (first_at seed count p) (λ e. cc)
    ∙ of_own trial_transmitters fed 1 (Send 2 0 count) more (second_at seed count p)
    ∙ ap (λ (x : List (Option (List ℕ))). actions_of fed (Send 2 0 count) ++ x) (
    of_other trial_transmitters fed 1 2 (Foreign 3 seed 0 50) (Send 3 0 count ∷ []) (third_at seed count p) (λ e. cc)
    ∙ of_other trial_transmitters fed 1 2 (Send 3 0 count) [] (third_at seed count p) (λ e. cc)
    ∙ none_left trial_transmitters fed 1)) ∙ send_alone fed 2 count long

pub third_lives : (seed count : ℕ) (stream : List (List ℕ)) → IsPlan (trial_plan seed count)
    → length (feed (trial_plan seed count) stream) ≡ count
    → lives_of 2 (steps_under (trial_plan seed count) stream (trial_events seed count))
    ≡ (made_packets seed 50 ++ feed (trial_plan seed count) stream) ∷ []
unfolding lives_of
third_lives seed count stream p long =
    let ts : List Transmitter = trial_transmitters in
    let fed : List (List ℕ) = feed (trial_plan seed count) stream in
    let last : List Event = Send 3 0 count ∷ [] in
    let more : List Event = Foreign 3 seed 0 50 ∷ last in
    ap (lives_from []) (
    of_other ts fed 2 0 (Send 1 0 count) (Send 2 0 count ∷ more) (first_at seed count p) (λ e. cc)
    ∙ of_other ts fed 2 1 (Send 2 0 count) more (second_at seed count p) (λ e. cc)
    ∙ of_own ts fed 2 (Foreign 3 seed 0 50) last (third_at seed count p)
    ∙ ap (λ (x : List (Option (List ℕ))). actions_of fed (Foreign 3 seed 0 50) ++ x)
    (rw (of_own ts fed 2 (Send 3 0 count) [] (third_at seed count p), none_left ts fed 2)))
    ∙ send_behind fed 3 seed 50 count long

-- ---- what comes before the feed has no mark

begins : (seed index : ℕ) → sync_of (made_packet seed index) ≡ 0x47
unfolding made_packet
begins seed index = grind arith

pub length-made : (seed count : ℕ) → length (made_packets seed count) ≡ count
unfolding made_packets
length-made seed count = length-map-range_with_len (made_packet seed) 0 count

pub none_marked : HaveNoMark []
none_marked i l = absurd (omega (arith, l))

pub made_unmarked : (seed count : ℕ) → HaveNoMark (made_packets seed count)
unfolding syncs
made_unmarked seed count i l = ap (λ (s : ℕ). s == 0xB8) (get_or-map sync_of (made_packets seed count) i [] 0 l
    ∙ ap sync_of (made_at seed count i (omega (arith, l, length-made seed count))) ∙ begins seed i)
