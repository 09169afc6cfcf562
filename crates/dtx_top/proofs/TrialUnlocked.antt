-- Transmitter 3 of a trial is locked to nothing where it is given the feed: what it is given before has no mark.
use Rattle.std.proofs.Common.{◌≡◌, ◌≢◌, ℕ, pos, negsuc, zero, suc, ◌<◌, ◌==◌, false, List, [], ◌∷◌, ◌++◌, Option, Some}
use Rattle.std.proofs.Common.{None, map, refl, sym, ap, ◌∙◌, arith}
use Rattle.std.specs.List.{range_with_len}
use Rattle.std.proofs.lemmas.List.{append-nil, append_assoc, get_or-map, length-map}
use Rattle.dtx_adapter.specs.Feed.{feed}
use Rattle.dtx_cadence.specs.Anchor.{anchor, anchor_to, has_mark}
use Rattle.dtx_exciter.specs.Lockstep.{locked_from}
use Rattle.dtx_exciter.specs.Packets.{anchor_of, syncs}
use Rattle.dtx_make.specs.Made.{made_packet}
use Rattle.dtx_net.proofs.LastLifeLemmas.{last_life_is}
use Rattle.dtx_net.specs.Lives.{last_life, lives_from, lives_of, own_steps}
use Rattle.dtx_net.proofs.OwnLemmas.{own_elsewhere, own_here, own_steps-append}
use Rattle.dtx_net.proofs.PlaceOfLemmas.{place_only}
use Rattle.dtx_net.specs.Steps.{actions_of, schedule, steps_at, steps_of, transmitter_place}
use Rattle.dtx_network.specs.Network.{steps_under}
use Rattle.dtx_network.specs.Plans.{IsPlan}
use Rattle.dtx_packets.specs.Packets.{sync_of}
use Rattle.dtx_plan.specs.Sound.{to_of}
use Rattle.dtx_plan.specs.declared.event.Event.{Event}
use Rattle.dtx_plan.specs.declared.event.Event.TheVariants.{Foreign, Send}
use Rattle.dtx_plan.specs.declared.transmitter.Transmitter.{Transmitter}
use Rattle.dtx_top.specs.Trial.{near, trial_plan, trial_transmitters}
use Rattle.dtx_top.specs.WorkedNetwork.{made_packets}
use Rattle.dtx_top.proofs.TrialFed.{begins}
use Rattle.dtx_top.proofs.WorkedStream.{length-made, packet_in}

-- ---- packets without a mark

no_anchor : (all : List ℕ) (n : ℕ) → ((i : ℕ) → i < n → has_mark all i ≡ false) → anchor_to all n ≡ None
unfolding anchor_to
no_anchor all zero none = refl
no_anchor all (suc n) none = rw (no_anchor all n (λ i l. none i (omega (arith, l))), none n (omega arith))

made_unmarked : (seed count i : ℕ) → i < count → has_mark (syncs (made_packets seed count)) i ≡ false
unfolding syncs
made_unmarked seed count i l = ap (λ (s : ℕ). s == 0xB8)
    (get_or-map sync_of (made_packets seed count) i [] 0 (omega (arith, l, length-made seed count))
    ∙ ap sync_of (packet_in seed count i l) ∙ begins seed i)

-- ---- the life in which packets are given in a row

given_in_row : (f : ℕ → List ℕ) (life : List (List ℕ)) (ks : List ℕ)
    → lives_from life (map (λ k. Some (f k)) ks) ≡ (life ++ map f ks) ∷ []
given_in_row f life [] = ap (λ (l : List (List ℕ)). l ∷ []) (sym (append-nil life))
given_in_row f life (k ∷ ks) = rw (given_in_row f (life ++ f k ∷ []) ks, append_assoc life (f k ∷ []) (map f ks))

-- ---- the steps of one transmitter in events

own_all : (who : ℕ) (actions : List (Option (List ℕ))) → own_steps who (steps_at (Some who) actions) ≡ actions
own_all who [] = refl
own_all who (a ∷ actions) = own_here who (record { who = who; packet = a }) (steps_at (Some who) actions) refl
    ∙ ap (λ (rest : List (Option (List ℕ))). a ∷ rest) (own_all who actions)

own_none : (who other : ℕ) (actions : List (Option (List ℕ))) → other ≢ who
    → own_steps who (steps_at (Some other) actions) ≡ []
own_none who other [] n = refl
own_none who other (a ∷ actions) n =
    own_elsewhere who (record { who = other; packet = a }) (steps_at (Some other) actions) n
    ∙ own_none who other actions n

of_other : (ts : List Transmitter) (fed : List (List ℕ)) (who other : ℕ) (event : Event) (events : List Event)
    → transmitter_place (to_of event) ts ≡ Some other → other ≢ who
    → own_steps who (schedule ts fed (event ∷ events)) ≡ own_steps who (schedule ts fed events)
unfolding steps_of schedule
of_other ts fed who other event events e n = grind (arith, own_steps-append, own_none)

of_one : (ts : List Transmitter) (fed : List (List ℕ)) (who : ℕ) (event : Event)
    → transmitter_place (to_of event) ts ≡ Some who
    → own_steps who (schedule ts fed (event ∷ [])) ≡ actions_of fed event
unfolding steps_of schedule
of_one ts fed who event e = grind (arith, append-nil, own_all)

-- ---- transmitter 3

-- the events before the one that gives it the feed
abbrev pub events_before : ℕ → ℕ → List Event
events_before seed count = Send 1 0 count ∷ Send 2 0 count ∷ Foreign 3 seed 0 50 ∷ []

third_given : (seed count : ℕ) (stream : List (List ℕ)) → IsPlan (trial_plan seed count)
    → own_steps 2 (steps_under (trial_plan seed count) stream (events_before seed count))
    ≡ map (λ k. Some (made_packet seed k)) (range_with_len 0 50)
unfolding actions_of
third_given seed count stream p =
    let ts : List Transmitter = trial_transmitters in
    let fed : List (List ℕ) = feed (trial_plan seed count) stream in
    of_other ts fed 2 0 (Send 1 0 count) (Send 2 0 count ∷ Foreign 3 seed 0 50 ∷ [])
    (place_only ts 0 (near 1 (pos 0)) p.sound.transmitters refl) (λ e. cc)
    ∙ of_other ts fed 2 1 (Send 2 0 count) (Foreign 3 seed 0 50 ∷ [])
    (place_only ts 1 (near 2 (pos 25)) p.sound.transmitters refl) (λ e. cc)
    ∙ of_one ts fed 2 (Foreign 3 seed 0 50) (place_only ts 2 (near 3 (negsuc 9)) p.sound.transmitters refl)

third_life : (seed count : ℕ) (stream : List (List ℕ)) → IsPlan (trial_plan seed count)
    → last_life 2 (steps_under (trial_plan seed count) stream (events_before seed count)) ≡ made_packets seed 50
unfolding lives_of made_packets
third_life seed count stream p =
    last_life_is 2 (steps_under (trial_plan seed count) stream (events_before seed count)) [] (made_packets seed 50)
    (ap (lives_from []) (third_given seed count stream p)
    ∙ given_in_row (made_packet seed) [] (range_with_len 0 50))

-- so it is locked to the feed from the feed's first mark on
pub third_unlocked : (seed count : ℕ) (stream : List (List ℕ)) → IsPlan (trial_plan seed count)
    → locked_from (last_life 2 (steps_under (trial_plan seed count) stream (events_before seed count))) 0 ≡ 0
unfolding locked_from anchor_of anchor syncs
third_unlocked seed count stream p = grind (arith, third_life, no_anchor, made_unmarked, length-map, length-made)
