-- What transmitter 3 of a trial sends is received with the answer `Done`.
use Rattle.std.proofs.Common.{◌≡◌, ℕ, ℤ, negsuc, ◌+◌, ◌-◌, ◌*◌, ◌<◌, ◌≤◌, ◌==◌, Bool, true, false, List, [], ◌∷◌, ◌++◌}
use Rattle.std.proofs.Common.{length, refl, sym, ap, ap₂, subst, ◌∙◌, arith}
use Rattle.std.specs.Prelude.{Option, Some, None, filter, not, slice_get}
use Rattle.std.specs.Int.Signed.{le_z_yes}
use Rattle.std.specs.Option.{option_map_or}
use Rattle.std.proofs.lemmas.Bool.{false≢true, ne_eqb}
use Rattle.std.proofs.lemmas.List.{append-nil, append_assoc, get_or-append-add, get_or-drop, get_or-take}
use Rattle.std.proofs.lemmas.List.{get_or_append_left, length-append, length-drop, length-map, length-take, length_push}
use Rattle.std.proofs.lemmas.List.Filters.{length-filter_both}
use Rattle.std.proofs.lemmas.List.FromFn.{length-map-range_with_len}
use Rattle.dtx_plan.specs.declared.event.Event.{Event}
use Rattle.dtx_plan.specs.declared.event.Event.TheVariants.{Foreign, Send}
use Rattle.dtx_plan.specs.declared.plan.Plan.{Plan}
use Rattle.dtx_plan.specs.declared.transmitter.Transmitter.{Transmitter}
use Rattle.dtx_make.proofs.EntriesLemmas.{entry_at_nothing}
use Rattle.dtx_make.specs.Hurt.{hurt}
use Rattle.dtx_make.proofs.LaidBytesLemmas.{laid_none}
use Rattle.dtx_coder.proofs.CountsLemmas.{length-a53}
use Rattle.dtx_receiver.specs.Intervals.{looks_at}
use Rattle.dtx_receiver.proofs.IntervalsLemmas.{no_runs}
use Rattle.dtx_receiver.specs.Runs.{runs}
use Rattle.dtx_adapter.specs.Feed.{feed}
use Rattle.dtx_exciter.specs.Emission.{emission, last_segments}
use Rattle.dtx_exciter.proofs.EmittedLemmas.{emission_push}
use Rattle.dtx_exciter.specs.Log.{emission_over}
use Rattle.dtx_exciter.specs.Packets.{group_part, under}
use Rattle.dtx_net.specs.Lives.{lives_from, lives_of, sent_segments, last_life}
use Rattle.dtx_net.proofs.PlaceOfLemmas.{place_only}
use Rattle.dtx_net.specs.Steps.{Step, actions_of, schedule, steps_of}
use Rattle.dtx_chain.proofs.PlacesLemmas.{syncs_look}
use Rattle.dtx_network.specs.Headline.{stretch_of}
use Rattle.dtx_network.specs.Network.{Follows, Joined, steps_under}
use Rattle.dtx_network.specs.Plans.{IsInTime, IsPlan}
use Rattle.dtx_meaning.specs.Meaning.{Meaning}
use Rattle.dtx_meaning.specs.declared.status.Status.TheVariants.{Done}
use Rattle.dtx_words.specs.Names.{received_name}
use Rattle.dtx_recipes.specs.Hurt.{first_past}
use Rattle.dtx_jobs.proofs.ReceivedLemmas.{all_damaged_received}
use Rattle.dtx_recipes.specs.SymbolFile.{file_segments, whole_segments}
use Rattle.dtx_schedule.specs.TransmitterFiles.{symbol_file}
use Rattle.dtx_top.specs.NetMeaning.{received_past}
use Rattle.dtx_top.specs.Networks.{sent_file}
use Rattle.dtx_top.specs.Trial.{near, trial_events, trial_network, trial_plan, trial_transmitters}
use Rattle.dtx_top.specs.WorkedNetwork.{made_packets}
use Rattle.dtx_top.proofs.HeadlineLaw.{HeadlineLaw}
use Rattle.dtx_top.proofs.SegmentsBack.{segments_of_file, whole_segments_sent}
use Rattle.dtx_top.proofs.TrialUnlocked.{events_before, third_unlocked}
use Rattle.dtx_top.proofs.WorkedNetwork.{ListLaws, Met, MetLaw, lists_each}
use Rattle.dtx_top.proofs.WorkedStream.{length-made, made_order, made_stream}

-- ---- how many segments a transmitter sends at most

-- how many segments one packet more gives at most, as the exciter's law says it
abbrev pub SpacedLaw : Type 0
SpacedLaw = (address delay : ℕ) (packets : List (List ℕ)) (packet : List ℕ)
    → 4 * length (last_segments address delay (packets ++ packet ∷ [])) + 5 * group_part (packets ++ packet ∷ [])
    ≤ 5 * (group_part packets + 1)

-- packets, of which some are behind the last whole group, give at most five quarters of a segment each
abbrev IsSpaced : ℕ → ℕ → List (List ℕ) → Type 0
IsSpaced a d ps = 4 * length (emission a d ps) + 5 * group_part ps ≤ 5 * length ps

one_more : SpacedLaw → (a d : ℕ) (ps : List (List ℕ)) (p : List ℕ) → IsSpaced a d ps → IsSpaced a d (ps ++ p ∷ [])
one_more law a d ps p h = grind (arith, emission_push, length-append, length_push)

all_more : SpacedLaw → (a d : ℕ) (ps more : List (List ℕ)) → IsSpaced a d ps → IsSpaced a d (ps ++ more)
all_more law a d ps [] h = subst (IsSpaced a d) (sym (append-nil ps)) h
all_more law a d ps (p ∷ more) h = subst (IsSpaced a d) (append_assoc ps (p ∷ []) more)
    (all_more law a d (ps ++ p ∷ []) more (one_more law a d ps p h))

none_spaced : (a d : ℕ) → IsSpaced a d []
unfolding group_part under emission
none_spaced a d = grind (arith, length-drop)

given_long : SpacedLaw → (a d : ℕ) (ps : List (List ℕ)) → 4 * length (emission a d ps) ≤ 5 * length ps
given_long law a d ps = let h : IsSpaced a d ps = all_more law a d [] ps (none_spaced a d) in omega (arith, h)

-- how many packets lives are given
abbrev given_in : List (List (List ℕ)) → ℕ
given_in [] = 0
given_in (life ∷ more) = length life + given_in more

over_long : SpacedLaw → (a d : ℕ) (lives : List (List (List ℕ)))
    → 4 * length (emission_over a d lives) ≤ 5 * given_in lives
over_long law a d [] = omega arith
over_long law a d (life ∷ more) =
    let both : length (emission_over a d (life ∷ more)) ≡ length (emission a d life) + length (emission_over a d more) =
    length-append (emission a d life) (emission_over a d more) in
    omega (arith, both, given_long law a d life, over_long law a d more)

-- lives are given no more packets than steps are done
cut_given : (life : List (List ℕ)) (actions : List (Option (List ℕ)))
    → given_in (lives_from life actions) ≤ length life + length actions
cut_given life [] = omega arith
cut_given life (Some packet ∷ actions) = omega (arith, cut_given (life ++ packet ∷ []) actions, length_push life packet)
cut_given life (None ∷ actions) = omega (arith, cut_given [] actions)

few_kept : {X : Type 0} (p : X → Bool) (xs : List X) → length (filter p xs) ≤ length xs
few_kept p xs = omega (arith, length-filter_both p (λ x. not (p x)) (λ x. refl) xs)

-- so a transmitter sends at most five quarters of a segment for each step of the schedule
sent_few : SpacedLaw → (t : Transmitter) (who : ℕ) (steps : List Step)
    → 4 * length (sent_segments t who steps) ≤ 5 * length steps
unfolding sent_segments lives_of
sent_few law t who steps = grind (arith, over_long, cut_given, length-map, few_kept)

-- ---- how many steps events are

-- the steps of a trial's events
trial_few : (ts : List Transmitter) (feed : List (List ℕ)) (seed count : ℕ)
    → length (schedule ts feed (Send 1 0 count ∷ Send 2 0 count ∷ Foreign 3 seed 0 50 ∷ Send 3 0 count ∷ []))
    ≤ 3 * count + 50
unfolding steps_of actions_of schedule
trial_few ts feed seed count = grind (arith, length-append, length-map, length-map-range_with_len)

-- ---- the answer

no_damage : (file : List ℕ) → hurt [] file ≡ file
no_damage file = sym (laid_none [] 0 file (λ k _ _. entry_at_nothing k))

nothing_past : (bytes : ℕ) → first_past [] bytes ≡ None
unfolding first_past
nothing_past bytes = refl

file_done : (file : List ℕ) → whole_segments file ≤ 626000000 → (length (runs (file_segments file)) == 0) ≡ false
    → (received_past (first_past [] (length file)) [] file).outcome.status ≡ Done
file_done file few some =
    ap (λ (past : Option ℕ). (received_past past [] file).outcome.status) (nothing_past (length file))
    ∙ ap (λ (m : Meaning). m.outcome.status) (all_damaged_received (received_name ∷ []) [] file few)
    ∙ grind (arith, no_damage)

-- ---- transmitter 3 of a trial

-- the laws that are cited
pub record ReceivedLaws : Type 0 where
  pub met : MetLaw
  pub lists : ListLaws
  pub headline : HeadlineLaw
  pub spaced : SpacedLaw

abbrev third : Transmitter
third = near 3 (negsuc 9)

-- its symbol file is the one that is received
third_sends : (seed count : ℕ) (stream : List (List ℕ)) → IsPlan (trial_plan seed count)
    → sent_file (trial_plan seed count) (trial_network seed count) stream 3
    ≡ symbol_file third 2 (steps_under (trial_plan seed count) stream (trial_events seed count))
unfolding sent_file
third_sends seed count stream p =
    let own : ℕ → Transmitter → List ℕ =
    λ who t. symbol_file t who (steps_under (trial_plan seed count) stream (trial_events seed count)) in
    ap (λ (o : Option ℕ). option_map_or (λ who. option_map_or (own who) (slice_get trial_transmitters who) []) o [])
    (place_only trial_transmitters 2 third p.sound.transmitters refl)

-- what its life holds before the feed
abbrev third_before : ℕ → ℕ → List (List ℕ)
third_before seed count =
    last_life 2 (steps_under (trial_plan seed count) (made_packets seed count) (events_before seed count))

-- it joins the feed at packet 0, and its first listing is that of the group from packet 100 on, or an earlier one
third_joins : ReceivedLaws → (seed count : ℕ) → 624 ≤ count → count ≤ 1000000 → IsPlan (trial_plan seed count)
    → Met (trial_plan seed count) (made_packets seed count) third 2 0 count 100 (third_before seed count)
    (trial_events seed count)
third_joins laws seed count least most p =
    let in_time : IsInTime (trial_plan seed count) third = le_z_yes tt in
    laws.met (trial_plan seed count) (made_packets seed count) third 2 0 count 100 (events_before seed count) [] p
    (made_stream seed count (omega (arith, most))) refl in_time refl (omega (arith, length-made seed count)) refl
    (omega (arith, third_unlocked seed count (made_packets seed count) p)) (omega (arith, least))
    (lists_each laws.lists (trial_plan seed count) (made_packets seed count) third 2 100 p
    (made_stream seed count (omega (arith, most))) refl (omega arith) (made_order seed count (omega (arith, least))))

-- a run is found in what it sends
third_runs : ReceivedLaws → (seed count : ℕ) → 624 ≤ count → count ≤ 1000000 → IsPlan (trial_plan seed count)
    → (length (runs (sent_segments third 2
    (steps_under (trial_plan seed count) (made_packets seed count) (trial_events seed count)))) == 0) ≡ false
unfolding stretch_of
third_runs laws seed count least most p =
    let plan : Plan = trial_plan seed count in
    let events : List Event = trial_events seed count in
    let fed : List (List ℕ) = feed plan (made_packets seed count) in
    let joins : Met plan (made_packets seed count) third 2 0 count 100 (third_before seed count) events =
    third_joins laws seed count least most p in
    let x : Joined plan (made_packets seed count) events = joins.0 in
    let follows : Follows plan (made_packets seed count) events x =
    (laws.headline plan (made_packets seed count) events p (made_stream seed count (omega (arith, most)))).follows x in
    let steps : List Step = steps_under plan (made_packets seed count) events in
    let symbols : sent_segments third 2 steps ≡ follows.emits.before ++
    (stretch_of fed x.k (x.mark + x.count) ++ follows.emits.after) =
    sym (ap₂ (λ (t : Transmitter) (who : ℕ). sent_segments t who steps) joins.1 joins.2) ∙ follows.emits.symbols in
    let sync : (312 - x.k < length (stretch_of fed x.k (x.mark + x.count))) ×
    (looks_at (stretch_of fed x.k (x.mark + x.count)) (312 - x.k) ≡ true) =
    (grind (arith, length-a53, length-take, length-drop, get_or-take, get_or-drop, syncs_look)) in
    subst (λ (list : List (List ℤ)). (length (runs list) == 0) ≡ false) (sym symbols)
    (grind (arith, get_or-append-add, get_or_append_left, length-append, ne_eqb, false≢true, no_runs))

-- The symbols of transmitter 3 are received with the answer `Done`.
pub received_done : ReceivedLaws → (seed count : ℕ) → 624 ≤ count → count ≤ 1000000 → IsPlan (trial_plan seed count)
    → (received_past
    (first_past [] (length (sent_file (trial_plan seed count) (trial_network seed count) (made_packets seed count) 3)))
    [] (sent_file (trial_plan seed count) (trial_network seed count) (made_packets seed count) 3)).outcome.status ≡ Done
received_done laws seed count least most p =
    grind (arith, third_sends, file_done, whole_segments_sent, sent_few, trial_few, segments_of_file, third_runs)
