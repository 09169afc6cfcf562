-- The premises of the headline can be met.
use Rattle.std.proofs.Common.{◌≡◌, ◌⊎◌, inl, inr, ℕ, zero, suc, ◌+◌, ◌-◌, ◌%◌, ◌≤◌, ◌==◌, ◌&&◌, Bool, true, false}
use Rattle.std.proofs.Common.{Option, Some, None, List, [], ◌∷◌, ◌++◌, length, map, take, drop, get_or, refl, sym, ap}
use Rattle.std.proofs.Common.{ap₂, subst, ◌∙◌, ◌≢◌, arith}
use Rattle.std.specs.Prelude.{nat_le, slice_get, slice_range}
use Rattle.std.specs.List.{range_with_len, find}
use Rattle.std.proofs.lemmas.Bool.{cases_Bool, false≢true, eq-eqb, eqb-true, le-leb, leb-true, and_from, and_parts}
use Rattle.std.proofs.lemmas.Cmp.{nat_eq_equiv}
use Rattle.std.proofs.lemmas.List.{append-nil, append_assoc, map-append}
use Rattle.std.proofs.lemmas.Grind.{flat_map-append}
use Rattle.std.proofs.lemmas.Option.{get_or_from_slice_get}
use Rattle.std.proofs.lemmas.List.Elements.{filter-append}
use Rattle.std.proofs.lemmas.Map.Views.{list_any-from_Contains}
use Rattle.dtx_lists.proofs.RangeSearch.{find-range_gives, find-range_misses}
use Rattle.dtx_lists.proofs.RangeMoved.{map-range_moved}
use Rattle.dtx_plan.specs.declared.plan.Plan.{Plan}
use Rattle.dtx_plan.specs.declared.transmitter.Transmitter.{Transmitter}
use Rattle.dtx_plan.specs.declared.event.Event.{Event}
use Rattle.dtx_plan.specs.declared.event.Event.TheVariants.{Send}
use Rattle.dtx_plan.specs.TransmitterTable.{addresses_of}
use Rattle.dtx_plan.specs.Sound.{IsEvent, to_of}
use Rattle.dtx_adapter.specs.Feed.{feed}
use Rattle.dtx_adapter.proofs.FeedsLemmas.{length-feed}
use Rattle.dtx_exciter.proofs.LockedLemmas.{locked_nothing, locked_soon}
use Rattle.dtx_exciter.specs.Lockstep.{locked_from}
use Rattle.dtx_net.specs.Lives.{sent_segments, own_steps, lives_from, lives_of, last_life}
use Rattle.dtx_net.specs.Steps.{Step, transmitter_place, actions_of, steps_at, steps_of, schedule}
use Rattle.dtx_net.proofs.LastLifeLemmas.{last_life_is}
use Rattle.dtx_net.proofs.OwnLemmas.{own_here, own_elsewhere}
use Rattle.dtx_net.proofs.PlaceOfLemmas.{place_found, place_only}
use Rattle.dtx_network.specs.Plans.{IsPlan, IsStream, IsInTime}
use Rattle.dtx_network.specs.Orders.{has_listing, pages_in, orders}
use Rattle.dtx_network.specs.Headline.{IsFirstListing, stretch_of}
use Rattle.dtx_network.specs.Network.{steps_under, Joined, AreOfOthers}
use Rattle.dtx_network.proofs.FromStart.{segments_from}
use Rattle.dtx_network.proofs.Turns.{lists_in_turn}
use Rattle.dtx_network.proofs.Whole.{contains_from_get, contains_map}

-- ---- the life in which it is given packets of the feed

-- packets of a list in a row, one after another
all_given : (ps : List (List ℕ)) (a n : ℕ) → a + n ≤ length ps
    → map (λ k. Some (get_or ps k [])) (range_with_len a n) ≡ map Some (take n (drop a ps))
all_given [] zero zero l = refl
all_given [] zero (suc n) l = absurd (omega arith)
all_given [] (suc a) n l = absurd (omega arith)
all_given (p ∷ ps) zero zero l = refl
all_given (p ∷ ps) zero (suc n) l = ap (λ (rest : List (Option (List ℕ))). Some p ∷ rest)
    (map-range_moved (λ k. Some (get_or (p ∷ ps) k [])) (λ k. Some (get_or ps k [])) (0 + 1) 0 n (λ i l. grind arith)
    ∙ all_given ps 0 n (omega arith))
all_given (p ∷ ps) (suc a) n l =
    map-range_moved (λ k. Some (get_or (p ∷ ps) k [])) (λ k. Some (get_or ps k [])) (suc a) a n
    (λ i l. grind arith) ∙ all_given ps a n (omega arith)

-- the lives that end in these actions, where the first of them begins with these packets, and the packets of the life
-- that goes on
ended : List (List ℕ) → List (Option (List ℕ)) → List (List (List ℕ))
ended life [] = []
ended life (Some p ∷ actions) = ended (life ++ p ∷ []) actions
ended life (None ∷ actions) = life ∷ ended [] actions

going_on : List (List ℕ) → List (Option (List ℕ)) → List (List ℕ)
going_on life [] = life
going_on life (Some p ∷ actions) = going_on (life ++ p ∷ []) actions
going_on life (None ∷ actions) = going_on [] actions

lives_on : (life : List (List ℕ)) (xs ys : List (Option (List ℕ)))
    → lives_from life (xs ++ ys) ≡ ended life xs ++ lives_from (going_on life xs) ys
unfolding ended going_on
lives_on life [] ys = refl
lives_on life (Some p ∷ xs) ys = lives_on (life ++ p ∷ []) xs ys
lives_on life (None ∷ xs) ys = ap (λ (l : List (List (List ℕ))). life ∷ l) (lives_on [] xs ys)

-- the packets of the life that goes on are those of its last one
last_goes_on : (who : ℕ) (steps : List Step) → last_life who steps ≡ going_on [] (own_steps who steps)
unfolding lives_of
last_goes_on who steps = last_life_is who steps (ended [] (own_steps who steps)) (going_on [] (own_steps who steps))
    (ap (lives_from []) (sym (append-nil (own_steps who steps))) ∙ lives_on [] (own_steps who steps) [])

-- the packets up to the first restart, and the lives behind it
first_given : List (Option (List ℕ)) → List (List ℕ)
first_given [] = []
first_given (Some p ∷ actions) = p ∷ first_given actions
first_given (None ∷ actions) = []

lives_then : List (Option (List ℕ)) → List (List (List ℕ))
lives_then [] = []
lives_then (Some p ∷ actions) = lives_then actions
lives_then (None ∷ actions) = lives_from [] actions

lives_first : (life : List (List ℕ)) (ys : List (Option (List ℕ)))
    → lives_from life ys ≡ (life ++ first_given ys) ∷ lives_then ys
unfolding first_given lives_then
lives_first life [] = ap (λ (l : List (List ℕ)). l ∷ []) (sym (append-nil life))
lives_first life (Some p ∷ ys) = rw (lives_first (life ++ p ∷ []) ys, append_assoc life (p ∷ []) (first_given ys))
lives_first life (None ∷ ys) = ap (λ (l : List (List ℕ)). l ∷ lives_from [] ys) (sym (append-nil life))

-- packets in a row
lives_given : (life ps : List (List ℕ)) (ys : List (Option (List ℕ)))
    → lives_from life (map Some ps ++ ys) ≡ lives_from (life ++ ps) ys
lives_given life [] ys = ap (λ (l : List (List ℕ)). lives_from l ys) (sym (append-nil life))
lives_given life (p ∷ ps) ys = rw (lives_given (life ++ p ∷ []) ps ys, append_assoc life (p ∷ []) ps)

own_more : (who : ℕ) (xs ys : List Step) → own_steps who (xs ++ ys) ≡ own_steps who xs ++ own_steps who ys
own_more who xs ys = grind (arith, filter-append, map-append)

own_all : (who : ℕ) (actions : List (Option (List ℕ))) → own_steps who (steps_at (Some who) actions) ≡ actions
own_all who [] = refl
own_all who (a ∷ actions) = own_here who (record { who = who; packet = a }) (steps_at (Some who) actions) refl
    ∙ ap (λ (rest : List (Option (List ℕ))). a ∷ rest) (own_all who actions)

-- the event that gives a transmitter packets of the feed from one on
abbrev pub part_of_feed : Transmitter → ℕ → ℕ → Event
part_of_feed t mark n = Send t.address mark n

-- what is done with a transmitter in some events
done_in : Plan → List (List ℕ) → ℕ → List Event → List (Option (List ℕ))
done_in plan stream who events = own_steps who (steps_under plan stream events)

-- those packets
abbrev given_of : Plan → List (List ℕ) → ℕ → ℕ → List (List ℕ)
given_of plan stream mark n = slice_range (feed plan stream) mark (mark + n)

-- its steps in that event
part_steps : (plan : Plan) (stream : List (List ℕ)) (t : Transmitter) (who mark n : ℕ) → IsPlan plan
    → slice_get plan.transmitters who ≡ Some t → mark + n ≤ length stream
    → own_steps who (steps_of plan.transmitters (feed plan stream) (part_of_feed t mark n))
    ≡ map Some (given_of plan stream mark n)
unfolding steps_of actions_of
part_steps plan stream t who mark n p listed l =
    let actions : List (Option (List ℕ)) = map (λ k. Some (get_or (feed plan stream) k [])) (range_with_len mark n) in
    let e : n ≡ mark + n - mark = omega arith in
    ap (λ (o : Option ℕ). own_steps who (steps_at o actions))
    (place_only plan.transmitters who t p.sound.transmitters listed) ∙ grind (arith, own_all, all_given, length-feed)

-- its lives, with that event among others
lives_are : (plan : Plan) (stream : List (List ℕ)) (t : Transmitter) (who mark n : ℕ) (before after : List Event)
    → IsPlan plan → slice_get plan.transmitters who ≡ Some t → mark + n ≤ length stream
    → let a : List (Option (List ℕ)) = done_in plan stream who before in
    let b : List (Option (List ℕ)) = done_in plan stream who after in
    lives_of who (steps_under plan stream (before ++ part_of_feed t mark n ∷ after))
    ≡ ended [] a ++ ((going_on [] a ++ given_of plan stream mark n) ++ first_given b) ∷ lives_then b
unfolding lives_of schedule done_in
lives_are plan stream t who mark n before after p listed l =
    let fed : List (List ℕ) = feed plan stream in
    let part : List (List ℕ) = given_of plan stream mark n in
    let ts : List Transmitter = plan.transmitters in
    let a : List (Option (List ℕ)) = done_in plan stream who before in
    let b : List (Option (List ℕ)) = done_in plan stream who after in
    let own : List Step = steps_of ts fed (part_of_feed t mark n) in
    grind (arith, flat_map-append, own_more, part_steps) ∙ lives_on [] a (map Some part ++ b)
    ∙ ap (λ (x : List (List (List ℕ))). ended [] a ++ x) (lives_given (going_on [] a) part b
    ∙ lives_first (going_on [] a ++ part) b)

-- ---- the first listing

-- the first group that may count behind a mark and lists the address, where some group is one
first_listing : (address : ℕ) (fed : List (List ℕ)) (z end g : ℕ) → g % 4 ≡ 0 → z + 52 ≤ g → g + 4 ≤ end
    → has_listing address fed g ≡ true → (k : ℕ) × IsFirstListing address fed z end k × (k ≤ g)
first_listing address fed z end g whole far l h = by_find (find test (range_with_len 0 (g + 1))) refl
  where
    test : ℕ → Bool
    test i = nat_le (z + 52) i && ((i % 4 == 0) && has_listing address fed i)

    passes : (i : ℕ) → i % 4 ≡ 0 → z + 52 ≤ i → has_listing address fed i ≡ true → test i ≡ true
    passes i w f o = grind (arith, and_from, le-leb, eq-eqb)

    fails : (i : ℕ) → i % 4 ≡ 0 → z + 52 ≤ i → test i ≡ false
        → (has_listing address fed i ≡ true) ⊎ (has_listing address fed i ≡ false) → has_listing address fed i ≡ false
    fails i w f t (inl o) = absurd (false≢true (sym t ∙ passes i w f o))
    fails i w f t (inr o) = o

    by_find : (o : Option ℕ) → find test (range_with_len 0 (g + 1)) ≡ o
        → (k : ℕ) × IsFirstListing address fed z end k × (k ≤ g)
    by_find None e = absurd (false≢true (sym (find-range_misses test 0 (g + 1) e g (omega arith) (omega arith))
        ∙ passes g whole far h))
    by_find (Some k) e = grind (arith, find-range_gives, and_parts, leb-true, eqb-true, cases_Bool)

-- ---- what is done with others

-- what is done with others at a place is none of its own
own_at : (who : ℕ) (o : Option ℕ) (actions : List (Option (List ℕ))) → o ≢ Some who
    → own_steps who (steps_at o actions) ≡ []
own_at who None actions n = refl
own_at who (Some w) [] n = refl
own_at who (Some w) (a ∷ actions) n =
    own_elsewhere who (record { who = w; packet = a }) (steps_at (Some w) actions) (λ e. n (ap Some e))
    ∙ own_at who (Some w) actions n

done_by_others : (plan : Plan) (stream : List (List ℕ)) (t : Transmitter) (who : ℕ) (events : List Event)
    → slice_get plan.transmitters who ≡ Some t → AreOfOthers t events → done_in plan stream who events ≡ []
unfolding done_in schedule steps_of
done_by_others plan stream t who [] listed others = refl
done_by_others plan stream t who (event ∷ events) listed others =
    own_more who (steps_at (transmitter_place (to_of event) plan.transmitters) (actions_of (feed plan stream) event))
    (schedule plan.transmitters (feed plan stream) events) ∙ ap₂ (λ (x y : List (Option (List ℕ))). x ++ y)
    (own_at who (transmitter_place (to_of event) plan.transmitters) (actions_of (feed plan stream) event)
    (grind (arith, place_found, get_or_from_slice_get))) (done_by_others plan stream t who events listed others.1)

-- ---- it joins

-- what its life was given before some packets of the feed
abbrev pub given_before : Plan → List (List ℕ) → ℕ → List Event → List (List ℕ)
given_before plan stream who events = last_life who (steps_under plan stream events)

-- It joins with these packets of the feed, its first listing is this group's or an earlier one's, and its life was
-- given these packets before.
abbrev pub JoinsBehind : Plan → List (List ℕ) → List Event → List Event → Transmitter → ℕ → ℕ → ℕ → ℕ
    → List (List ℕ) → Type 0
JoinsBehind plan stream before after t who mark n g earlier =
    (x : Joined plan stream (before ++ Send t.address mark n ∷ after)) × (x.t ≡ t) × (x.who ≡ who)
    × (x.mark ≡ mark) × (x.count ≡ n) × (x.k ≤ g) × (x.fed.earlier ≡ earlier)

pub is_met : (plan : Plan) (stream : List (List ℕ)) (t : Transmitter) (who mark n g : ℕ) (before after : List Event)
    → IsPlan plan → IsStream stream → slice_get plan.transmitters who ≡ Some t → IsInTime plan t
    → mark % 624 ≡ 0 → mark + n ≤ length stream
    → g % 4 ≡ 0 → locked_from (given_before plan stream who before) mark + 52 ≤ g → g + 4 ≤ mark + n
    → has_listing t.address (feed plan stream) g ≡ true
    → JoinsBehind plan stream before after t who mark n g (given_before plan stream who before)
unfolding done_in
is_met plan stream t who mark n g before after p u listed time is_mark inside whole far l h =
    let fed : List (List ℕ) = feed plan stream in
    let part : List (List ℕ) = given_of plan stream mark n in
    let a : List (Option (List ℕ)) = done_in plan stream who before in
    let b : List (Option (List ℕ)) = done_in plan stream who after in
    let near : locked_from (going_on [] a) mark + 52 ≤ g = subst (λ (x : List (List ℕ)). locked_from x mark + 52 ≤ g)
    (last_goes_on who (steps_under plan stream before)) far in
    let first = first_listing t.address fed (locked_from (going_on [] a) mark) (mark + n) g whole near l h in (
      record {
        t = t;
        who = who;
        lives_before = ended [] a;
        life = (going_on [] a ++ part) ++ first_given b;
        lives_behind = lives_then b;
        mark = mark;
        count = n;
        k = first.0;
        listed = listed;
        in_time = time;
        lived = lives_are plan stream t who mark n before after p listed inside;
        fed = record {
          is_mark = is_mark;
          inside = omega (arith, inside, length-feed plan stream);
          earlier = going_on [] a;
          later = first_given b;
          holds = append_assoc (going_on [] a) part (first_given b);
        };
        listing = first.1;
      },
      refl,
      refl,
      refl,
      refl,
      first.2,
      sym (last_goes_on who (steps_under plan stream before)),
    )

-- where it was given nothing before
pub met_first : (plan : Plan) (stream : List (List ℕ)) (t : Transmitter) (who mark n g : ℕ) (before after : List Event)
    → IsPlan plan → IsStream stream → slice_get plan.transmitters who ≡ Some t → IsInTime plan t
    → AreOfOthers t before → mark % 624 ≡ 0 → mark + n ≤ length stream → g % 4 ≡ 0 → mark + 52 ≤ g → g + 4 ≤ mark + n
    → has_listing t.address (feed plan stream) g ≡ true → JoinsBehind plan stream before after t who mark n g []
unfolding done_in going_on
met_first plan stream t who mark n g before after p u listed time others is_mark inside whole far l h =
    let nothing : given_before plan stream who before ≡ [] = last_goes_on who (steps_under plan stream before)
    ∙ ap (going_on []) (done_by_others plan stream t who before listed others) in
    let z : locked_from (given_before plan stream who before) mark ≡ mark =
    ap (λ x. locked_from x mark) nothing ∙ locked_nothing mark in
    let met = is_met plan stream t who mark n g before after p u listed time is_mark inside whole (omega arith) l h in
    (met.0, met.1, met.2, met.3, met.4, met.5, met.6 ∙ nothing)

-- whatever it was given before
pub met_in_any_state : (plan : Plan) (stream : List (List ℕ)) (t : Transmitter) (who mark n g : ℕ)
    (before after : List Event)
    → IsPlan plan → IsStream stream → slice_get plan.transmitters who ≡ Some t → IsInTime plan t
    → mark % 624 ≡ 0 → mark + n ≤ length stream → g % 4 ≡ 0 → mark + 1300 ≤ g → g + 4 ≤ mark + n
    → has_listing t.address (feed plan stream) g ≡ true
    → (x : Joined plan stream (before ++ Send t.address mark n ∷ after)) × (x.t ≡ t) × (x.who ≡ who)
    × (x.mark ≡ mark) × (x.count ≡ n) × (x.k ≤ g)
met_in_any_state plan stream t who mark n g before after p u listed time is_mark inside whole far l h =
    let z = (locked_soon (given_before plan stream who before) mark).1 in
    let met = is_met plan stream t who mark n g before after p u listed time is_mark inside whole (omega arith) l h in
    (met.0, met.1, met.2, met.3, met.4, met.5)

pub met_in_turn : (plan : Plan) (stream : List (List ℕ)) (t : Transmitter) (who mark n : ℕ) (before after : List Event)
    → IsPlan plan → IsStream stream → slice_get plan.transmitters who ≡ Some t → IsInTime plan t
    → mark % 624 ≡ 0 → mark + n ≤ length stream
    → pages_in plan ≤ length (orders stream (locked_from (given_before plan stream who before) mark + 52) (mark + n))
    → (x : Joined plan stream (before ++ Send t.address mark n ∷ after)) × (x.t ≡ t) × (x.who ≡ who)
    × (x.mark ≡ mark) × (x.count ≡ n)
met_in_turn plan stream t who mark n before after p u listed time is_mark inside enough =
    let z : ℕ = locked_from (given_before plan stream who before) mark in
    let one = lists_in_turn plan stream t (z + 52) (mark + n) p u (grind (arith, contains_from_get)) enough in
    let met = is_met plan stream t who mark n one.group before after p u listed time is_mark inside one.whole
    one.behind one.inside one.listing in
    (met.0, met.1, met.2, met.3, met.4)

pub met_in_turn_in_any_state : (plan : Plan) (stream : List (List ℕ)) (t : Transmitter) (who mark n : ℕ)
    (before after : List Event)
    → IsPlan plan → IsStream stream → slice_get plan.transmitters who ≡ Some t → IsInTime plan t
    → mark % 624 ≡ 0 → mark + n ≤ length stream → pages_in plan ≤ length (orders stream (mark + 1300) (mark + n))
    → (x : Joined plan stream (before ++ Send t.address mark n ∷ after)) × (x.t ≡ t) × (x.who ≡ who)
    × (x.mark ≡ mark) × (x.count ≡ n)
met_in_turn_in_any_state plan stream t who mark n before after p u listed time is_mark inside enough =
    let one = lists_in_turn plan stream t (mark + 1300) (mark + n) p u (grind (arith, contains_from_get)) enough in
    let met = met_in_any_state plan stream t who mark n one.group before after p u listed time is_mark inside one.whole
    one.behind one.inside one.listing in
    (met.0, met.1, met.2, met.3, met.4)

-- a plan may hold that event
pub may_be : (plan : Plan) (stream : List (List ℕ)) (t : Transmitter) (who mark n : ℕ) → IsStream stream
    → slice_get plan.transmitters who ≡ Some t → 1 ≤ n → mark + n ≤ length stream
    → IsEvent plan.transmitters (Send t.address mark n)
may_be plan stream t who mark n u listed some inside =
    let ts : List Transmitter = plan.transmitters in
    let most = u.most in
    record {
      listed = list_any-from_Contains nat_eq_equiv t.address (addresses_of ts)
          (contains_map (λ (x : Transmitter). x.address) ts t (contains_from_get ts who t listed));
      in_range = record { some = some; most = omega (arith, most, inside) };
    }

-- ---- the stretch alone

one_life : (plan : Plan) (stream : List (List ℕ)) (t : Transmitter) (who n : ℕ) (before after : List Event)
    → IsPlan plan → slice_get plan.transmitters who ≡ Some t → n ≤ length stream → AreOfOthers t before
    → AreOfOthers t after
    → lives_of who (steps_under plan stream (before ++ Send t.address 0 n ∷ after)) ≡ take n (feed plan stream) ∷ []
unfolding ended going_on first_given lives_then
one_life plan stream t who n before after p listed l first then =
    grind (arith, lives_are, ended, going_on, first_given, lives_then, done_by_others, append-nil)

pub sends_alone : (plan : Plan) (stream : List (List ℕ)) (t : Transmitter) (who n k : ℕ) (before after : List Event)
    → IsPlan plan → IsStream stream → slice_get plan.transmitters who ≡ Some t → IsInTime plan t
    → n ≤ length stream → IsFirstListing t.address (feed plan stream) 0 n k → AreOfOthers t before → AreOfOthers t after
    → sent_segments t who (steps_under plan stream (before ++ Send t.address 0 n ∷ after))
    ≡ stretch_of (feed plan stream) k n
unfolding sent_segments
sends_alone plan stream t who n k before after p u listed time l listing first then =
    grind (arith, one_life, append-nil, segments_from, contains_from_get, length-feed)
