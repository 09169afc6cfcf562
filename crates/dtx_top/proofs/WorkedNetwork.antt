-- A simple network meets what the headline asks of transmitters, symbols and damage.
use Rattle.std.proofs.Common.{◌≡◌, ◌⊎◌, inl, inr, ℕ, zero, suc, ◌+◌, ◌-◌, ◌*◌, ◌/◌, ◌%◌, ◌<◌, ◌≤◌, ◌==◌, ◌&&◌, Bool}
use Rattle.std.proofs.Common.{true, false, List, [], ◌∷◌, ◌++◌, length, refl, sym, ap, subst, ◌∙◌, arith}
use Rattle.std.specs.Prelude.{Option, Some, None, IsSomeAnd, filter, slice_get}
use Rattle.std.specs.FinMap.{get}
use Rattle.std.specs.List.{range_with_len, Contains}
use Rattle.std.specs.Option.{option_map_or}
use Rattle.std.proofs.lemmas.Bool.{and_from, eq-eqb}
use Rattle.std.proofs.lemmas.List.Elements.{Contains-append_right}
use Rattle.std.proofs.lemmas.Option.{get_or_from_slice_get, slice_get_within}
use Rattle.dtx_lists.proofs.Range.{range_cases}
use Rattle.dtx_lists.proofs.RangeFilter.{filter-kept, filter-lost}
use Rattle.dtx_outside.specs.Shelf.{Files}
use Rattle.dtx_packets.specs.Packets.{packets_of}
use Rattle.dtx_plan.specs.declared.event.Event.{Event}
use Rattle.dtx_plan.specs.declared.event.Event.TheVariants.{Send}
use Rattle.dtx_plan.specs.declared.plan.NetPlan.{NetPlan}
use Rattle.dtx_plan.specs.declared.plan.Plan.{Plan}
use Rattle.dtx_plan.specs.declared.plan.ReceivePlan.{ReceivePlan}
use Rattle.dtx_plan.specs.declared.transmitter.Transmitter.{Transmitter}
use Rattle.dtx_make.specs.Hurt.{hurt}
use Rattle.dtx_receiver.specs.Packets.{received}
use Rattle.dtx_adapter.specs.Feed.{feed}
use Rattle.dtx_exciter.specs.Lockstep.{locked_from}
use Rattle.dtx_net.specs.Lives.{last_life, sent_segments}
use Rattle.dtx_net.proofs.PlaceOfLemmas.{place_only}
use Rattle.dtx_net.specs.Steps.{Step, transmitter_place}
use Rattle.dtx_chain.specs.Damage.{ArePackets}
use Rattle.dtx_network.specs.GivesBack.{BeginsField, IsReceivedAlone, next_field}
use Rattle.dtx_network.specs.Headline.{IsFirstListing, stretch_of}
use Rattle.dtx_network.specs.Network.{AreOfOthers, Joined, steps_under}
use Rattle.dtx_network.specs.Orders.{has_listing, has_order, orders}
use Rattle.dtx_network.specs.Plans.{IsInTime, IsListed, IsPlan, IsStream}
use Rattle.dtx_words.specs.Names.{received_name}
use Rattle.dtx_recipes.specs.SymbolFile as file
use Rattle.dtx_schedule.specs.TransmitterFiles.{symbol_file}
use Rattle.dtx_top.specs.HeadlineOfFiles.{HeadlineOfFiles}
use Rattle.dtx_top.specs.Networks.{damaged_file, sent_file}
use Rattle.dtx_top.specs.WorkedNetwork.{HasAllBack, IsGivenBack, IsLittle, IsSimple, WorkedNetwork}
use Rattle.dtx_top.proofs.HeadlineLaw.{HeadlineLaw}
use Rattle.dtx_top.proofs.SegmentsBack.{segments_of_file}
use Rattle.dtx_top.proofs.WorkedDamage.{few_slight}

-- ---- the network's laws

-- a transmitter that joins at a mark, with so many packets, behind these earlier ones of its life
abbrev pub Met : Plan → List (List ℕ) → Transmitter → ℕ → ℕ → ℕ → ℕ → List (List ℕ) → List Event → Type 0
Met plan stream t who mark n g earlier events =
    (x : Joined plan stream events) × (x.t ≡ t) × (x.who ≡ who) × (x.mark ≡ mark) × (x.count ≡ n) × (x.k ≤ g)
    × (x.fed.earlier ≡ earlier)

abbrev pub MetLaw : Type 0
MetLaw = (plan : Plan) (stream : List (List ℕ)) (t : Transmitter) (who mark n g : ℕ) (before after : List Event)
    → IsPlan plan → IsStream stream → slice_get plan.transmitters who ≡ Some t → IsInTime plan t
    → mark % 624 ≡ 0 → mark + n ≤ length stream
    → g % 4 ≡ 0 → locked_from (last_life who (steps_under plan stream before)) mark + 52 ≤ g → g + 4 ≤ mark + n
    → has_listing t.address (feed plan stream) g ≡ true
    → Met plan stream t who mark n g (last_life who (steps_under plan stream before))
    (before ++ Send t.address mark n ∷ after)

-- where it was given nothing before
abbrev pub MetFirstLaw : Type 0
MetFirstLaw = (plan : Plan) (stream : List (List ℕ)) (t : Transmitter) (who mark n g : ℕ) (before after : List Event)
    → IsPlan plan → IsStream stream → slice_get plan.transmitters who ≡ Some t → IsInTime plan t
    → AreOfOthers t before → mark % 624 ≡ 0 → mark + n ≤ length stream
    → g % 4 ≡ 0 → mark + 52 ≤ g → g + 4 ≤ mark + n → has_listing t.address (feed plan stream) g ≡ true
    → Met plan stream t who mark n g [] (before ++ Send t.address mark n ∷ after)

abbrev pub AloneLaw : Type 0
AloneLaw = (plan : Plan) (stream : List (List ℕ)) (t : Transmitter) (who n k : ℕ) (before after : List Event)
    → IsPlan plan → IsStream stream → slice_get plan.transmitters who ≡ Some t → IsInTime plan t
    → n ≤ length stream → IsFirstListing t.address (feed plan stream) 0 n k → AreOfOthers t before → AreOfOthers t after
    → sent_segments t who (steps_under plan stream (before ++ Send t.address 0 n ∷ after))
    ≡ stretch_of (feed plan stream) k n

abbrev pub OrdersLaw : Type 0
OrdersLaw = (plan : Plan) (stream : List (List ℕ)) (g : ℕ) → IsPlan plan → IsStream stream
    → has_order (feed plan stream) g ≡ has_order stream g

abbrev pub ListingsLaw : Type 0
ListingsLaw = (plan : Plan) (stream : List (List ℕ)) (t : Transmitter) (g : ℕ) → IsPlan plan → IsStream stream
    → IsListed plan t → length plan.transmitters ≤ 35
    → has_listing t.address (feed plan stream) g ≡ has_order (feed plan stream) g

abbrev pub PacketsLaw : Type 0
PacketsLaw = (plan : Plan) (stream : List (List ℕ)) → IsPlan plan → IsStream stream → ArePackets (feed plan stream)

-- which groups of a feed order something, and whom they list
pub record ListLaws : Type 0 where
  pub orders : OrdersLaw
  pub listings : ListingsLaw

pub record Laws : Type 0 where
  pub met : MetFirstLaw
  pub alone : AloneLaw
  pub lists : ListLaws
  pub packets : PacketsLaw
  pub headline : HeadlineLaw

-- ---- from where on it is locked

-- from the mark on, or from the third one
first_or_third : (earlier : List (List ℕ)) (mark : ℕ)
    → (locked_from earlier mark ≡ mark) ⊎ (locked_from earlier mark ≡ mark + 1248)
unfolding locked_from
first_or_third earlier mark = grind arith

-- it is packet 0 where a group counts that begins at packet 100 or earlier
from_first : (z mark k : ℕ) → (z ≡ mark) ⊎ (z ≡ mark + 1248) → mark ≡ 0 → z + 52 ≤ k → k ≤ 100 → z ≡ 0
from_first z mark k (inl e) first far near = omega (arith, e, first)
from_first z mark k (inr e) first far near = omega (arith, e, far, near)

-- ---- numbers

passing_in : (p : ℕ → Bool) (a n g : ℕ) → a ≤ g → g < a + n → p g ≡ true → Contains (filter p (range_with_len a n)) g
passing_in p a zero g l m h = absurd (omega (arith, l, m))
passing_in p a (suc n) g l m h = by_place (range_cases a g l) (λ k. passing_in p (a + 1) n g k (omega (arith, m)) h)
  where
    rest : List ℕ
    rest = range_with_len (a + 1) n

    at_test : (t : Bool) → p a ≡ t → Contains (filter p rest) g → Contains (filter p (a ∷ rest)) g
    at_test true e c = subst (λ (xs : List ℕ). Contains xs g) (sym (filter-kept p a rest e))
        (Contains-append_right (a ∷ []) (filter p rest) g c)
    at_test false e c = subst (λ (xs : List ℕ). Contains xs g) (sym (filter-lost p a rest e)) c

    by_place : (a ≡ g) ⊎ (a + 1 ≤ g) → (a + 1 ≤ g → Contains (filter p rest) g) → Contains (filter p (a ∷ rest)) g
    by_place (inl e) f = subst (λ (xs : List ℕ). Contains xs g) (sym (filter-kept p a rest (ap p e ∙ h)))
        (0, omega arith, e)
    by_place (inr k) f = at_test (p a) refl (f k)

order_in : (fed : List (List ℕ)) (k end g : ℕ) → k ≤ g → g + 4 ≤ end → g % 4 ≡ 0 → has_order fed g ≡ true
    → Contains (orders fed k end) g
unfolding orders
order_in fed k end g l m z h =
    passing_in (λ g. (g % 4 == 0) && has_order fed g) k (end - 3 - k) g l (omega (arith, l, m))
    (and_from (g % 4 == 0) (has_order fed g) (eq-eqb (g % 4) 0 z) h)

begins_field : (k end : ℕ) → k ≤ 100 → 372 ≤ end → BeginsField k end (next_field k)
begins_field k end l m = record {
  begins = turns (k / 312 + 1);
  behind = omega (arith, l);
  inside = omega (arith, l, m);
}
  where
    turns : (q : ℕ) → 312 * q % 312 ≡ 0
    turns q = omega arith

-- ---- what is received

-- the first transmitter's symbol file is the one that is received
sent_is : (plan : Plan) (network : NetPlan) (stream : List (List ℕ)) (a : Transmitter) (address : ℕ) → IsPlan plan
    → slice_get plan.transmitters 0 ≡ Some a → address ≡ a.address
    → sent_file plan network stream address ≡ symbol_file a 0 (steps_under plan stream network.events)
unfolding sent_file
sent_is plan network stream a address p listed e =
    let own : ℕ → Transmitter → List ℕ = λ who t. symbol_file t who (steps_under plan stream network.events) in
    ap (λ (o : Option ℕ).
    option_map_or (λ who. option_map_or (own who) (slice_get plan.transmitters who) []) o [])
    (ap (λ (n : ℕ). transmitter_place n plan.transmitters) e
    ∙ place_only plan.transmitters 0 a p.sound.transmitters listed)
    ∙ ap (λ (o : Option Transmitter). option_map_or (own 0) o []) listed

-- ---- the network

some_and : {X : Type 0} (o : Option X) (P Q : X → Type 0) → ((x : X) → P x → Q x) → IsSomeAnd o P → IsSomeAnd o Q
some_and None P Q f h = h
some_and (Some x) P Q f h = f x h

-- where a plan's transmitters stand on the only page, each group that holds an operations packet lists each of them
pub lists_each : ListLaws → (plan : Plan) (stream : List (List ℕ)) (t : Transmitter) (who g : ℕ) → IsPlan plan
    → IsStream stream → slice_get plan.transmitters who ≡ Some t → length plan.transmitters ≤ 35
    → has_order stream g ≡ true → has_listing t.address (feed plan stream) g ≡ true
lists_each laws plan stream t who g p u at few holds = laws.listings plan stream t g p u
    (who, slice_get_within plan.transmitters who t at, get_or_from_slice_get plan.transmitters who t t at) few
    ∙ laws.orders plan stream g p u ∙ holds

pub worked : Laws → (plan : Plan) (network : NetPlan) (stream : List (List ℕ)) (a b : Transmitter) (entries : ℕ)
    → IsPlan plan → IsStream stream → IsSimple plan network stream a b entries
    → WorkedNetwork plan network stream 100 entries
unfolding damaged_file
worked laws plan network stream a b entries p u s = record {
  one = one.0;
  other = other.0;
  two = λ e. s.differ (ap (λ (t : Transmitter). t.address) (sym one.1) ∙ e
      ∙ ap (λ (t : Transmitter). t.address) other.1);
  follows = (laws.headline plan stream network.events p u).follows one.0;
  other_follows = (laws.headline plan stream network.events p u).follows other.0;
  apart = (laws.headline plan stream network.events p u).apart one.0 other.0 100
      (order_in fed one.0.k (one.0.mark + one.0.count) 100 one.5 (omega (arith, end_one, s.long)) (omega arith) order)
      (order_in fed other.0.k (other.0.mark + other.0.count) 100 other.5 (omega (arith, end_other, s.long))
      (omega arith) order);
  given_back = some_and network.receive (IsLittle a.address entries)
      (IsGivenBack plan network stream one.0.t.address one.0.k entries) given_back s.received;
}
  where
    fed : List (List ℕ)
    fed = feed plan stream

    order : has_order (feed plan stream) 100 ≡ true
    order = laws.lists.orders plan stream 100 p u ∙ s.order

    one : Met plan stream a 0 0 (length stream) 100 [] network.events
    one = subst (Met plan stream a 0 0 (length stream) 100 []) (sym s.events)
        (laws.met plan stream a 0 0 (length stream) 100 [] (Send b.address 0 (length stream) ∷ []) p u s.first s.in_time
        tt (omega arith) (omega arith) (omega arith) (omega arith) (omega (arith, s.long))
        (lists_each laws.lists plan stream a 0 100 p u s.first s.few s.order))

    other : Met plan stream b 1 0 (length stream) 100 [] network.events
    other = subst (Met plan stream b 1 0 (length stream) 100 []) (sym s.events)
        (laws.met plan stream b 1 0 (length stream) 100 (Send a.address 0 (length stream) ∷ []) [] p u s.second
        s.other_in_time (s.differ, tt) (omega arith) (omega arith) (omega arith) (omega arith) (omega (arith, s.long))
        (lists_each laws.lists plan stream b 1 100 p u s.second s.few s.order))

    end_one : one.0.mark + one.0.count ≡ length stream
    end_one = omega (arith, one.3, one.4)

    end_other : other.0.mark + other.0.count ≡ length stream
    end_other = omega (arith, other.3, other.4)

    lock : locked_from one.0.fed.earlier one.0.mark ≡ 0
    lock = from_first (locked_from one.0.fed.earlier one.0.mark) one.0.mark one.0.k
        (first_or_third one.0.fed.earlier one.0.mark) one.3 one.0.listing.behind one.5

    first : IsFirstListing a.address (feed plan stream) 0 (length stream) one.0.k
    first = subst (λ (end : ℕ). IsFirstListing a.address (feed plan stream) 0 end one.0.k) end_one
        (subst (λ (z : ℕ). IsFirstListing a.address (feed plan stream) z (one.0.mark + one.0.count) one.0.k) lock
        (subst (λ (t : Transmitter). IsFirstListing t.address (feed plan stream)
        (locked_from one.0.fed.earlier one.0.mark) (one.0.mark + one.0.count) one.0.k) one.1 one.0.listing))

    alone : sent_segments a 0 (steps_under plan stream network.events)
        ≡ stretch_of (feed plan stream) one.0.k (length stream)
    alone = subst (λ (events : List Event). sent_segments a 0 (steps_under plan stream events)
        ≡ stretch_of (feed plan stream) one.0.k (length stream)) (sym s.events)
        (laws.alone plan stream a 0 (length stream) one.0.k [] (Send b.address 0 (length stream) ∷ []) p u s.first
        s.in_time (omega arith) first tt (λ e. s.differ (sym e), tt))

    slight : (receiver : ReceivePlan) → IsLittle a.address entries receiver
        → IsReceivedAlone (feed plan stream) one.0.k (length stream)
        (file.file_segments (damaged_file plan network stream receiver))
    slight receiver little =
        let steps : List Step = steps_under plan stream network.events in
        subst (λ (f : List ℕ). IsReceivedAlone fed one.0.k (length stream) (file.file_segments
        (hurt receiver.damage f))) (sym (sent_is plan network stream a receiver.from p s.first little.from))
        (few_slight fed one.0.k (length stream) (symbol_file a 0 steps) receiver.damage (laws.packets plan stream p u)
        one.5 (segments_of_file a 0 steps ∙ alone) little.few)

    given_back : (receiver : ReceivePlan) → IsLittle a.address entries receiver
        → IsGivenBack plan network stream one.0.t.address one.0.k entries receiver
    given_back receiver little = record {
      from = little.from ∙ ap (λ (t : Transmitter). t.address) (sym one.1);
      many = little.many;
      begins = begins_field one.0.k (length stream) one.5 s.long;
      slight = slight receiver little;
      all_back = ((laws.headline plan stream network.events p u).follows one.0).gives_all_back
          (file.file_segments (damaged_file plan network stream receiver))
          (begins_field one.0.k (one.0.mark + one.0.count) one.5 (omega (arith, end_one, s.long)))
          (subst (λ (n : ℕ). IsReceivedAlone fed one.0.k n
          (file.file_segments (damaged_file plan network stream receiver))) (sym end_one) (slight receiver little));
    }

-- ---- its files

pub file_back : (plan : Plan) (network : NetPlan) (stream : List (List ℕ)) (held now : Files) (entries : ℕ)
    (w : WorkedNetwork plan network stream 100 entries) → HeadlineOfFiles plan network stream held now
    → IsSomeAnd network.receive (λ receiver.
    IsSomeAnd (get now received_name) (HasAllBack plan network stream receiver w.one.k))
file_back plan network stream held now entries w h = of_receiver network.receive refl w.given_back
  where
    of_receiver : (o : Option ReceivePlan) → network.receive ≡ o
        → IsSomeAnd o (IsGivenBack plan network stream w.one.t.address w.one.k entries)
        → IsSomeAnd o (λ receiver. IsSomeAnd (get now received_name) (HasAllBack plan network stream receiver w.one.k))
    of_receiver None is back = back
    of_receiver (Some receiver) is back = some_and (get now received_name)
        (λ bytes. packets_of bytes ≡ received (file.file_segments (damaged_file plan network stream receiver)))
        (HasAllBack plan network stream receiver w.one.k) (λ bytes e. e ∙ back.all_back.packets) (h.packets receiver is)
