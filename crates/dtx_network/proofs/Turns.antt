-- A listing comes among as many orders as there are pages.
use Rattle.std.proofs.Common.{◌≡◌, ◌⊎◌, inl, inr, ℕ, zero, suc, ◌+◌, ◌-◌, ◌*◌, ◌/◌, ◌%◌, ◌<◌, ◌≤◌, ◌==◌, ◌&&◌, ◌||◌}
use Rattle.std.proofs.Common.{Bool, true, false, cond, Some, List, [], ◌∷◌, length, take, drop, get_or, refl, sym, ap}
use Rattle.std.proofs.Common.{ap₂, ◌∙◌, arith, slice_get, eq-eqb, eqb-true, ne_eqb}
use Rattle.std.specs.List.{range_with_len, list_any, filter, Contains}
use Rattle.std.proofs.lemmas.Bool.{cases_lt, cases_Bool, eqb-false, and_from, and_left}
use Rattle.std.proofs.lemmas.List.Elements.{Contains-append_right, filter_agree}
use Rattle.std.proofs.lemmas.Option.{slice_get_within}
use Rattle.dtx_packets.specs.Packets.{pid_of}
use Rattle.dtx_lists.proofs.RangeFilter.{filter-kept, filter-lost}
use Rattle.dtx_plan.specs.declared.plan.Plan.{Plan}
use Rattle.dtx_plan.specs.declared.transmitter.Transmitter.{Transmitter}
use Rattle.dtx_adapter.specs.Feed.{is_placeholder, paging_at, is_listed, is_filled, filled_groups, feed, IsListedIn}
use Rattle.dtx_adapter.proofs.GroupsLemmas.{filled_groups-next}
use Rattle.dtx_adapter.proofs.TurnsLemmas.{in_turn}
use Rattle.dtx_network.specs.Plans.{IsPlan, IsStream, IsListed}
use Rattle.dtx_network.specs.Orders.{is_operations, has_order, has_listing, pages_in, orders}
use Rattle.dtx_network.proofs.Orders.{no_pid, same_orders}
use Rattle.dtx_network.proofs.Listings.{listing_is, listing_few, place_of}

-- ---- one page

pub listing_one_page : (plan : Plan) (stream : List (List ℕ)) (t : Transmitter) (g : ℕ) → IsPlan plan
    → IsStream stream → IsListed plan t → length plan.transmitters ≤ 35
    → has_listing t.address (feed plan stream) g ≡ has_order (feed plan stream) g
listing_one_page plan stream t g p s listed few =
    let place = place_of plan t listed in listing_few plan stream t place.0 g p s place.1 few

-- ---- a group's packets

no_packets : (a n : ℕ) → ◌≡◌ {A = List (List ℕ)} (take n (drop a [])) []
no_packets zero zero = refl
no_packets zero (suc n) = refl
no_packets (suc a) zero = refl
no_packets (suc a) (suc n) = refl

one_on : (p : List ℕ → Bool) → p [] ≡ false → (ps : List (List ℕ)) (a n : ℕ)
    → list_any p (take (suc n) (drop a ps)) ≡ (p (get_or ps a []) || list_any p (take n (drop (suc a) ps)))
one_on p none [] a n = rw (no_packets a (suc n), ← ap₂ ◌||◌ none (ap (list_any p) (no_packets (suc a) n)))
one_on p none (x ∷ ps) zero n = refl
one_on p none (x ∷ ps) (suc a) n = one_on p none ps a n

-- whether one of n packets from packet a on passes, where nothing passes behind the last one
any_slice : (p : List ℕ → Bool) → p [] ≡ false → (ps : List (List ℕ)) (a n : ℕ)
    → list_any (λ k. p (get_or ps k [])) (range_with_len a n) ≡ list_any p (take n (drop a ps))
any_slice p none ps a zero = refl
any_slice p none ps a (suc n) =
    let next : a + 1 ≡ suc a = omega arith in
    ap (λ (b : Bool). p (get_or ps a []) || b) (rw (any_slice p none ps (a + 1) n, next)) ∙ sym (one_on p none ps a n)

filled_is : (stream : List (List ℕ)) (u : ℕ) → has_order stream (4 * u) ≡ is_filled stream u
unfolding has_order is_operations is_filled is_placeholder
filled_is stream u =
    let four : 4 ≡ 4 * u + 4 - 4 * u = omega arith in
    any_slice (λ p. pid_of p == 0x1FFA) (ne_eqb (pid_of []) 0x1FFA no_pid) stream (4 * u) 4
    ∙ ap (λ (n : ℕ). list_any (λ p. pid_of p == 0x1FFA) (take n (drop (4 * u) stream))) four

-- ---- as many orders as groups that hold placeholders

-- the test by which orders are told
abbrev orders_at : List (List ℕ) → ℕ → Bool
orders_at stream g = (g % 4 == 0) && has_order stream g

length-kept : (b : Bool) (x : ℕ) (xs : List ℕ) → length (cond b (x ∷ xs) xs) ≡ cond b 1 0 + length xs
length-kept true x xs = omega arith
length-kept false x xs = omega arith

test_whole : (stream : List (List ℕ)) (k : ℕ) → k % 4 ≡ 0 → orders_at stream k ≡ is_filled stream (k / 4)
test_whole stream k whole = grind (arith, eq-eqb) ∙ filled_is stream (k / 4)

-- those from packet k on, where those behind it are counted
one_counted : (stream : List (List ℕ)) (k n : ℕ)
    → filled_groups stream ((k + 1 + 3) / 4) + length (filter (orders_at stream) (range_with_len (k + 1) n))
    ≡ filled_groups stream ((k + 1 + n + 3) / 4)
    → filled_groups stream ((k + 3) / 4) + length (filter (orders_at stream) (k ∷ range_with_len (k + 1) n))
    ≡ filled_groups stream ((k + suc n + 3) / 4)
one_counted stream k n further = elim (cases_Bool (k % 4 == 0)) [
  | inl t ↦
      let whole : k % 4 ≡ 0 = eqb-true (k % 4) 0 t in
      let here : (k + 3) / 4 ≡ k / 4 = omega (arith, whole) in
      let next : (k + 1 + 3) / 4 ≡ k / 4 + 1 = omega (arith, whole) in
      let kept : length (filter (orders_at stream) (k ∷ range_with_len (k + 1) n))
      ≡ cond (is_filled stream (k / 4)) 1 0 + length rest = length-kept (orders_at stream k) k rest
      ∙ ap (λ (b : Bool). cond b 1 0 + length rest) (test_whole stream k whole) in
      omega (
        arith,
        kept,
        filled_groups-next stream (k / 4),
        ap (filled_groups stream) here,
        ap (filled_groups stream) next,
        ap (filled_groups stream) ends,
        further,
      )
  | inr f ↦ grind (arith, eqb-false, filter-lost, and_left)
]
  where
    rest : List ℕ
    rest = filter (orders_at stream) (range_with_len (k + 1) n)

    ends : (k + 1 + n + 3) / 4 ≡ (k + suc n + 3) / 4
    ends = omega arith

orders_counted : (stream : List (List ℕ)) (k n : ℕ)
    → filled_groups stream ((k + 3) / 4) + length (filter (orders_at stream) (range_with_len k n))
    ≡ filled_groups stream ((k + n + 3) / 4)
orders_counted stream k zero = grind arith
orders_counted stream k (suc n) = one_counted stream k n (orders_counted stream (k + 1) n)

-- ---- one of them lists the transmitter

kept_behind : (b : Bool) (a g : ℕ) (rest : List ℕ) → Contains rest g → Contains (cond b (a ∷ rest) rest) g
kept_behind true a g rest c = Contains-append_right (a ∷ []) rest g c
kept_behind false a g rest c = c

-- what passes in a range is kept of it
kept_in : (p : ℕ → Bool) (a n g : ℕ) → a ≤ g → g < a + n → p g ≡ true → Contains (filter p (range_with_len a n)) g
kept_in p a zero g from to passes = absurd (omega arith)
kept_in p a (suc n) g from to passes = by_place (λ l. kept_in p (a + 1) n g (omega arith) (omega arith) passes)
    (cases_lt a g)
  where
    rest : List ℕ
    rest = filter p (range_with_len (a + 1) n)

    by_place : (a < g → Contains rest g) → (a < g) ⊎ (g ≤ a) → Contains (filter p (a ∷ range_with_len (a + 1) n)) g
    by_place h (inl l) = kept_behind (p a) a g rest (h l)
    by_place h (inr l) = grind (arith, filter-kept)

-- a group of these that lists it
pub record ListsAmong (address : ℕ) (packets : List (List ℕ)) (k end : ℕ) : Type 0 where
  pub group : ℕ
  pub among : Contains (orders packets k end) group
  pub listing : has_listing address packets group ≡ true
  pub whole : group % 4 ≡ 0
  pub behind : k ≤ group
  pub inside : group + 4 ≤ end

order_filled : (plan : Plan) (stream : List (List ℕ)) (u : ℕ) → IsPlan plan → IsStream stream
    → is_filled stream u ≡ true → has_order (feed plan stream) (4 * u) ≡ true
order_filled plan stream u p s h = same_orders plan stream (4 * u) p s ∙ filled_is stream u ∙ h

listing_own : (plan : Plan) (stream : List (List ℕ)) (t : Transmitter) (who g : ℕ) → IsPlan plan → IsStream stream
    → slice_get plan.transmitters who ≡ Some t → g % 4 ≡ 0 → has_order (feed plan stream) g ≡ true
    → is_listed (paging_at plan stream (g / 4)) who ≡ true → has_listing t.address (feed plan stream) g ≡ true
listing_own plan stream t who g p s listed whole order own = listing_is plan stream t who g p s listed whole
    ∙ and_from (has_order (feed plan stream) g) (is_listed (paging_at plan stream (g / 4)) who) order own

listed_among : (plan : Plan) (stream : List (List ℕ)) (t : Transmitter) (who k end : ℕ) → IsPlan plan
    → IsStream stream → slice_get plan.transmitters who ≡ Some t
    → pages_in plan ≤ length (orders stream k end) → ListsAmong t.address (feed plan stream) k end
unfolding orders
listed_among plan stream t who k end p s listed enough =
    let m : ℕ = end - 3 - k in
    let from : ℕ = (k + 3) / 4 in
    let to : ℕ = (k + m + 3) / 4 in
    let counted = orders_counted stream k m in
    let turn : IsListedIn plan.transmitters stream from to who =
    in_turn plan.transmitters stream from to who (omega arith) (omega (arith, counted, enough))
    (slice_get_within plan.transmitters who t listed) in
    let u : ℕ = turn.group in
    let g : ℕ = 4 * u in
    let least = turn.least in
    let within = turn.within in
    let whole : g % 4 ≡ 0 = omega arith in
    let place : g / 4 ≡ u = omega arith in
    let order : has_order (feed plan stream) g ≡ true = order_filled plan stream u p s turn.filled in
    let own : is_listed (paging_at plan stream (g / 4)) who ≡ true =
    ap (λ (v : ℕ). is_listed (paging_at plan stream v) who) place ∙ turn.listed in
    record {
      group = g;
      among = kept_in (orders_at (feed plan stream)) k m g (omega (arith, least)) (omega (arith, within))
          (and_from (g % 4 == 0) (has_order (feed plan stream) g) (eq-eqb (g % 4) 0 whole) order);
      listing = listing_own plan stream t who g p s listed whole order own;
      whole = whole;
      behind = omega (arith, least);
      inside = omega (arith, within);
    }

pub lists_in_turn : (plan : Plan) (stream : List (List ℕ)) (t : Transmitter) (k end : ℕ) → IsPlan plan
    → IsStream stream → IsListed plan t → pages_in plan ≤ length (orders stream k end)
    → ListsAmong t.address (feed plan stream) k end
lists_in_turn plan stream t k end p s listed enough =
    let place = place_of plan t listed in
    listed_among plan stream t place.0 k end p s place.1 enough

pub in_turn_listed : (plan : Plan) (stream : List (List ℕ)) (t : Transmitter) (k end : ℕ) → IsPlan plan
    → IsStream stream → IsListed plan t → pages_in plan ≤ length (orders (feed plan stream) k end)
    → (g : ℕ) × Contains (orders (feed plan stream) k end) g × (has_listing t.address (feed plan stream) g ≡ true)
unfolding orders
in_turn_listed plan stream t k end p s listed enough =
    let one = lists_in_turn plan stream t k end p s listed (grind (arith, filter_agree, same_orders)) in
    (one.group, one.among, one.listing)
