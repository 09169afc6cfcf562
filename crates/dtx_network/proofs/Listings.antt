-- Whom the groups of a feed list. So exciters lock to the feed, and it serves each listed transmitter that is in time.
use Rattle.std.proofs.Common.{◌≡◌, ◌≢◌, ◌⊎◌, inl, inr, ℕ, zero, suc, ◌+◌, ◌/◌, ◌%◌, ◌<◌, ◌≤◌, ◌==◌, ◌&&◌, ◌||◌, Bool}
use Rattle.std.proofs.Common.{true, false, cond, Option, Some, None, List, [], ◌∷◌, length, take, get_or, refl, sym, ap}
use Rattle.std.proofs.Common.{ap₂, ◌∙◌, arith, is_some, slice_get, eqb-true, pos, ◌+ℤ◌, ◌≤ℤ◌}
use Rattle.std.specs.List.{range_with_len, list_any, find}
use Rattle.std.proofs.lemmas.Bool.{cases_lt, cases_Bool, eqb-false}
use Rattle.std.proofs.lemmas.Option.{slice_get-get_or}
use Rattle.dtx_packets.specs.Packets.{pid_of}
use Rattle.dtx_ops.specs.declared.fields.Entry.{Entry}
use Rattle.dtx_ops.specs.declared.fields.Ops.{Ops}
use Rattle.dtx_ops.specs.declared.paging.Paging.{Paging}
use Rattle.dtx_ops.specs.Paging.{page_of, pages_of}
use Rattle.dtx_plan.specs.declared.plan.Plan.{Plan}
use Rattle.dtx_plan.specs.declared.transmitter.Transmitter.{Transmitter}
use Rattle.dtx_adapter.specs.Feed.{entry_of, pages_for, paging_of, paging_at, listed, is_listed, filled_groups, ops_at}
use Rattle.dtx_adapter.specs.Feed.{feed}
use Rattle.dtx_adapter.proofs.PagesLemmas.{paging_of-few, paging_of-many, entry_on_page}
use Rattle.dtx_exciter.specs.Packets.{reads}
use Rattle.dtx_network.specs.Plans.{IsPlan, IsStream, IsListed, IsInTime}
use Rattle.dtx_network.specs.Orders.{is_operations, has_order, is_listing, has_listing, IsOrder}
use Rattle.dtx_network.proofs.Orders.{reads_as, reads_other, operations_read, other_stays, same_orders, order_says}
use Rattle.dtx_adapter.proofs.FeedsLemmas.{length-feed}
use Rattle.dtx_adapter.proofs.ReadingsLemmas.{sync_fed}
use Rattle.dtx_exciter.specs.Lockstep.{IsFeed}
use Rattle.dtx_exciter.specs.Pages as pages

-- ---- pages

-- a page that a transmitter doesn't stand on: there is another one, which is its own
pub not_its_page : {X : Type 0} (ts : List X) (n who : ℕ) → who < length ts → is_listed (paging_of ts n) who ≡ false
    → (page_of (paging_of ts n) ≢ who / 34) × (who / 34 < pages_of (paging_of ts n))
unfolding pages_for
not_its_page ts n who l other = grind (arith, cases_lt, paging_of-few, paging_of-many, eqb-false)

-- ---- what an order lists

-- a transmitter's entry
pub entry_is : (plan : Plan) (stream : List (List ℕ)) (t : Transmitter) (who g : ℕ) (ops : Ops) → IsPlan plan
    → slice_get plan.transmitters who ≡ Some t → IsOrder plan stream g ops
    → pages.entry_of t.address ops ≡ cond (is_listed (paging_at plan stream (g / 4)) who) (Some (entry_of t)) None
entry_is plan stream t who g ops p listed o = ap (find (λ e. e.address == t.address)) o.entries
    ∙ entry_on_page plan.transmitters (paging_at plan stream (g / 4)) who t p.sound.transmitters.distinct listed

some_cond : {A : Type 0} (b : Bool) (x : A) → is_some (cond b (Some x) None) ≡ b
some_cond true x = refl
some_cond false x = refl

pub lists_is : (plan : Plan) (stream : List (List ℕ)) (t : Transmitter) (who g : ℕ) (ops : Ops) → IsPlan plan
    → slice_get plan.transmitters who ≡ Some t → IsOrder plan stream g ops
    → pages.lists t.address ops ≡ is_listed (paging_at plan stream (g / 4)) who
lists_is plan stream t who g ops p listed o = ap (λ (e : Option Entry). is_some e) (grind (arith, entry_is))
    ∙ some_cond (is_listed (paging_at plan stream (g / 4)) who) (entry_of t)

-- ---- what a packet lists

said_lists : (plan : Plan) (stream before : List (List ℕ)) (t : Transmitter) (who k : ℕ) → IsPlan plan
    → slice_get plan.transmitters who ≡ Some t
    → pages.lists t.address (ops_at plan stream before k) ≡ is_listed (paging_at plan stream (k / 4)) who
unfolding ops_at
said_lists plan stream before t who k p listed = ap (λ (e : Option Entry). is_some e)
    (entry_on_page plan.transmitters (paging_at plan stream (k / 4)) who t p.sound.transmitters.distinct listed)
    ∙ some_cond (is_listed (paging_at plan stream (k / 4)) who) (entry_of t)

listing_at : (plan : Plan) (stream : List (List ℕ)) (t : Transmitter) (who k : ℕ) → IsPlan plan → IsStream stream
    → slice_get plan.transmitters who ≡ Some t → is_listing t.address (reads (get_or (feed plan stream) k []))
    ≡ (is_operations stream k && is_listed (paging_at plan stream (k / 4)) who)
unfolding is_operations
listing_at plan stream t who k p s listed = by_cases (cases_Bool (pid_of (get_or stream k []) == 0x1FFA))
  where
    test : Bool
    test = pid_of (get_or stream k []) == 0x1FFA

    own : Bool
    own = is_listed (paging_at plan stream (k / 4)) who

    by_cases : (test ≡ true) ⊎ (test ≡ false)
        → is_listing t.address (reads (get_or (feed plan stream) k [])) ≡ (test && own)
    by_cases (inl e) = ap (is_listing t.address) (reads_as (get_or (feed plan stream) k [])
        (ops_at plan stream (take k (feed plan stream)) k)
        (operations_read plan stream k p s (eqb-true (pid_of (get_or stream k [])) 0x1FFA e)))
        ∙ said_lists plan stream (take k (feed plan stream)) t who k p listed ∙ sym (ap (λ (b : Bool). b && own) e)
    by_cases (inr e) = grind (arith, reads_other, other_stays, eqb-false)

-- ---- what a group lists

any_within : (p q : ℕ → Bool) (a n : ℕ) → ((k : ℕ) → a ≤ k → k < a + n → p k ≡ q k)
    → list_any p (range_with_len a n) ≡ list_any q (range_with_len a n)
any_within p q a zero h = refl
any_within p q a (suc n) h = ap₂ ◌||◌ (h a (omega arith) (omega arith))
    (any_within p q (a + 1) n (λ k l m. h k (omega arith) (omega arith)))

each_or : (x y b : Bool) → ((x && b) || (y && b)) ≡ ((x || y) && b)
each_or true y true = refl
each_or false y b = refl
each_or true true false = refl
each_or true false false = refl

-- a test beside which another one stands
any_and : (p : ℕ → Bool) (b : Bool) (xs : List ℕ) → list_any (λ k. p k && b) xs ≡ (list_any p xs && b)
any_and p b [] = refl
any_and p b (x ∷ xs) = ap (λ (r : Bool). (p x && b) || r) (any_and p b xs) ∙ each_or (p x) (list_any p xs) b

pub listing_is : (plan : Plan) (stream : List (List ℕ)) (t : Transmitter) (who g : ℕ) → IsPlan plan → IsStream stream
    → slice_get plan.transmitters who ≡ Some t → g % 4 ≡ 0 → has_listing t.address (feed plan stream) g
    ≡ (has_order (feed plan stream) g && is_listed (paging_at plan stream (g / 4)) who)
unfolding has_listing has_order
listing_is plan stream t who g p s listed whole =
    any_within (λ k. is_listing t.address (reads (get_or (feed plan stream) k [])))
    (λ k. is_operations stream k && (is_listed (paging_at plan stream (g / 4)) who)) g 4 (λ k l m.
    let turn : k / 4 ≡ g / 4 = omega (arith, whole, l, m) in
    listing_at plan stream t who k p s listed
    ∙ ap (λ (u : ℕ). is_operations stream k && is_listed (paging_at plan stream u) who) turn)
    ∙ any_and (is_operations stream) (is_listed (paging_at plan stream (g / 4)) who) (range_with_len g 4)
    ∙ ap (λ (b : Bool). b && (is_listed (paging_at plan stream (g / 4)) who)) (sym (same_orders plan stream g p s))

and_true : (b : Bool) → (b && true) ≡ b
and_true true = refl
and_true false = refl

-- up to 35 transmitters stand on the only page
pub listing_few : (plan : Plan) (stream : List (List ℕ)) (t : Transmitter) (who g : ℕ) → IsPlan plan
    → IsStream stream → slice_get plan.transmitters who ≡ Some t → length plan.transmitters ≤ 35
    → has_listing t.address (feed plan stream) g ≡ has_order (feed plan stream) g
unfolding has_listing has_order
listing_few plan stream t who g p s listed few =
    any_within (λ k. is_listing t.address (reads (get_or (feed plan stream) k []))) (is_operations stream) g 4 (λ k l m.
    listing_at plan stream t who k p s listed
    ∙ ap (λ (paging : Paging). is_operations stream k && is_listed paging who)
    (paging_of-few plan.transmitters (filled_groups stream (k / 4)) few)
    ∙ and_true (is_operations stream k))
    ∙ sym (same_orders plan stream g p s)

-- ---- a group that lists somebody orders something

either_passes : (a b c d : Bool) → (a ≡ true → c ≡ true) → (b ≡ true → d ≡ true) → (a || b) ≡ true → (c || d) ≡ true
either_passes true b c d f g h = ap (λ (x : Bool). x || d) (f refl)
either_passes false b true d f g h = refl
either_passes false b false d f g h = g h

any_passes : (p q : ℕ → Bool) (xs : List ℕ) → ((k : ℕ) → p k ≡ true → q k ≡ true) → list_any p xs ≡ true
    → list_any q xs ≡ true
any_passes p q [] h e = e
any_passes p q (x ∷ xs) h e = either_passes (p x) (list_any p xs) (q x) (list_any q xs) (h x) (any_passes p q xs h) e

pub listing_orders : (address : ℕ) (packets : List (List ℕ)) (g : ℕ) → has_listing address packets g ≡ true
    → has_order packets g ≡ true
unfolding has_listing has_order is_operations
listing_orders address packets g h = grind (arith, any_passes, cases_Bool, reads_other, eqb-false)

-- ---- two orders

-- how many groups before a group hold a placeholder
abbrev earlier : List (List ℕ) → ℕ → ℕ
earlier stream g = filled_groups stream (g / 4)

same_pages : (plan : Plan) (stream : List (List ℕ)) (g h : ℕ) (ops other : Ops) → IsOrder plan stream g ops
    → IsOrder plan stream h other → pages_of ops.paging ≡ pages_of other.paging
unfolding paging_of
same_pages plan stream g h ops other o p = grind arith

-- ---- one order

some_picked : {A : Type 0} (b : Bool) (x y : A) → cond b (Some x) None ≡ Some y → x ≡ y
some_picked true x y e = cc
some_picked false x y e = cc

own_offset : (plan : Plan) (stream : List (List ℕ)) (t : Transmitter) (who g : ℕ) (ops : Ops) (e : Entry)
    → IsPlan plan → slice_get plan.transmitters who ≡ Some t → IsOrder plan stream g ops
    → pages.entry_of t.address ops ≡ Some e → e.offset ≡ t.offset
own_offset plan stream t who g ops e p listed o h =
    sym (ap (λ (x : Entry). x.offset) (some_picked (is_listed (paging_at plan stream (g / 4)) who) (entry_of t) e
    (sym (entry_is plan stream t who g ops p listed o) ∙ h)))

-- ---- the feed

pub mark_told : (b : Bool) → (cond b 0xB8 0x47 == 0xB8) ≡ b
mark_told true = refl
mark_told false = refl

locks_at : (plan : Plan) (stream : List (List ℕ)) (t : Transmitter) (delay who : ℕ) → IsPlan plan → IsStream stream
    → slice_get plan.transmitters who ≡ Some t → pos delay ≤ℤ (pos plan.max_delay +ℤ t.offset)
    → IsFeed t.address delay t.offset (feed plan stream)
unfolding paging_of
locks_at plan stream t delay who p s listed time =
    grind (arith, length-feed, sync_fed, mark_told, order_says, same_pages, lists_is, own_offset)

-- the place of a listed transmitter
pub place_of : (plan : Plan) (t : Transmitter) → IsListed plan t
    → (who : ℕ) × (slice_get plan.transmitters who ≡ Some t)
place_of plan t listed = (listed.0, slice_get-get_or plan.transmitters listed.0 t listed.1 ∙ ap Some listed.2)

-- whatever delay it has that is in time
pub locks_with : (plan : Plan) (stream : List (List ℕ)) (t : Transmitter) (delay : ℕ) → IsPlan plan → IsStream stream
    → IsListed plan t → pos delay ≤ℤ (pos plan.max_delay +ℤ t.offset)
    → IsFeed t.address delay t.offset (feed plan stream)
locks_with plan stream t delay p s listed time =
    let place = place_of plan t listed in locks_at plan stream t delay place.0 p s place.1 time

pub feed_locks : (plan : Plan) (stream : List (List ℕ)) (t : Transmitter) → IsPlan plan → IsStream stream
    → IsListed plan t → IsInTime plan t → IsFeed t.address t.delay t.offset (feed plan stream)
feed_locks plan stream t p s listed time = locks_with plan stream t t.delay p s listed time
