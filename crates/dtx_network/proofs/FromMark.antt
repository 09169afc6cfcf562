-- An exciter that is given a feed from one of its marks on, behind packets without a mark: nothing before its first
-- listing, and from there on the feed's own segments.
use Rattle.std.proofs.Common.{◌≡◌, inl, inr, ℕ, ℤ, zero, suc, ◌+◌, ◌-◌, ◌/◌, ◌%◌, ◌<◌, ◌≤◌, ◌==◌, true, false, Option}
use Rattle.std.proofs.Common.{Some, None, option_map, List, [], ◌∷◌, ◌++◌, length, take, drop, get_or, map, refl, sym}
use Rattle.std.proofs.Common.{ap, ap₂, subst, ◌∙◌, arith}
use Rattle.std.specs.Prelude.{Err, slice_get, slice_range}
use Rattle.std.specs.List.{range_with_len, flat_map}
use Rattle.std.proofs.lemmas.Bool.{cases_Bool, cases_lt, eqb-true, true≢false}
use Rattle.std.proofs.lemmas.Option.{none-some, slice_get_within}
use Rattle.std.proofs.lemmas.List.{append-nil, drop_at, get_or-take, get_or_append_left, length-drop, length-take}
use Rattle.std.proofs.lemmas.List.{length-take-le, take-map, take-take, take_more}
use Rattle.dtx_packets.specs.Packets.{sync_of}
use Rattle.dtx_cadence.specs.Anchor.{has_mark, anchor, seen_by, seen}
use Rattle.dtx_cadence.specs.Cadence.{IsInStep}
use Rattle.dtx_cadence.proofs.NextAnchorLemmas.{anchor_below, anchor_is_mark}
use Rattle.dtx_plan.specs.declared.plan.Plan.{Plan}
use Rattle.dtx_plan.specs.declared.transmitter.Transmitter.{Transmitter}
use Rattle.dtx_adapter.specs.Feed.{paging_at, is_listed, filled_groups, feed}
use Rattle.dtx_ops.specs.declared.fields.Ops.{Ops}
use Rattle.dtx_ops.specs.declared.paging.Paging.{Paging}
use Rattle.dtx_ops.specs.Paging.{page_of, pages_of}
use Rattle.dtx_exciter.specs.declared.answers.Told.TheVariants.{Quiet}
use Rattle.dtx_exciter.specs.Order.{counting_order, orders}
use Rattle.dtx_exciter.specs.Told.{served, told_under}
use Rattle.dtx_exciter.specs.Packets.{syncs, readings, anchor_of, under, last_answer}
use Rattle.dtx_exciter.specs.Emission.{sent_at, given_under, last_segments, emission}
use Rattle.dtx_exciter.specs.Lockstep.{IsFeed, IsStretch, locked_by, locked_from, stretch}
use Rattle.dtx_exciter.specs.Log.{line_of, life_lines}
use Rattle.dtx_exciter.specs.Stretch.{emission_behind, lines_behind, sync_behind, before_stretch, stretch_lines}
use Rattle.dtx_exciter.proofs.EmittedLemmas.{emission_more}
use Rattle.dtx_exciter.proofs.ForceLemmas.{counted_behind}
use Rattle.dtx_exciter.proofs.InLifeLemmas.{counted_same}
use Rattle.dtx_exciter.proofs.UnderLemmas.{length-syncs, length-said, told_seen, goes}
use Rattle.dtx_exciter.proofs.FollowedLemmas.{Follows, follows, after, after_more, syncs_append, told_is}
use Rattle.dtx_exciter.proofs.LockstepIsLemmas.{lockstep_is}
use Rattle.dtx_exciter.proofs.LinesLemmas.{lines_more, lines_is}
use Rattle.dtx_network.specs.Plans.{IsPlan, IsStream}
use Rattle.dtx_network.specs.Orders.{has_order, presets}
use Rattle.dtx_network.specs.Headline.{IsFirstListing, HasNoListing, HaveNoMark, IsFedAnew, stretch_of}
use Rattle.dtx_network.proofs.Orders.{order_none, order_says}
use Rattle.dtx_network.proofs.Listings.{not_its_page, lists_is, listing_is, place_of, locks_with}
use Rattle.dtx_network.proofs.Waiting.{IsOther, none_served, told_waits, sent_waits, All-orders}
use Rattle.dtx_network.proofs.Stretches.{lines_are, stretch_is}
use Rattle.dtx_network.proofs.Emitting.{stretch_from}

-- ---- packets without a mark

no_anchor : (ds : List (List ℕ)) → HaveNoMark ds → anchor (syncs ds) ≡ None
unfolding anchor
no_anchor ds h = by_anchor (anchor (syncs ds)) refl
  where
    by_anchor : (o : Option ℕ) → anchor (syncs ds) ≡ o → anchor (syncs ds) ≡ None
    by_anchor None e = e
    by_anchor (Some j) e =
        let b : j < length (syncs ds) = anchor_below (syncs ds) j e in
        absurd (true≢false (sym (grind (arith, anchor_is_mark)) ∙ h j (omega (arith, b, length-syncs ds))))

none_locked : (ds : List (List ℕ)) → HaveNoMark ds → anchor_of ds ≡ None
unfolding anchor_of
none_locked ds h = no_anchor ds h

front_unmarked : (ds : List (List ℕ)) (n : ℕ) → HaveNoMark ds → HaveNoMark (take n ds)
unfolding syncs
front_unmarked ds n h = λ i l.
    let s : i < n = omega (arith, l, length-take n ds) in
    let all : i < length ds = omega (arith, l, length-take n ds) in
    ap (λ x. x == 0xB8)
    (ap (λ (xs : List ℕ). get_or xs i 0) (sym (take-map sync_of n ds)) ∙ get_or-take n (map sync_of ds) i 0 s)
    ∙ h i all

-- a packet before which nothing is locked is answered with nothing
quiet_free : (a d n : ℕ) (q : Option ℕ) (now : Option (List (List ℕ))) → told_seen a d (seen_by n None q) now ≡ Quiet
quiet_free a d n None now = refl
quiet_free a d n (Some j) now = refl

told_free : (a d : ℕ) (ds : List (List ℕ)) (p : List ℕ) → HaveNoMark ds → last_answer a d (ds ++ p ∷ []) ≡ Quiet
unfolding seen
told_free a d ds p h = grind (arith, goes, told_seen, no_anchor, quiet_free)

given_free : (a d : ℕ) (ds : List (List ℕ)) → HaveNoMark ds → last_segments a d ds ≡ []
unfolding last_segments under
given_free a d ds h = ap (λ o. given_under a d (option_map (λ k. drop k ds) o)) (none_locked ds h)

-- ---- all that is given and logged of some packets

flat_nothing : {X : Type 0} (f : ℕ → List X) (a n : ℕ) → ((i : ℕ) → i < a + n → f i ≡ [])
    → flat_map f (range_with_len a n) ≡ []
flat_nothing f a zero h = refl
flat_nothing f a (suc n) h = ap₂ ◌++◌ (h a (omega arith)) (flat_nothing f (a + 1) n (λ i l. h i (omega arith)))

sends_free : (a d : ℕ) (ds : List (List ℕ)) → HaveNoMark ds → emission a d ds ≡ []
unfolding emission
sends_free a d ds h = flat_nothing (λ i. last_segments a d (take (i + 1) ds)) 0 (length ds)
    (λ i m. given_free a d (take (i + 1) ds) (front_unmarked ds (i + 1) h))

logs_free : (a d s : ℕ) (ds : List (List ℕ)) → HaveNoMark ds → life_lines a d s ds ≡ []
unfolding life_lines
logs_free a d s ds h =
    flat_nothing (λ i. line_of (s + length (emission a d (take i ds))) (length (last_segments a d (take (i + 1) ds)))
    (last_answer a d (take (i + 1) ds))) 0 (length ds) (λ i m.
    ap (line_of (s + length (emission a d (take i ds))) (length (last_segments a d (take (i + 1) ds))))
    (ap (last_answer a d) (take_more ds i [] (omega (arith, m)))
    ∙ told_free a d (take i ds) (get_or ds i []) (front_unmarked ds i h)))

-- ---- no order that lists it

-- each order that counts behind a mark, up to packet end, tells another page than its own
abbrev NoneLists : ℕ → ℕ → List (List ℕ) → ℕ → ℕ → Type 0
NoneLists address own feed mark end =
    (g : ℕ) (ops : Ops) → mark + 52 ≤ g → g + 4 ≤ end → counting_order (readings feed) g ≡ Some ops
    → IsOther address own (record { place = g; ops = ops })

-- the first j packets of a feed from a mark on
abbrev part : List (List ℕ) → ℕ → ℕ → List (List ℕ)
part feed mark j = take j (drop mark feed)

-- Packets without a mark are given, and then n of the feed from a mark on, none of whose orders lists it.
record Waits (a d own : ℕ) (z : ℤ) (earlier feed : List (List ℕ)) (mark n : ℕ) : Type 0 where
  pub locks : IsFeed a d z feed
  pub unmarked : HaveNoMark earlier
  pub at_mark : mark % 624 ≡ 0
  pub inside : mark + n ≤ length feed
  pub none : NoneLists a own feed mark (mark + n)

length-part : (feed : List (List ℕ)) (mark j : ℕ) → mark + j ≤ length feed → length (part feed mark j) ≡ j
length-part feed mark j l = length-take-le j (drop mark feed) (omega (arith, l, length-drop mark feed))

at_place : (a own g h : ℕ) (ops : Ops) → IsOther a own (record { place = g; ops = ops })
    → IsOther a own (record { place = h; ops = ops })
at_place a own g h ops w = record { unlisted = w.unlisted; other = w.other; below = w.below }

counted_there : (feed : List (List ℕ)) (mark j g : ℕ) → mark % 624 ≡ 0 → mark + j ≤ length feed → g + 4 ≤ j → 52 ≤ g
    → counting_order (readings (part feed mark j)) g ≡ counting_order (readings feed) (mark + g)
counted_there feed mark j g m l h s =
    ap (counting_order (readings (part feed mark j))) (omega arith) ∙ counted_same [] feed mark j g m refl l h s

serves_none : (a d own : ℕ) (z : ℤ) (earlier feed : List (List ℕ)) (mark n m i : ℕ)
    → Waits a d own z earlier feed mark n → m ≤ n → i + 4 ≤ m
    → served a d (orders (readings (part feed mark m)) i) ≡ Err None
serves_none a d own z earlier feed mark n m i w l h = none_served a d own (orders (readings (part feed mark m)) i)
    (All-orders (IsOther a own) (readings (part feed mark m)) i (λ g ops s e.
    let far = (counted_behind (readings (part feed mark m)) g ops e).flushed in
    let inside = w.inside in
    at_place a own (mark + g) g ops (w.none (mark + g) ops (omega (arith, far)) (omega (arith, s, h, l))
    (sym (counted_there feed mark m g w.at_mark (omega (arith, inside, l)) (omega (arith, s, h)) far) ∙ e))))

-- ---- what one packet gives, and is answered with

nothing_in_step : (ds : List (List ℕ)) → HaveNoMark ds → IsInStep (syncs ds)
nothing_in_step ds h = λ j e. absurd (none-some j (sym (no_anchor ds h) ∙ e))

follow : (a d own : ℕ) (z : ℤ) (earlier feed : List (List ℕ)) (mark n : ℕ) → Waits a d own z earlier feed mark n
    → 0 < n → Follows earlier feed mark n
follow a d own z earlier feed mark n w s = grind (arith, follows, nothing_in_step)

-- the anchor is the mark
anchor_there : (earlier feed : List (List ℕ)) (mark n : ℕ) → HaveNoMark earlier → (w : Follows earlier feed mark n)
    → 0 < n → w.place ≡ length earlier
unfolding anchor_of anchor
anchor_there earlier feed mark n h w s = elim (cases_lt w.place (length earlier)) [
  | inr l ↦ let b = w.before in omega (arith, l, b)
  | inl l ↦
      let one : List (List ℕ) = take (0 + 1) (drop mark feed) in
      let marked : has_mark (syncs (earlier ++ one)) w.place ≡ true =
      anchor_is_mark (syncs (earlier ++ one)) (length (syncs (earlier ++ one))) w.place (w.anchors 0 s) in
      let same : has_mark (syncs (earlier ++ one)) w.place ≡ has_mark (syncs earlier) w.place =
      ap (λ x. x == 0xB8) (grind (arith, syncs_append, get_or_append_left, length-syncs)) in
      absurd (true≢false (sym marked ∙ same ∙ h w.place l))
]

under_part : (earlier feed : List (List ℕ)) (mark n j : ℕ) → HaveNoMark earlier → Follows earlier feed mark n → j < n
    → under (after earlier feed mark (j + 1)) ≡ Some (part feed mark (j + 1))
unfolding under
under_part earlier feed mark n j h w l = ap (option_map (λ k. drop k (after earlier feed mark (j + 1))))
    (w.anchors j l ∙ ap Some (anchor_there earlier feed mark n h w (omega (arith, l))))
    ∙ ap Some (drop_at earlier (part feed mark (j + 1)) (length earlier) refl)

-- where it waits
given_no : (a d : ℕ) (l : List (List ℕ))
    → (4 ≤ length l → served a d (orders (readings l) (length l - 4)) ≡ Err None) → 0 < length l
    → given_under a d (Some l) ≡ []
unfolding sent_at
given_no a d l h s = grind (arith, cases_Bool, eqb-true, sent_waits)

told_no : (a d : ℕ) (l : List (List ℕ))
    → (4 ≤ length l → served a d (orders (readings l) (length l - 4)) ≡ Err None) → 0 < length l
    → told_under a d (Some (readings l)) ≡ Quiet
told_no a d l h s = grind (arith, length-said, cases_Bool, eqb-true, told_waits)

waits_front : (a d own : ℕ) (z : ℤ) (earlier feed : List (List ℕ)) (mark n j : ℕ)
    → Waits a d own z earlier feed mark n → j < n → 4 ≤ length (part feed mark (j + 1))
    → served a d (orders (readings (part feed mark (j + 1))) (length (part feed mark (j + 1)) - 4)) ≡ Err None
waits_front a d own z earlier feed mark n j w s h =
    let inside = w.inside in
    serves_none a d own z earlier feed mark n (j + 1) (length (part feed mark (j + 1)) - 4) w (omega (arith, s))
    (omega (arith, h, length-part feed mark (j + 1) (omega (arith, s, inside))))

some_front : (feed : List (List ℕ)) (mark n j : ℕ) → mark + n ≤ length feed → j < n
    → 0 < length (part feed mark (j + 1))
some_front feed mark n j l s = omega (arith, length-part feed mark (j + 1) (omega (arith, s, l)))

given_nothing : (a d own : ℕ) (z : ℤ) (earlier feed : List (List ℕ)) (mark n j : ℕ)
    → Waits a d own z earlier feed mark n → j < n → last_segments a d (after earlier feed mark (j + 1)) ≡ []
unfolding last_segments
given_nothing a d own z earlier feed mark n j w s = ap (given_under a d) (under_part earlier feed mark n j w.unmarked
    (follow a d own z earlier feed mark n w (omega (arith, s))) s)
    ∙ given_no a d (part feed mark (j + 1)) (waits_front a d own z earlier feed mark n j w s)
    (some_front feed mark n j w.inside s)

told_nothing : (a d own : ℕ) (z : ℤ) (earlier feed : List (List ℕ)) (mark n j : ℕ)
    → Waits a d own z earlier feed mark n → j < n → last_answer a d (after earlier feed mark (j + 1)) ≡ Quiet
told_nothing a d own z earlier feed mark n zero w s =
    let inside = w.inside in
    ap (last_answer a d) (rw (after_more earlier feed mark 0 (omega (arith, s, inside)), append-nil earlier))
    ∙ told_free a d earlier (get_or (drop mark feed) 0 []) w.unmarked
told_nothing a d own z earlier feed mark n (suc j) w s =
    let v : Follows earlier feed mark n = follow a d own z earlier feed mark n w (omega (arith, s)) in
    told_is a d earlier feed mark n (suc j) v w.inside (omega arith) s
    ∙ ap (λ x. told_under a d (option_map readings x)) (sym (v.holds (suc j) s)
    ∙ under_part earlier feed mark n (suc j) w.unmarked v s)
    ∙ told_no a d (part feed mark (suc j + 1)) (waits_front a d own z earlier feed mark n (suc j) w s)
    (some_front feed mark n (suc j) w.inside s)

sends_behind : (a d own : ℕ) (z : ℤ) (earlier feed : List (List ℕ)) (mark n : ℕ)
    → Waits a d own z earlier feed mark n → emission_behind a d earlier (part feed mark n) ≡ []
unfolding emission_behind
sends_behind a d own z earlier feed mark n w =
    flat_nothing (λ i. last_segments a d (earlier ++ take (i + 1) (part feed mark n))) 0 (length (part feed mark n))
    (λ i m.
    let s : i < n = omega (arith, m, length-part feed mark n w.inside) in
    ap (λ x. last_segments a d (earlier ++ x)) (take-take (i + 1) n (drop mark feed) (omega (arith, s)))
    ∙ given_nothing a d own z earlier feed mark n i w s)

emits_nothing : (a d own : ℕ) (z : ℤ) (earlier feed : List (List ℕ)) (mark n : ℕ)
    → Waits a d own z earlier feed mark n → emission a d (after earlier feed mark n) ≡ []
emits_nothing a d own z earlier feed mark n w = emission_more a d earlier (part feed mark n)
    ∙ ap₂ ◌++◌ (sends_free a d earlier w.unmarked) (sends_behind a d own z earlier feed mark n w)

logs_behind : (a d own s : ℕ) (z : ℤ) (earlier feed : List (List ℕ)) (mark n : ℕ)
    → Waits a d own z earlier feed mark n → lines_behind a d s earlier (part feed mark n) ≡ []
unfolding lines_behind
logs_behind a d own s z earlier feed mark n w =
    flat_nothing (λ i. line_of (s + length (emission a d (earlier ++ take i (part feed mark n))))
    (length (last_segments a d (earlier ++ take (i + 1) (part feed mark n))))
    (last_answer a d (earlier ++ take (i + 1) (part feed mark n)))) 0 (length (part feed mark n)) (λ i m.
    let h : i < n = omega (arith, m, length-part feed mark n w.inside) in
    ap (line_of (s + length (emission a d (earlier ++ take i (part feed mark n))))
    (length (last_segments a d (earlier ++ take (i + 1) (part feed mark n)))))
    (ap (λ x. last_answer a d (earlier ++ x)) (take-take (i + 1) n (drop mark feed) (omega (arith, h)))
    ∙ told_nothing a d own z earlier feed mark n i w h))

logs_nothing : (a d own s : ℕ) (z : ℤ) (earlier feed : List (List ℕ)) (mark n : ℕ)
    → Waits a d own z earlier feed mark n → life_lines a d s (after earlier feed mark n) ≡ []
logs_nothing a d own s z earlier feed mark n w = lines_more a d s earlier (part feed mark n)
    ∙ ap₂ ◌++◌ (logs_free a d s earlier w.unmarked) (logs_behind a d own s z earlier feed mark n w)

-- ---- the feed of a plan

some_order : (plan : Plan) (stream : List (List ℕ)) (g : ℕ) (ops : Ops) → IsPlan plan → IsStream stream
    → counting_order (readings (feed plan stream)) g ≡ Some ops → has_order (feed plan stream) g ≡ true
some_order plan stream g ops p u h = grind (arith, cases_Bool, none-some, order_none)

none_lists : (plan : Plan) (stream : List (List ℕ)) (t : Transmitter) (who mark end : ℕ) → IsPlan plan
    → IsStream stream → slice_get plan.transmitters who ≡ Some t → HasNoListing t.address (feed plan stream) mark end
    → NoneLists t.address (who / 34) (feed plan stream) mark end
none_lists plan stream t who mark end p u listed none g ops far l h =
    let place = counted_behind (readings (feed plan stream)) g ops h in
    let order = order_says plan stream g ops p u h in
    let unlisted : is_listed (paging_at plan stream (g / 4)) who ≡ false = sym (grind (arith, some_order))
    ∙ sym (listing_is plan stream t who g p u listed place.whole) ∙ none g place.whole far l in
    let other = not_its_page plan.transmitters (filled_groups stream (g / 4)) who
    (slice_get_within plan.transmitters who t listed) unlisted in
    record {
      unlisted = lists_is plan stream t who g ops p listed order ∙ unlisted;
      other = λ e. other.0 (sym (ap (λ (x : Paging). page_of x) order.paging) ∙ e);
      below = subst (λ (x : Paging). who / 34 < pages_of x) (sym order.paging) other.1;
    }

abbrev own_page : {plan : Plan} {stream : List (List ℕ)} {t : Transmitter} {delay : ℕ} {earlier : List (List ℕ)}
    {mark n : ℕ} → IsFedAnew plan stream t delay earlier mark n → ℕ
own_page {plan} {stream} {t} j = (place_of plan t j.listed).0 / 34

waits : (plan : Plan) (stream : List (List ℕ)) (t : Transmitter) (delay : ℕ) (earlier : List (List ℕ))
    (mark n m : ℕ) → (j : IsFedAnew plan stream t delay earlier mark n) → m ≤ n
    → HasNoListing t.address (feed plan stream) mark (mark + m)
    → Waits t.address delay (own_page j) t.offset earlier (feed plan stream) mark m
waits plan stream t delay earlier mark n m j l none = record {
  locks = locks_with plan stream t delay j.is_plan j.is_stream j.listed j.in_time;
  unmarked = j.unmarked;
  at_mark = j.at_mark;
  inside = let i = j.inside in omega (arith, i, l);
  none = none_lists plan stream t (place_of plan t j.listed).0 mark (mark + m) j.is_plan j.is_stream
      (place_of plan t j.listed).1 none;
}

-- the first n packets from a mark on
pub from_mark : (feed : List (List ℕ)) (mark n : ℕ) → slice_range feed mark (mark + n) ≡ take n (drop mark feed)
from_mark feed mark n = let e : mark + n - mark ≡ n = omega arith in ap (λ k. take k (drop mark feed)) e

pub no_segments : (plan : Plan) (stream : List (List ℕ)) (t : Transmitter) (delay : ℕ) (earlier : List (List ℕ))
    (mark n : ℕ) → IsFedAnew plan stream t delay earlier mark n
    → HasNoListing t.address (feed plan stream) mark (mark + n)
    → emission t.address delay (earlier ++ slice_range (feed plan stream) mark (mark + n)) ≡ []
no_segments plan stream t delay earlier mark n j none =
    ap (λ x. emission t.address delay (earlier ++ x)) (from_mark (feed plan stream) mark n)
    ∙ emits_nothing t.address delay (own_page j) t.offset earlier (feed plan stream) mark n
    (waits plan stream t delay earlier mark n n j (omega arith) none)

pub no_lines : (plan : Plan) (stream : List (List ℕ)) (t : Transmitter) (delay : ℕ) (earlier : List (List ℕ))
    (mark n : ℕ) → IsFedAnew plan stream t delay earlier mark n
    → HasNoListing t.address (feed plan stream) mark (mark + n)
    → life_lines t.address delay 0 (earlier ++ slice_range (feed plan stream) mark (mark + n)) ≡ []
no_lines plan stream t delay earlier mark n j none =
    ap (λ x. life_lines t.address delay 0 (earlier ++ x)) (from_mark (feed plan stream) mark n)
    ∙ logs_nothing t.address delay (own_page j) 0 t.offset earlier (feed plan stream) mark n
    (waits plan stream t delay earlier mark n n j (omega arith) none)

-- ---- from the first listing on

-- before the first listing's last packet no group lists it
none_before : (address : ℕ) (feed : List (List ℕ)) (mark n k : ℕ) → IsFirstListing address feed mark (mark + n) k
    → HasNoListing address feed mark (mark + (k + 3 - mark))
none_before address feed mark n k first g whole far l = first.least g whole far (omega (arith, l, far))

waits_before : (plan : Plan) (stream : List (List ℕ)) (t : Transmitter) (delay : ℕ) (earlier : List (List ℕ))
    (mark n k : ℕ) → (j : IsFedAnew plan stream t delay earlier mark n)
    → IsFirstListing t.address (feed plan stream) mark (mark + n) k
    → Waits t.address delay (own_page j) t.offset earlier (feed plan stream) mark (k + 3 - mark)
waits_before plan stream t delay earlier mark n k j first =
    let whole = first.whole in
    waits plan stream t delay earlier mark n (k + 3 - mark) j (omega (arith, whole))
    (none_before t.address (feed plan stream) mark n k first)

nothing_before : (plan : Plan) (stream : List (List ℕ)) (t : Transmitter) (delay : ℕ) (earlier : List (List ℕ))
    (mark n k : ℕ) → IsFedAnew plan stream t delay earlier mark n
    → IsFirstListing t.address (feed plan stream) mark (mark + n) k
    → before_stretch t.address delay earlier (feed plan stream) mark k ≡ []
unfolding before_stretch
nothing_before plan stream t delay earlier mark n k j first =
    let far = first.behind in
    let w = waits_before plan stream t delay earlier mark n k j first in
    ap₂ (λ x y. x ++ sync_behind y k)
    (emits_nothing t.address delay (own_page j) t.offset earlier (feed plan stream) mark (k + 3 - mark) w)
    (ap (λ i. last_segments t.address delay (earlier ++ take i (drop mark (feed plan stream)))) (omega (arith, far))
    ∙ given_nothing t.address delay (own_page j) t.offset earlier (feed plan stream) mark (k + 3 - mark)
    (k - mark - 1) w (omega (arith, far)))

locked_at : (earlier : List (List ℕ)) (mark : ℕ) → HaveNoMark earlier → locked_from earlier mark ≡ mark
unfolding locked_from
locked_at earlier mark h = ap (λ o. locked_by o (length earlier) mark) (none_locked earlier h)

is_stretch : (plan : Plan) (stream : List (List ℕ)) (t : Transmitter) (delay : ℕ) (earlier : List (List ℕ))
    (mark n k : ℕ) → IsFedAnew plan stream t delay earlier mark n
    → IsFirstListing t.address (feed plan stream) mark (mark + n) k
    → IsStretch t.address (feed plan stream) (locked_from earlier mark) mark (mark + n) k
is_stretch plan stream t delay earlier mark n k j first =
    stretch_from plan stream t earlier mark (mark + n) k j.is_plan j.is_stream j.listed j.at_mark j.inside
    (subst (λ (z : ℕ). IsFirstListing t.address (feed plan stream) z (mark + n) k) (grind (arith, locked_at)) first)

pub segments_from : (plan : Plan) (stream : List (List ℕ)) (t : Transmitter) (delay : ℕ) (earlier : List (List ℕ))
    (mark n k : ℕ) → IsFedAnew plan stream t delay earlier mark n
    → IsFirstListing t.address (feed plan stream) mark (mark + n) k
    → emission t.address delay (earlier ++ slice_range (feed plan stream) mark (mark + n))
    ≡ stretch_of (feed plan stream) k (mark + n)
segments_from plan stream t delay earlier mark n k j first =
    lockstep_is t.address delay t.offset (feed plan stream) earlier mark (mark + n) k (grind (arith, locks_with))
    (is_stretch plan stream t delay earlier mark n k j first) ∙ ap (λ x. x ++ stretch (feed plan stream) k (mark + n))
    (nothing_before plan stream t delay earlier mark n k j first)
    ∙ sym (stretch_is (feed plan stream) k (mark + n) first.whole j.inside)

pub lines_from : (plan : Plan) (stream : List (List ℕ)) (t : Transmitter) (delay : ℕ) (earlier : List (List ℕ))
    (mark n k : ℕ) → IsFedAnew plan stream t delay earlier mark n
    → IsFirstListing t.address (feed plan stream) mark (mark + n) k
    → life_lines t.address delay 0 (earlier ++ slice_range (feed plan stream) mark (mark + n))
    ≡ presets plan t.offset 0 (feed plan stream) k (mark + n)
lines_from plan stream t delay earlier mark n k j first =
    let fed : List (List ℕ) = feed plan stream in
    let far = first.behind in
    lines_is t.address delay 0 t.offset fed earlier mark (mark + n) k (grind (arith, locks_with))
    (is_stretch plan stream t delay earlier mark n k j first)
    ∙ ap₂ (λ x y. x ++ stretch_lines t.offset (0 + length y) fed k (mark + n))
    (logs_nothing t.address delay (own_page j) 0 t.offset earlier fed mark (k + 3 - mark)
    (waits_before plan stream t delay earlier mark n k j first))
    (nothing_before plan stream t delay earlier mark n k j first)
    ∙ lines_are plan stream t.offset 0 k (mark + n) j.is_plan j.is_stream (omega (arith, far))
