-- An exciter's packets behind a mark of a feed: the same packets, the same orders, and the feed's own segments.
use Rattle.std.proofs.Common.{◌≡◌, ℕ, ℤ, zero, suc, ◌+◌, ◌-◌, ◌*◌, ◌/◌, ◌%◌, ◌<◌, ◌≤◌, Option, Some, None, true, List}
use Rattle.std.proofs.Common.{[], ◌∷◌, ◌++◌, length, take, drop, get_or, refl, sym, ap, ap₂, ◌∙◌, arith}
use Rattle.std.specs.Prelude.{nat_le, is_ok}
use Rattle.std.specs.List.{cons_option}
use Rattle.std.proofs.lemmas.Bool.{cond-true, cond-false, eq-eqb, ne_eqb, le-leb}
use Rattle.std.proofs.lemmas.List.{get_or-append_right, get_or-drop, get_or-take, get_or-map, length-append}
use Rattle.std.proofs.lemmas.List.{length-drop, length-take-le, take-take}
use Rattle.dtx_coder.specs.Stream.{levels, four_segments, last_before, sync_before, group_segments}
use Rattle.dtx_ops.specs.declared.fields.Ops.{Ops}
use Rattle.dtx_exciter.specs.Order.{Order, either, latest_first, ordered_at, order_at, counting_order, placed, orders}
use Rattle.dtx_exciter.specs.Pages.{lists}
use Rattle.dtx_exciter.specs.Told.{served}
use Rattle.dtx_exciter.specs.Packets.{reads, readings}
use Rattle.dtx_exciter.specs.Emission.{segments_since, sent_by, sent_at, sent_before, behind_field_sync, given_under}
use Rattle.dtx_exciter.specs.Lockstep.{IsFeed}
use Rattle.dtx_exciter.proofs.ForceLemmas.{latest_more, force_next, counted_behind, IsBehind}
use Rattle.dtx_exciter.proofs.GroupSentLemmas.{some_before}
use Rattle.dtx_exciter.proofs.ListedLemmas.{IsListed, listed_here, listed_next, served_by_feed}
use Rattle.dtx_exciter.proofs.SinceMarkLemmas.{AreSame, data_same, take_parts}

-- ---- the packets

-- the packets base under the anchor, and then j packets of the feed from a mark on
abbrev pub life : List (List ℕ) → List (List ℕ) → ℕ → ℕ → List (List ℕ)
life base feed mark j = base ++ take j (drop mark feed)

-- both begin at marks
pub record Marks (address delay : ℕ) (offset : ℤ) (base feed : List (List ℕ)) (mark n : ℕ) : Type 0 where
  pub feed_is : IsFeed address delay offset feed
  pub at_mark : mark % 624 ≡ 0
  pub at_other : length base % 624 ≡ 0
  pub inside : mark + n ≤ length feed

length-part : (feed : List (List ℕ)) (mark j : ℕ) → mark + j ≤ length feed → length (take j (drop mark feed)) ≡ j
length-part feed mark j l = length-take-le j (drop mark feed) (omega (arith, l, length-drop mark feed))

pub length-life : (base feed : List (List ℕ)) (mark j : ℕ) → mark + j ≤ length feed
    → length (life base feed mark j) ≡ length base + j
length-life base feed mark j l = grind (arith, length-append, length-part)

packet_same : (base feed : List (List ℕ)) (mark j i k : ℕ) → i < j → k ≡ length base + i
    → get_or (life base feed mark j) k [] ≡ get_or feed (mark + i) []
packet_same base feed mark j i k l e = grind (arith, get_or-append_right, get_or-take, get_or-drop)

said_same : (base feed : List (List ℕ)) (mark j i k : ℕ) → mark + j ≤ length feed → i < j → k ≡ length base + i
    → get_or (readings (life base feed mark j)) k None ≡ get_or (readings feed) (mark + i) None
unfolding readings
said_same base feed mark j i k h l e = get_or-map reads (life base feed mark j) k [] None (grind (arith, length-life))
    ∙ ap reads (packet_same base feed mark j i k l e) ∙ sym (grind (arith, get_or-map))

-- ---- the orders

order_same : (base feed : List (List ℕ)) (mark j x : ℕ) → mark % 624 ≡ 0 → length base % 624 ≡ 0
    → mark + j ≤ length feed → x + 4 ≤ j → order_at (readings (life base feed mark j)) (length base + x)
    ≡ order_at (readings feed) (mark + x)
unfolding order_at
order_same base feed mark j x m b h l =
    ap₂ either (same 0 (length base + x) (mark + x) (omega arith) (omega arith) (omega (arith, l)))
    (ap₂ either (same 1 (length base + x + 1) (mark + x + 1) (omega arith) (omega arith) (omega (arith, l)))
    (ap₂ either (same 2 (length base + x + 2) (mark + x + 2) (omega arith) (omega arith) (omega (arith, l)))
    (same 3 (length base + x + 3) (mark + x + 3) (omega arith) (omega arith) (omega (arith, l)))))
  where
    same : (i y z : ℕ) → y ≡ length base + (x + i) → z ≡ mark + (x + i) → x + i < j
        → ordered_at (readings (life base feed mark j)) y ≡ ordered_at (readings feed) z
    same i y z p q s = grind (arith, said_same)

pub counted_same : (base feed : List (List ℕ)) (mark j x : ℕ) → mark % 624 ≡ 0 → length base % 624 ≡ 0
    → mark + j ≤ length feed → x + 4 ≤ j → 52 ≤ x
    → counting_order (readings (life base feed mark j)) (length base + x) ≡ counting_order (readings feed) (mark + x)
unfolding counting_order
counted_same base feed mark j x m b h l s = grind (arith, le-leb, order_same)

-- the orders so far: the latest is that of a group of the feed, and lists the transmitter or leaves it listed
pub record InStep (a : ℕ) (base feed : List (List ℕ)) (mark j first x : ℕ) : Type 0 where
  pub group : ℕ
  pub ops : Ops
  pub older : List Order
  pub behind : first ≤ group
  pub until : group ≤ x
  pub in_life : orders (readings (life base feed mark j)) (length base + x)
      ≡ record { place = length base + group; ops = ops } ∷ older
  pub its_own : counting_order (readings feed) (mark + group) ≡ Some ops
  pub listed : IsListed a feed (record { place = length base + group; ops = ops } ∷ older)
  -- the group at x has an order where it is that one
  pub own : (other : Ops) → counting_order (readings feed) (mark + x) ≡ Some other → group ≡ x

-- the orders so far, with an order at i
force_here : (readings : List (Option Ops)) (i : ℕ) (ops : Ops) → counting_order readings i ≡ Some ops
    → orders readings i ≡ record { place = i; ops = ops } ∷ latest_first (λ g. placed g (counting_order readings g)) i
unfolding orders
force_here readings i ops h = grind (arith, latest_more)

pub in_step : (a d : ℕ) (z : ℤ) (base feed : List (List ℕ)) (mark n j first s x : ℕ) (ops : Ops)
    → Marks a d z base feed mark n → j ≤ n → 52 ≤ first → x ≡ first + s → x + 4 ≤ j
    → counting_order (readings feed) (mark + first) ≡ Some ops → lists a ops ≡ true → InStep a base feed mark j first x
in_step a d z base feed mark n j first zero x ops m l f e k h listed =
    let inside : mark + j ≤ length feed = let i = m.inside in omega (arith, i, l) in
    let p : mark + first ≡ mark + x = omega (arith, e) in
    let own : counting_order (readings feed) (mark + x) ≡ Some ops = ap (counting_order (readings feed)) (sym p) ∙ h in
    let older : List Order = latest_first (λ g. placed g (counting_order (readings (life base feed mark j)) g))
    (length base + x) in
    record {
      group = x;
      ops = ops;
      older = older;
      behind = omega (arith, e);
      until = omega arith;
      in_life = force_here (readings (life base feed mark j)) (length base + x) ops
          (counted_same base feed mark j x m.at_mark m.at_other inside k (omega (arith, e, f)) ∙ own);
      its_own = own;
      listed = listed_here a feed (mark + x) (record { place = length base + x; ops = ops }) older own listed;
      own = λ other c. refl;
    }
in_step a d z base feed mark n j first (suc s) x ops m l f e k h listed =
    by_order (counting_order (readings feed) (mark + x)) refl
    (in_step a d z base feed mark n j first s (first + s) ops m l f refl (omega (arith, e, k)) h listed)
  where
    inside : mark + j ≤ length feed
    inside = let i = m.inside in omega (arith, i, l)

    agrees : counting_order (readings (life base feed mark j)) (length base + x)
        ≡ counting_order (readings feed) (mark + x)
    agrees = counted_same base feed mark j x m.at_mark m.at_other inside k (omega (arith, e, f))

    next : length base + x ≡ length base + (first + s) + 1
    next = omega (arith, e)

    none_some : (y : Ops) → ◌≡◌ {A = Option Ops} None (Some y) → ⊥
    none_some y q = cc

    by_order : (o : Option Ops) → counting_order (readings feed) (mark + x) ≡ o
        → InStep a base feed mark j first (first + s) → InStep a base feed mark j first x
    by_order (Some y) g w =
        let latest : Order = record { place = length base + w.group; ops = w.ops } in
        record {
          group = x;
          ops = y;
          older = latest ∷ w.older;
          behind = omega (arith, e);
          until = omega arith;
          in_life = force_next (readings (life base feed mark j)) (length base + (first + s)) (length base + x) next
              ∙ ap₂ (λ o r. cons_option (placed (length base + x) o) r) (agrees ∙ g) w.in_life;
          its_own = g;
          listed = listed_next a d z feed (mark + x) (mark + w.group)
              (record { place = length base + x; ops = y }) latest w.older m.feed_is g w.its_own w.listed;
          own = λ other c. refl;
        }
    by_order None g w = record {
      group = w.group;
      ops = w.ops;
      older = w.older;
      behind = w.behind;
      until = let u = w.until in omega (arith, u, e);
      in_life = force_next (readings (life base feed mark j)) (length base + (first + s)) (length base + x) next
          ∙ ap₂ (λ o r. cons_option (placed (length base + x) o) r) (agrees ∙ g) w.in_life;
      its_own = w.its_own;
      listed = w.listed;
      own = λ other c. absurd (none_some other (sym g ∙ c));
    }

-- ---- the segments

-- a place of a group under an order
pub record IsPlace (a : ℕ) (feed : List (List ℕ)) (mark n j first x : ℕ) : Type 0 where
  pub order : (ops : Ops) × (counting_order (readings feed) (mark + first) ≡ Some ops) × (lists a ops ≡ true)
  pub flushed : 52 ≤ first
  pub later : first ≤ x
  pub group : x % 4 ≡ 0
  pub within : x + 4 ≤ j
  pub whole : j % 4 ≡ 0
  pub few : j ≤ n

-- the feed up to packet mark + j
abbrev pub upto : List (List ℕ) → ℕ → ℕ → List (List ℕ)
upto feed mark j = take (mark + j) feed

pub sent_same : (a d : ℕ) (z : ℤ) (base feed : List (List ℕ)) (mark n j first x : ℕ) → Marks a d z base feed mark n
    → IsPlace a feed mark n j first x
    → sent_at a d (life base feed mark j) (length base + x) ≡ four_segments (levels (upto feed mark j)) (mark + x)
unfolding sent_at segments_since
sent_same a d z base feed mark n j first x m p =
    by_step (in_step a d z base feed mark n j first (x - first) x p.order.0 m p.few p.flushed (let l = p.later in
    omega (arith, l)) p.within p.order.1 p.order.2)
  where
    by_step : InStep a base feed mark j first x → sent_by a d (life base feed mark j) (length base + x)
        (orders (readings (life base feed mark j)) (length base + x))
        ≡ four_segments (levels (upto feed mark j)) (mark + x)
    by_step w =
        let inside : mark + j ≤ length feed = let i = m.inside in let l = p.few in omega (arith, i, l) in
        let own : IsBehind (mark + w.group) = counted_behind (readings feed) (mark + w.group) w.ops w.its_own in
        let long : length (take mark feed) ≡ mark = length-take-le mark feed (omega (arith, inside)) in
        let part : length (take j (drop mark feed)) ≡ j = length-part feed mark j inside in
        let m1 = m.at_mark in let p1 = p.flushed in let p2 = p.within in let p3 = p.whole in let w1 = w.behind in
        let w2 = w.until in let o1 = own.whole in
        let same : AreSame base (take mark feed) (take j (drop mark feed)) x w.group = grind arith in
        let parts : take mark feed ++ take j (drop mark feed) ≡ upto feed mark j = sym (take_parts mark j feed) in
        let front : take (length (take mark feed) + w.group) (take mark feed ++ take j (drop mark feed))
        ≡ take (mark + w.group) feed = ap₂ take (ap (λ (k : ℕ). k + w.group) long) parts
        ∙ take-take (mark + w.group) (mark + j) feed (omega (arith, w2, p2)) in
        ap (sent_by a d (life base feed mark j) (length base + x)) w.in_life
        ∙ cond-true (is_ok (served a d (record { place = length base + w.group; ops = w.ops } ∷ w.older))) _ _
        (served_by_feed a d z feed (mark + w.group) (record { place = length base + w.group; ops = w.ops }) w.older
        m.feed_is w.its_own w.listed).ok ∙ grind (arith, data_same)

-- what the group's last packet gives
pub given_last : (a d : ℕ) (base feed : List (List ℕ)) (mark x : ℕ) → mark + (x + 4) ≤ length feed → x % 4 ≡ 0
    → length base % 624 ≡ 0 → given_under a d (Some (life base feed mark (x + 4)))
    ≡ behind_field_sync (length base + x) (sent_before a d (life base feed mark (x + 4)) (length base + x))
    (sent_at a d (life base feed mark (x + 4)) (length base + x))
given_last a d base feed mark x l y b = grind (arith, length-life, cond-true, eq-eqb)

pub record IsGroup (a : ℕ) (feed : List (List ℕ)) (mark n first x : ℕ) : Type 0 where
  pub order : (ops : Ops) × (counting_order (readings feed) (mark + first) ≡ Some ops) × (lists a ops ≡ true)
  pub flushed : 52 ≤ first
  pub whole : first % 4 ≡ 0
  pub later : first ≤ x
  pub group : x % 4 ≡ 0
  pub within : x + 4 ≤ n

pub place_of : (a : ℕ) (feed : List (List ℕ)) (mark n first x y : ℕ) → IsGroup a feed mark n first x → first ≤ y
    → y % 4 ≡ 0 → y ≤ x → IsPlace a feed mark n (x + 4) first y
place_of a feed mark n first x y g l w h = grind arith

pub given_next : (a d : ℕ) (z : ℤ) (base feed : List (List ℕ)) (mark n first x : ℕ) → Marks a d z base feed mark n
    → IsGroup a feed mark n first x → first + 4 ≤ x
    → given_under a d (Some (life base feed mark (x + 4))) ≡ group_segments (upto feed mark (x + 4)) ((mark + x) / 4)
unfolding group_segments sync_before last_before
given_next a d z base feed mark n first x m g l =
    let inside : mark + (x + 4) ≤ length feed = let i = m.inside in let w = g.within in omega (arith, i, w) in
    let m1 = m.at_mark in let m2 = m.at_other in let g1 = g.group in let g2 = g.flushed in let g3 = g.whole in
    let v : mark + x ≡ 4 * ((mark + x) / 4) = omega (arith, m1, g1) in
    let u : mark + (x - 4) ≡ 4 * ((mark + x) / 4) - 4 = omega (arith, m1, g1, l) in
    let k : length base + x - 4 ≡ length base + (x - 4) = omega (arith, l) in
    let here : sent_at a d (life base feed mark (x + 4)) (length base + x)
    ≡ four_segments (levels (upto feed mark (x + 4))) (4 * ((mark + x) / 4)) =
    sent_same a d z base feed mark n (x + 4) first x m
    (place_of a feed mark n first x x g g.later g.group (omega arith))
    ∙ ap (four_segments (levels (upto feed mark (x + 4)))) v in
    given_last a d base feed mark x inside g.group m.at_other ∙ ap₂ (behind_field_sync (length base + x))
    (cond-true (nat_le 4 (length base + x)) _ _ (le-leb 4 (length base + x) (omega (arith, l)))
    ∙ ap (sent_at a d (life base feed mark (x + 4))) k ∙ sent_same a d z base feed mark n (x + 4) first (x - 4) m
    (place_of a feed mark n first x (x - 4) g (omega (arith, l)) (omega (arith, g1)) (omega arith))
    ∙ ap (four_segments (levels (upto feed mark (x + 4)))) u) here ∙ (grind (arith, some_before, cond-false, ne_eqb))
