-- What the walk over the array `event` leaves: events of transmitters of the plan, their numbers in their ranges.
use Rattle.std.proofs.Common.{◌≡◌, ℕ, ◌-◌, ◌≤◌, ◌<◌, List, [], ◌∷◌, length, map, refl, subst, sym, arith, All, true}
use Rattle.std.specs.Prelude.{codes, nat_le, Ok}
use Rattle.std.specs.List.{list_all}
use Rattle.std.proofs.lemmas.Bool.{and_parts, eqb-true, leb-true}
use Rattle.std.proofs.lemmas.List.{length-map}
use Rattle.std.proofs.lemmas.List.Elements.{All-nil, All-cons, All-push}
use Rattle.toml.specs.Data.{Data, Items, Members, get_member}
use Rattle.dtx_plan.specs.declared.key.PlanKey.{PlanKey}
use Rattle.dtx_plan.specs.declared.key.PlanKey.TheVariants as key
use Rattle.dtx_plan.specs.declared.rule.PlanRule.TheVariants.{Stranger}
use Rattle.dtx_plan.specs.declared.transmitter.Transmitter.{Transmitter}
use Rattle.dtx_plan.specs.declared.event.Event.{Event}
use Rattle.dtx_plan.specs.declared.event.Event.TheVariants as event
use Rattle.dtx_plan.specs.declared.event.EventKind.{EventKind}
use Rattle.dtx_plan.specs.declared.event.EventKind.TheVariants.{Send, Foreign, Flip, Lie, Restart}
use Rattle.dtx_plan.specs.Rows.{table, whole, text, entries}
use Rattle.dtx_plan.specs.TransmitterTable.{has_address}
use Rattle.dtx_plan.specs.EventTable.{kind, known_keys, no_stranger, send, foreign, flip, lie, is_state, states_of}
use Rattle.dtx_plan.specs.EventTable.{states, event_of, event_at, event_after}
use Rattle.dtx_plan.specs.Sound.{IsPart, IsInRange, IsEvent, to_of}
use Rattle.dtx_plan.proofs.WalksLemmas.{bind_ok, test_ok, ok_same, whole_range, entries_keep}

-- ---- one event

record IsOf (to : ℕ) (e : Event) : Type 0 where
  told : to_of e ≡ to
  in_range : IsInRange e

part_is : (from count : ℕ) → from ≤ 623999999 → 1 ≤ count → count ≤ 624000000 - from → IsPart from count
part_is from count last some most = record { some = some; most = omega arith }

send_is : (to : ℕ) (entry : Members) (item : ℕ) (e : Event) → send to entry item ≡ Ok e → IsOf to e
unfolding send
send_is to entry item e is =
    let from = bind_ok (whole (get_member (codes "from") entry) key.From item 0 623999999) _ e is in
    let count = bind_ok (whole (get_member (codes "count") entry) key.Count item 1 (624000000 - from.0)) _ e from.2 in
    let f = whole_range (get_member (codes "from") entry) key.From item 0 623999999 from.0 from.1 in
    let n = whole_range (get_member (codes "count") entry) key.Count item 1 (624000000 - from.0) count.0 count.1 in
    subst (IsOf to) {x = event.Send to from.0 count.0} (ok_same (event.Send to from.0 count.0) e count.2)
    (record { told = refl; in_range = part_is from.0 count.0 f.1 n.0 n.1 })

foreign_is : (to : ℕ) (entry : Members) (item : ℕ) (e : Event) → foreign to entry item ≡ Ok e → IsOf to e
unfolding foreign
foreign_is to entry item e is =
    let seed = bind_ok (whole (get_member (codes "seed") entry) key.Seed item 0 9223372036854775807) _ e is in
    let from = bind_ok (whole (get_member (codes "from") entry) key.From item 0 623999999) _ e seed.2 in
    let count = bind_ok (whole (get_member (codes "count") entry) key.Count item 1 (624000000 - from.0)) _ e from.2 in
    let s = whole_range (get_member (codes "seed") entry) key.Seed item 0 9223372036854775807 seed.0 seed.1 in
    let f = whole_range (get_member (codes "from") entry) key.From item 0 623999999 from.0 from.1 in
    let n = whole_range (get_member (codes "count") entry) key.Count item 1 (624000000 - from.0) count.0 count.1 in
    let read = event.Foreign to seed.0 from.0 count.0 in
    subst (IsOf to) {x = read} (ok_same read e count.2) (record { told = refl; in_range = (grind (arith, part_is)) })

flip_is : (to : ℕ) (entry : Members) (item : ℕ) (e : Event) → flip to entry item ≡ Ok e → IsOf to e
unfolding flip
flip_is to entry item e is =
    let from = bind_ok (whole (get_member (codes "from") entry) key.From item 0 623999999) _ e is in
    let at = bind_ok (whole (get_member (codes "at") entry) key.At item 0 187) _ e from.2 in
    let with = bind_ok (whole (get_member (codes "with") entry) key.With item 1 255) _ e at.2 in
    let f = whole_range (get_member (codes "from") entry) key.From item 0 623999999 from.0 from.1 in
    let a = whole_range (get_member (codes "at") entry) key.At item 0 187 at.0 at.1 in
    let w = whole_range (get_member (codes "with") entry) key.With item 1 255 with.0 with.1 in
    let read = event.Flip to from.0 at.0 with.0 in
    subst (IsOf to) {x = read} (ok_same read e with.2) (record { told = refl; in_range = (grind arith) })

-- the states that digits spell are below 8
states_small : (digits : List ℕ) → list_all is_state digits ≡ true
    → All (λ state. state < 8) (map (λ digit. digit - 48) digits)
states_small [] e = All-nil (λ state. state < 8)
states_small (digit ∷ digits) e =
    let both = and_parts (is_state digit) (list_all is_state digits) e in
    let most = leb-true digit 55 (and_parts (nat_le 48 digit) (nat_le digit 55) both.0).1 in
    All-cons (λ state. state < 8) (digit - 48) (map (λ digit. digit - 48) digits) (omega (arith, most))
    (states_small digits both.1)

record AreStates (told : List ℕ) : Type 0 where
  count : length told ≡ 12
  each : All (λ state. state < 8) told

states_of_are : (digits : List ℕ) (item : ℕ) (told : List ℕ) → states_of digits item ≡ Ok told → AreStates told
states_of_are digits item told e = grind (arith, test_ok, and_parts, length-map, eqb-true, states_small)

lie_is : (to : ℕ) (entry : Members) (item : ℕ) (e : Event) → lie to entry item ≡ Ok e → IsOf to e
unfolding lie
lie_is to entry item e is =
    let from = bind_ok (whole (get_member (codes "from") entry) key.From item 0 623999999) _ e is in
    let told = bind_ok (states entry item) _ e from.2 in
    let digits = bind_ok (text (get_member (codes "states") entry) key.States item) (λ digits. states_of digits item)
    told.0 told.1 in
    let f = whole_range (get_member (codes "from") entry) key.From item 0 623999999 from.0 from.1 in
    let s = states_of_are digits.0 item told.0 digits.2 in
    let read = event.Lie to from.0 told.0 in
    subst (IsOf to) {x = read} (ok_same read e told.2) (grind arith)

of_kind_is : (does : EventKind) (to : ℕ) (entry : Members) (item : ℕ) (e : Event) → event_of does to entry item ≡ Ok e
    → IsOf to e
unfolding event_of
of_kind_is Send to entry item e is = send_is to entry item e is
of_kind_is Foreign to entry item e is = foreign_is to entry item e is
of_kind_is Flip to entry item e is = flip_is to entry item e is
of_kind_is Lie to entry item e is = lie_is to entry item e is
of_kind_is Restart to entry item e is = grind (arith, ok_same)

pub listed_is : (address : ℕ) (ts : List Transmitter) (k : PlanKey) (item : ℕ) (u : Unit {0})
    → no_stranger address ts k item ≡ Ok u → has_address address ts ≡ true
listed_is address ts k item u e = (test_ok (has_address address ts) tt u k item Stranger e).0

event_is : (ts : List Transmitter) (item : ℕ) (d : Data) (e : Event) → event_at ts item d ≡ Ok e → IsEvent ts e
unfolding event_at
event_is ts item d e is =
    let entry = bind_ok (table d key.Event item) _ e is in
    let does = bind_ok (kind entry.0 item) _ e entry.2 in
    let keys = bind_ok (known_keys does.0 entry.0 item) _ e does.2 in
    let to = bind_ok (whole (get_member (codes "to") entry.0) key.To item 0 65535) _ e keys.2 in
    let known = bind_ok (no_stranger to.0 ts key.To item) _ e to.2 in
    let of = of_kind_is does.0 to.0 entry.0 item e known.2 in
    record {
      listed = subst (λ a. has_address a ts ≡ true) (sym of.told) (listed_is to.0 ts key.To item known.0 known.1);
      in_range = of.in_range;
    }

-- ---- all events

pub events_are : (ts : List Transmitter) (items : Items) (es : List Event) → entries (event_after ts) [] items ≡ Ok es
    → All (IsEvent ts) es
events_are ts items es is = entries_keep (All (IsEvent ts)) (event_after ts)
    (λ done d e kept read. All-push (IsEvent ts) done e kept (event_is ts (length done) d e read)) items [] es is
    (All-nil (IsEvent ts))
