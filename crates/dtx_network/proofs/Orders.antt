-- What a feed orders, group by group.
use Rattle.std.proofs.Common.{◌≡◌, ◌≢◌, inl, inr, ℕ, zero, suc, ◌+◌, ◌%◌, ◌<◌, ◌≤◌, ◌==◌, ◌&&◌, ◌||◌, Bool, true, false}
use Rattle.std.proofs.Common.{cond, Option, Some, None, option_map, List, [], ◌∷◌, length, take, get_or, refl, sym, ap}
use Rattle.std.proofs.Common.{ap₂, subst, ◌∙◌, arith, nat_le, is_some, Ok, eqb-true, eq-eqb, ne_eqb, le-leb}
use Rattle.std.specs.List.{range_with_len, list_any, find}
use Rattle.std.proofs.lemmas.Bool.{cases_lt, cases_Bool, cond-true, cond-false, eqb-false, and_parts, and_from}
use Rattle.std.proofs.lemmas.List.{get_or_past}
use Rattle.std.proofs.lemmas.List.Elements.{All-weaker}
use Rattle.std.proofs.Math.ListN.{get_or-map}
use Rattle.dtx_lists.proofs.RangeSearch.{find-range_gives}
use Rattle.dtx_packets.specs.Packets.{pid_of}
use Rattle.dtx_ops.specs.declared.fields.Ops.{Ops}
use Rattle.dtx_ops.specs.Reading.{reading}
use Rattle.dtx_ops.proofs.ReadingsLemmas.{read_as}
use Rattle.dtx_ops.proofs.RefusingLemmas.{reading_other}
use Rattle.dtx_plan.specs.declared.plan.Plan.{Plan}
use Rattle.dtx_adapter.specs.Feed.{ops_at, feed}
use Rattle.dtx_adapter.proofs.FeedsLemmas.{length-feed}
use Rattle.dtx_adapter.proofs.ReadingsLemmas.{placeholder_reads, others_stay, said_states}
use Rattle.dtx_exciter.specs.Order.{ordered, ordered_at, order_at, counting_order}
use Rattle.dtx_exciter.specs.Packets.{read_fields, reads, readings}
use Rattle.dtx_network.specs.Plans.{IsPlan, IsStream}
use Rattle.dtx_network.specs.Orders.{is_operations, has_order, first_operations, order_of, IsOrder}

-- ---- what a packet reads as

pub reads_other : (p : List ℕ) → pid_of p ≢ 0x1FFA → reads p ≡ None
unfolding reads
reads_other p h = ap read_fields (reading_other p h)

pub reads_as : (p : List ℕ) (ops : Ops) → reading p ≡ Ok ops → reads p ≡ Some ops
unfolding reads
reads_as p ops h = ap read_fields h

pub no_pid : pid_of [] ≢ 0x1FFA
no_pid = λ e. omega (arith, e)

said_at : (ps : List (List ℕ)) (k : ℕ) → get_or (readings ps) k None ≡ reads (get_or ps k [])
unfolding readings
said_at ps k = rw (← reads_other [] no_pid, get_or-map reads ps k [])

-- ---- operations packets of a feed

-- there is none behind a list's last packet
within : (ps : List (List ℕ)) (k : ℕ) → pid_of (get_or ps k []) ≡ 0x1FFA → k < length ps
within ps k e = grind (arith, cases_lt, no_pid, get_or_past)

pub other_stays : (plan : Plan) (stream : List (List ℕ)) (k : ℕ) → pid_of (get_or stream k []) ≢ 0x1FFA
    → pid_of (get_or (feed plan stream) k []) ≢ 0x1FFA
other_stays plan stream k other = grind (arith, cases_lt, others_stay, no_pid, get_or_past, length-feed)

-- each of them reads as what is said at its place
pub operations_read : (plan : Plan) (stream : List (List ℕ)) (k : ℕ) → IsPlan plan → IsStream stream
    → pid_of (get_or stream k []) ≡ 0x1FFA
    → reading (get_or (feed plan stream) k []) ≡ Ok (ops_at plan stream (take k (feed plan stream)) k)
operations_read plan stream k p s e = grind (arith, placeholder_reads, All-weaker, within)

-- they stand where the stream's placeholders stand
pub same_operations : (plan : Plan) (stream : List (List ℕ)) (k : ℕ) → IsPlan plan → IsStream stream
    → is_operations (feed plan stream) k ≡ is_operations stream k
unfolding is_operations
same_operations plan stream k p s = elim (cases_Bool (pid_of (get_or stream k []) == 0x1FFA)) [
  | inl t ↦ eq-eqb (pid_of (get_or (feed plan stream) k [])) 0x1FFA
      (read_as (get_or (feed plan stream) k []) (ops_at plan stream (take k (feed plan stream)) k)
      (operations_read plan stream k p s (eqb-true (pid_of (get_or stream k [])) 0x1FFA t))).pid ∙ sym t
  | inr f ↦ ne_eqb (pid_of (get_or (feed plan stream) k [])) 0x1FFA (grind (arith, other_stays, eqb-false)) ∙ sym f
]

any_same : (p q : ℕ → Bool) (a n : ℕ) → ((k : ℕ) → p k ≡ q k)
    → list_any p (range_with_len a n) ≡ list_any q (range_with_len a n)
any_same p q a zero h = refl
any_same p q a (suc n) h = ap₂ ◌||◌ (h a) (any_same p q (a + 1) n h)

pub same_orders : (plan : Plan) (stream : List (List ℕ)) (g : ℕ) → IsPlan plan → IsStream stream
    → has_order (feed plan stream) g ≡ has_order stream g
unfolding has_order
same_orders plan stream g p s = grind (arith, any_same, same_operations)

-- ---- what a group orders

ordered_is : (plan : Plan) (stream : List (List ℕ)) (k : ℕ) → IsPlan plan → IsStream stream
    → ordered_at (readings (feed plan stream)) k ≡ cond (is_operations stream k)
    (Some (ops_at plan stream (take k (feed plan stream)) k)) None
unfolding is_operations ops_at
ordered_is plan stream k p s = elim (cases_Bool (is_operations stream k)) [
  | inl t ↦ ap (ordered (k % 624)) (said_at (feed plan stream) k ∙ reads_as (get_or (feed plan stream) k []) ops
      (operations_read plan stream k p s (eqb-true (pid_of (get_or stream k [])) 0x1FFA t)))
      ∙ cond-true (ops.index == k % 624) (Some ops) None (eq-eqb ops.index (k % 624) (refl))
      ∙ sym (cond-true (is_operations stream k) (Some ops) None t)
  | inr f ↦ grind (arith, said_at, reads_other, other_stays, eqb-false, cond-false, ops)
]
  where
    ops : Ops
    ops = ops_at plan stream (take k (feed plan stream)) k

pub order_is : (plan : Plan) (stream : List (List ℕ)) (g : ℕ) → IsPlan plan → IsStream stream
    → counting_order (readings (feed plan stream)) g ≡ order_of plan stream g
unfolding counting_order order_of order_at first_operations
order_is plan stream g p s = grind (arith, ordered_is)

-- ---- what its fields are

cond_some : {A : Type 0} (b : Bool) (o : Option A) (x : A) → cond b o None ≡ Some x → (b ≡ true) × (o ≡ Some x)
cond_some true o x e = (refl, e)
cond_some false o x e = cc

map_some : {A : Type 0} (o : Option ℕ) (f : ℕ → A) (x : A) → option_map f o ≡ Some x
    → (j : ℕ) × (o ≡ Some j) × (f j ≡ x)
map_some None f x e = cc
map_some (Some j) f x e = (j, refl, cc)

fields_at : (plan : Plan) (stream : List (List ℕ)) (g j : ℕ) → g % 4 ≡ 0 → g ≤ j → j < g + 4
    → IsOrder plan stream g (ops_at plan stream (take j (feed plan stream)) j)
unfolding ops_at
fields_at plan stream g j w l m = grind (arith, said_states)

pub order_says : (plan : Plan) (stream : List (List ℕ)) (g : ℕ) (ops : Ops) → IsPlan plan → IsStream stream
    → counting_order (readings (feed plan stream)) g ≡ Some ops → IsOrder plan stream g ops
unfolding order_of first_operations
order_says plan stream g ops p s h =
    let counts = cond_some (nat_le 52 g && (g % 4 == 0))
    (option_map (λ k. ops_at plan stream (take k (feed plan stream)) k) (first_operations stream g)) ops
    (sym (order_is plan stream g p s) ∙ h) in
    let place = and_parts (nat_le 52 g) (g % 4 == 0) counts.0 in
    let found = map_some (first_operations stream g) (λ k. ops_at plan stream (take k (feed plan stream)) k) ops
    counts.1 in
    subst (IsOrder plan stream g) found.2 (fields_at plan stream g found.0
    (eqb-true (g % 4) 0 place.1) (find-range_gives (is_operations stream) g 4 found.0 found.1).least
    (find-range_gives (is_operations stream) g 4 found.0 found.1).within)

-- ---- which groups order something

found_by : (b : Bool) (x : ℕ) (any : Bool) (o : Option ℕ) → any ≡ is_some o → (b || any) ≡ is_some (cond b (Some x) o)
found_by true x any o e = refl
found_by false x any o e = e

any_found : (p : ℕ → Bool) (xs : List ℕ) → list_any p xs ≡ is_some (find p xs)
any_found p [] = refl
any_found p (x ∷ xs) = found_by (p x) x (list_any p xs) (find p xs) (any_found p xs)

some_of : (o : Option ℕ) → is_some o ≡ true → (j : ℕ) × (o ≡ Some j)
some_of None e = cc
some_of (Some j) e = (j, refl)

pub order_some : (plan : Plan) (stream : List (List ℕ)) (g : ℕ) → IsPlan plan → IsStream stream → 52 ≤ g → g % 4 ≡ 0
    → has_order (feed plan stream) g ≡ true → (ops : Ops) × (counting_order (readings (feed plan stream)) g ≡ Some ops)
unfolding order_of first_operations has_order
order_some plan stream g p s far whole h =
    let found = some_of (find (is_operations stream) (range_with_len g 4)) (grind (arith, any_found, same_orders)) in (
      ops_at plan stream (take found.0 (feed plan stream)) found.0,
      order_is plan stream g p s ∙ cond-true (nat_le 52 g && (g % 4 == 0))
          (option_map (λ k. ops_at plan stream (take k (feed plan stream)) k)
          (find (is_operations stream) (range_with_len g 4))) None (grind (arith, and_from, le-leb, eq-eqb))
          ∙ ap (option_map (λ k. ops_at plan stream (take k (feed plan stream)) k)) found.1,
    )

pub order_none : (plan : Plan) (stream : List (List ℕ)) (g : ℕ) → IsPlan plan → IsStream stream
    → has_order (feed plan stream) g ≡ false → counting_order (readings (feed plan stream)) g ≡ None
unfolding order_of first_operations has_order
order_none plan stream g p s h = grind (arith, order_is, any_found, same_orders)
