-- What the walk over a plan leaves: the numbers of each row in their range, and addresses that differ.
use Rattle.std.proofs.Common.{◌≡◌, ℕ, ℤ, pos, negsuc, ◌+◌, ◌≤◌, nat_eq, Bool, true, false, cond, Option, Some, None}
use Rattle.std.proofs.Common.{Result, Ok, Err, All, List, [], ◌∷◌, ◌++◌, length, refl, ap, subst, arith}
use Rattle.std.specs.Prelude.{codes, int_le, FitsSigned, ◌≤ℤ◌}
use Rattle.std.specs.Int.{w16}
use Rattle.std.specs.List.{IsDistinct}
use Rattle.std.proofs.lemmas.Bool.{and_parts, leb-true}
use Rattle.std.proofs.lemmas.Int.{ints}
use Rattle.std.proofs.lemmas.List.{length-append}
use Rattle.std.proofs.lemmas.List.Elements.{All-nil, All-push}
use Rattle.toml.specs.Data.{Data, Items, no_items, item as item_of, Members, get_member}
use Rattle.dtx_plan.specs.declared.key.PlanKey.{PlanKey}
use Rattle.dtx_plan.specs.declared.key.PlanKey.TheVariants as key
use Rattle.dtx_plan.specs.declared.rule.PlanRule.{PlanRule}
use Rattle.dtx_plan.specs.declared.refusal.PlanNo.{PlanNo}
use Rattle.dtx_plan.specs.declared.transmitter.Transmitter.{Transmitter}
use Rattle.dtx_plan.specs.declared.plan.NetPlan.{NetPlan}
use Rattle.dtx_plan.specs.declared.plan.Plan.{Plan}
use Rattle.dtx_plan.specs.Rows.{◌>>=◌, refused, whole_of, whole_value, whole, whole_or, signed_of, signed_value, signed}
use Rattle.dtx_plan.specs.Rows.{table, known, count_of, array, array_or_none, entries}
use Rattle.dtx_plan.specs.TransmitterTable.{addresses_of, has_address, once, transmitter}
use Rattle.dtx_plan.specs.NetTable.{net}
use Rattle.dtx_plan.specs.Plan.{plan, root_of, plan_of}
use Rattle.dtx_plan.specs.Sound.{IsTransmitter, IsSound}
use Rattle.dtx_plan.proofs.AddressesLemmas.{distinct_none, distinct_more}

-- ---- steps of the walk

-- a walk that gives something has given something at its first step
pub bind_ok : {A B : Type 0} (r : Result A PlanNo) (f : A → Result B PlanNo) (y : B) → (r >>= f) ≡ Ok y
    → (x : A) × (r ≡ Ok x) × (f x ≡ Ok y)
bind_ok (Ok x) f y e = (x, refl, e)
bind_ok (Err refusal) f y e = cc

-- equal answers give equal values
pub ok_same : {A : Type 0} (x y : A) → ◌≡◌ {A = Result A PlanNo} (Ok x) (Ok y) → x ≡ y
ok_same x y e = cc

-- a test that leaves a value
pub test_ok : {A : Type 0} (b : Bool) (x y : A) (k : PlanKey) (item : ℕ) (rule : PlanRule)
    → cond b (Ok x) (refused k item rule) ≡ Ok y → (b ≡ true) × (x ≡ y)
test_ok true x y k item rule e = (refl, cc)
test_ok false x y k item rule e = cc

-- what each entry keeps holds of all of them
pub entries_keep : {A : Type 0} (Kept : List A → Type 0) (entry : List A → Data → Result A PlanNo)
    → ((done : List A) (d : Data) (x : A) → Kept done → entry done d ≡ Ok x → Kept (done ++ x ∷ []))
    → (items : Items) (done xs : List A) → entries entry done items ≡ Ok xs → Kept done → Kept xs
entries_keep Kept entry step no_items done xs e kept = subst Kept (ok_same done xs e) kept
entries_keep Kept entry step (item_of d ds) done xs e kept =
    let next = bind_ok (entry done d) (λ x. entries entry (done ++ x ∷ []) ds) xs e in
    entries_keep Kept entry step ds (done ++ next.0 ∷ []) xs next.2 (step done d next.0 kept next.1)

-- there are as many entries as items
pub entries_count : {A : Type 0} (entry : List A → Data → Result A PlanNo) (items : Items) (done xs : List A)
    → entries entry done items ≡ Ok xs → length xs ≡ length done + count_of items
entries_count {A} entry no_items done xs e = omega (arith, ap (λ (x : List A). length x) (ok_same done xs e))
entries_count entry (item_of d ds) done xs e =
    let next = bind_ok (entry done d) (λ x. entries entry (done ++ x ∷ []) ds) xs e in
    omega (arith, entries_count entry ds (done ++ next.0 ∷ []) xs next.2, length-append done (next.0 ∷ []))

-- ---- numbers

whole_in : (z : ℤ) (k : PlanKey) (item least most n : ℕ) → whole_of z k item least most ≡ Ok n
    → (least ≤ n) × (n ≤ most)
whole_in (pos m) k item least most n e = grind (arith, test_ok, and_parts, leb-true)
whole_in (negsuc m) k item least most n e = cc

whole_value_in : (d : Data) (k : PlanKey) (item least most n : ℕ) → whole_value d k item least most ≡ Ok n
    → (least ≤ n) × (n ≤ most)
whole_value_in d k item least most n e = grind (arith, bind_ok, whole_in)

pub whole_range : (found : Option Data) (k : PlanKey) (item least most n : ℕ) → whole found k item least most ≡ Ok n
    → (least ≤ n) × (n ≤ most)
whole_range None k item least most n e = cc
whole_range (Some d) k item least most n e = whole_value_in d k item least most n e

pub whole_or_range : (absent : ℕ) (found : Option Data) (k : PlanKey) (item least most n : ℕ) → least ≤ absent
    → absent ≤ most → whole_or absent found k item least most ≡ Ok n → (least ≤ n) × (n ≤ most)
whole_or_range absent None k item least most n l m e = let same : absent ≡ n = cc in (omega arith, omega arith)
whole_or_range absent (Some d) k item least most n l m e = whole_value_in d k item least most n e

int_le_is : (a b : ℤ) → int_le a b ≡ true → a ≤ℤ b
int_le_is a b e = grind (arith, ints)

signed_in : (z : ℤ) (k : PlanKey) (item : ℕ) (least most n : ℤ) → signed_of z k item least most ≡ Ok n
    → (least ≤ℤ n) × (n ≤ℤ most)
signed_in z k item least most n e = grind (arith, test_ok, and_parts, int_le_is)

signed_value_in : (d : Data) (k : PlanKey) (item : ℕ) (least most n : ℤ) → signed_value d k item least most ≡ Ok n
    → (least ≤ℤ n) × (n ≤ℤ most)
signed_value_in d k item least most n e = grind (arith, bind_ok, signed_in)

pub signed_range : (found : Option Data) (k : PlanKey) (item : ℕ) (least most n : ℤ)
    → signed found k item least most ≡ Ok n → (least ≤ℤ n) × (n ≤ℤ most)
signed_range None k item least most n e = cc
signed_range (Some d) k item least most n e = signed_value_in d k item least most n e

-- an offset in its range is of 16 bits
fits_16 : (z : ℤ) → negsuc 32767 ≤ℤ z → z ≤ℤ pos 32767 → FitsSigned w16 z
fits_16 (pos n) l m = record { sfits = omega (arith, ints) }
fits_16 (negsuc n) l m = record { sfits = omega (arith, ints) }

-- ---- one transmitter

once_is : (address : ℕ) (earlier : List Transmitter) (item : ℕ) (u : Unit {0}) → once address earlier item ≡ Ok u
    → has_address address earlier ≡ false
once_is address earlier item u e = grind arith

-- the walk over an entry from each row on
abbrev from_delay : List Transmitter → Members → ℕ → ℤ → Result Transmitter PlanNo
from_delay earlier entry address offset =
    whole_or 0 (get_member (codes "delay") entry) key.Delay (length earlier) 0 4294967295 >>= λ delay. Ok
    (record { address = address; offset = offset; delay = delay })

abbrev from_offset : List Transmitter → Members → ℕ → Result Transmitter PlanNo
from_offset earlier entry address =
    signed (get_member (codes "offset") entry) key.Offset (length earlier) (negsuc 32767)
    (pos 32767) >>= λ offset. from_delay earlier entry address offset

abbrev from_once : List Transmitter → Members → ℕ → Result Transmitter PlanNo
from_once earlier entry address = once address earlier (length earlier) >>= λ u. from_offset earlier entry address

abbrev from_address : List Transmitter → Members → Result Transmitter PlanNo
from_address earlier entry = whole (get_member (codes "address") entry) key.Address
    (length earlier) 0 65535 >>= λ address. from_once earlier entry address

abbrev from_keys : List Transmitter → Members → Result Transmitter PlanNo
from_keys earlier entry = known (codes "address" ∷ codes "offset" ∷ codes "delay" ∷ []) entry key.Transmitter
    (length earlier) >>= λ u. from_address earlier entry

record IsNext (earlier : List Transmitter) (t : Transmitter) : Type 0 where
  numbers : IsTransmitter t
  once : has_address t.address earlier ≡ false

transmitter_is : (earlier : List Transmitter) (d : Data) (t : Transmitter) → transmitter earlier d ≡ Ok t
    → IsNext earlier t
unfolding transmitter
transmitter_is earlier d t e =
    let entry = bind_ok (table d key.Transmitter (length earlier)) (from_keys earlier) t e in
    let keys = bind_ok (known (codes "address" ∷ codes "offset" ∷ codes "delay" ∷ []) entry.0 key.Transmitter
    (length earlier)) (λ u. from_address earlier entry.0) t entry.2 in
    let address = bind_ok (whole (get_member (codes "address") entry.0) key.Address (length earlier) 0 65535)
    (from_once earlier entry.0) t keys.2 in
    let first = bind_ok (once address.0 earlier (length earlier))
    (λ u. from_offset earlier entry.0 address.0) t address.2 in
    let offset = bind_ok (signed (get_member (codes "offset") entry.0) key.Offset (length earlier) (negsuc 32767)
    (pos 32767)) (from_delay earlier entry.0 address.0) t first.2 in
    let delay = bind_ok (whole_or 0 (get_member (codes "delay") entry.0) key.Delay (length earlier) 0 4294967295)
    (λ (n : ℕ). Ok (record { address = address.0; offset = offset.0; delay = n })) t offset.2 in
    let a = whole_range (get_member (codes "address") entry.0) key.Address
    (length earlier) 0 65535 address.0 address.1 in
    let o = signed_range (get_member (codes "offset") entry.0) key.Offset (length earlier) (negsuc 32767)
    (pos 32767) offset.0 offset.1 in
    let l = whole_or_range 0 (get_member (codes "delay") entry.0) key.Delay (length earlier) 0 4294967295 delay.0
    (omega arith) (omega arith) delay.1 in
    let read : Transmitter = record { address = address.0; offset = offset.0; delay = delay.0 } in
    subst (IsNext earlier) {x = read} (ok_same read t delay.2) (grind (arith, fits_16, once_is))

-- ---- all transmitters

record AreRead (ts : List Transmitter) : Type 0 where
  distinct : IsDistinct nat_eq (addresses_of ts)
  each : All IsTransmitter ts

read_more : (done : List Transmitter) (t : Transmitter) → AreRead done → IsNext done t → AreRead (done ++ t ∷ [])
read_more done t a n = record {
  distinct = distinct_more done t a.distinct n.once;
  each = All-push IsTransmitter done t a.each n.numbers;
}

all_read : (items : Items) (ts : List Transmitter) → entries transmitter [] items ≡ Ok ts → AreRead ts
all_read items ts e =
    entries_keep AreRead transmitter (λ done d t kept read. read_more done t kept (transmitter_is done d t read)) items
    [] ts e (record { distinct = distinct_none [] refl; each = All-nil IsTransmitter })

pub array_range : (found : Option Data) (k : PlanKey) (item least most : ℕ) (ds : Items)
    → array found k item least most ≡ Ok ds → (least ≤ count_of ds) × (count_of ds ≤ most)
array_range None k item least most ds e = cc
array_range (Some d) k item least most ds e = grind (arith, bind_ok, test_ok, and_parts, leb-true)

pub array_or_none_range : (found : Option Data) (k : PlanKey) (item most : ℕ) (ds : Items)
    → array_or_none found k item most ≡ Ok ds → count_of ds ≤ most
array_or_none_range None k item most ds e = let same : no_items ≡ ds = cc in omega (arith, ap count_of same)
array_or_none_range (Some d) k item most ds e = (array_range (Some d) k item 0 most ds e).1

-- ---- a plan

abbrev made : ℕ → ℕ → List Transmitter → Option NetPlan → Plan
made start max_delay ts network = record {
  start = start;
  max_delay = max_delay;
  transmitters = ts;
  net = network;
}

-- the walk over the root from each row on
abbrev from_net : Members → ℕ → ℕ → List Transmitter → Result Plan PlanNo
from_net root start max_delay ts = net ts root >>= λ network. Ok (made start max_delay ts network)

abbrev from_entries : Members → ℕ → ℕ → Items → Result Plan PlanNo
from_entries root start max_delay items = entries transmitter [] items >>= λ ts. from_net root start max_delay ts

abbrev from_array : Members → ℕ → ℕ → Result Plan PlanNo
from_array root start max_delay =
    array (get_member (codes "transmitter") root) key.Transmitter 0 1 1020 >>= λ items. from_entries root start
    max_delay items

abbrev from_max : Members → ℕ → Result Plan PlanNo
from_max root start =
    whole (get_member (codes "max_delay") root) key.MaxDelay 0 0 9999999 >>= λ max_delay. from_array root start
    max_delay

abbrev from_start : Members → Result Plan PlanNo
from_start root = whole (get_member (codes "start") root) key.Start 0 0 9999999 >>= λ start. from_max root start

record IsRead (p : Plan) : Type 0 where
  sound : IsSound p
  each : All IsTransmitter p.transmitters

root_read : (root : Members) (p : Plan) → plan root ≡ Ok p → IsRead p
unfolding plan
root_read root p e =
    let keys = bind_ok (known (codes "start" ∷ codes "max_delay" ∷ codes "transmitter" ∷ codes "net" ∷ []) root
    key.Whole 0) (λ u. from_start root) p e in
    let start = bind_ok (whole (get_member (codes "start") root) key.Start 0 0 9999999) (from_max root) p keys.2 in
    let most = bind_ok (whole (get_member (codes "max_delay") root) key.MaxDelay 0 0 9999999)
    (from_array root start.0) p start.2 in
    let items = bind_ok (array (get_member (codes "transmitter") root) key.Transmitter 0 1 1020)
    (from_entries root start.0 most.0) p most.2 in
    let ts = bind_ok (entries transmitter [] items.0) (from_net root start.0 most.0) p items.2 in
    let network = bind_ok (net ts.0 root) (λ n. Ok (made start.0 most.0 ts.0 n)) p ts.2 in
    let a = whole_range (get_member (codes "start") root) key.Start 0 0 9999999 start.0 start.1 in
    let b = whole_range (get_member (codes "max_delay") root) key.MaxDelay 0 0 9999999 most.0 most.1 in
    let c = array_range (get_member (codes "transmitter") root) key.Transmitter 0 1 1020 items.0 items.1 in
    let r = all_read items.0 ts.0 ts.1 in
    let count = entries_count transmitter items.0 [] ts.0 ts.1 in
    let read : Plan = made start.0 most.0 ts.0 network.0 in
    subst IsRead {x = read} (ok_same read p network.2) (grind arith)

plan_read : (bytes : List ℕ) (p : Plan) → plan_of bytes ≡ Ok p → IsRead p
plan_read bytes p e = let root = bind_ok (root_of bytes) plan p e in root_read root.0 p root.2

pub plan_sound : (bytes : List ℕ) (p : Plan) → plan_of bytes ≡ Ok p → IsSound p
plan_sound bytes p e = (plan_read bytes p e).sound

pub plan_transmitters : (bytes : List ℕ) (p : Plan) → plan_of bytes ≡ Ok p → All IsTransmitter p.transmitters
plan_transmitters bytes p e = (plan_read bytes p e).each
