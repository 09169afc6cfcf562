-- What the walk over the array `damage` leaves: the numbers of each entry in their range, and the entries in order.
use Rattle.std.proofs.Common.{◌≡◌, ℕ, ◌+◌, ◌≤◌, List, [], ◌∷◌, ◌++◌, length, subst, arith, All, pos, negsuc}
use Rattle.std.specs.Prelude.{codes, Ok}
use Rattle.std.specs.List.{AllAdjacentBelow}
use Rattle.std.proofs.lemmas.Bool.{lt-ltb, cases_lt}
use Rattle.std.proofs.lemmas.Grind.{common_steps}
use Rattle.std.proofs.lemmas.List.Elements.{All-nil, All-push}
use Rattle.toml.specs.Data.{Data, Members, get_member}
use Rattle.dtx_plan.specs.declared.key.PlanKey.TheVariants as key
use Rattle.dtx_plan.specs.declared.damage.Damage.{Damage}
use Rattle.dtx_plan.specs.Rows.{table, known, whole, whole_or, signed, entries, array_or_none}
use Rattle.dtx_plan.specs.DamageTable.{behind, damage, damage_from, last_end}
use Rattle.dtx_plan.specs.NetTable.{damage_of}
use Rattle.dtx_plan.specs.Sound.{IsDamage, AreDamages}
use Rattle.dtx_plan.proofs.WalksLemmas.{bind_ok, ok_same, whole_range, whole_or_range, array_or_none_range}
use Rattle.dtx_plan.proofs.WalksLemmas.{entries_keep, entries_count}

-- ---- one entry

-- its numbers are in their range, and it begins where the one before it ends, or later
record IsNext (end : ℕ) (d : Damage) : Type 0 where
  numbers : IsDamage d
  behind : end ≤ d.at

behind_is : (at end item : ℕ) (u : Unit {0}) → behind at end item ≡ Ok u → end ≤ at
behind_is at end item u e = grind (arith, cases_lt, lt-ltb)

next_is : (end item : ℕ) (d : Data) (x : Damage) → damage_from end item d ≡ Ok x → IsNext end x
unfolding damage_from
next_is end item d x e =
    let entry = bind_ok (table d key.Damage item) _ x e in
    let keys = bind_ok (known (codes "at" ∷ codes "count" ∷ codes "put" ∷ []) entry.0 key.Damage item) _ x entry.2 in
    let at = bind_ok (whole (get_member (codes "at") entry.0) key.DamageAt item 0 520831999999) _ x keys.2 in
    let first = bind_ok (behind at.0 end item) _ x at.2 in
    let count = bind_ok (whole_or 1 (get_member (codes "count") entry.0) key.DamageCount item 1 520832000000) _ x
    first.2 in
    let put = bind_ok (signed (get_member (codes "put") entry.0) key.DamagePut item (negsuc 127) (pos 127)) _ x count.2
    in
    let a = whole_range (get_member (codes "at") entry.0) key.DamageAt item 0 520831999999 at.0 at.1 in
    let n = whole_or_range 1 (get_member (codes "count") entry.0) key.DamageCount item 1 520832000000 count.0
    (omega arith) (omega arith) count.1 in
    let read : Damage = record { at = at.0; count = count.0; put = put.0 } in
    subst (IsNext end) {x = read} (ok_same read x put.2) (grind (arith, behind_is))

pub damage_is : (end item : ℕ) (d : Data) (x : Damage) → damage_from end item d ≡ Ok x → IsDamage x
damage_is end item d x e = (next_is end item d x e).numbers

-- ---- all entries

abbrev InOrder : List Damage → Type 0
InOrder ds = AllAdjacentBelow (λ before after. before.at + before.count ≤ after.at) ds (length ds)

record AreRead (ds : List Damage) : Type 0 where
  each : All IsDamage ds
  in_order : InOrder ds

order_more : (ds : List Damage) (d : Damage) → InOrder ds → last_end ds ≤ d.at → InOrder (ds ++ d ∷ [])
order_more ds d ordered after = grind (arith, common_steps)

read_more : (done : List Damage) (d : Data) (x : Damage) → AreRead done → damage done d ≡ Ok x
    → AreRead (done ++ x ∷ [])
read_more done d x kept e =
    let next = next_is (last_end done) (length done) d x e in
    record {
      each = All-push IsDamage done x kept.each next.numbers;
      in_order = order_more done x kept.in_order next.behind;
    }

none_read : AreRead []
none_read = record { each = All-nil IsDamage; in_order = λ k x within. absurd (omega arith) }

pub damages_are : (entry : Members) (ds : List Damage) → damage_of entry ≡ Ok ds → AreDamages ds
damages_are entry ds e =
    let items = bind_ok (array_or_none (get_member (codes "damage") entry) key.Damage 0 100000)
    (λ items. entries damage [] items) ds e in
    let read = entries_keep AreRead damage read_more items.0 [] ds items.2 none_read in
    let count = entries_count damage items.0 [] ds items.2 in
    let few = array_or_none_range (get_member (codes "damage") entry) key.Damage 0 100000 items.0 items.1 in
    record { each = read.each; in_order = read.in_order; most = omega (arith, count, few) }
