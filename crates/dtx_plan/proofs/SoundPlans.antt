-- What the walk over a file leaves: a plan that an adapter takes, what is done with its transmitters, and damage.
use Rattle.std.proofs.Common.{◌≡◌, ℕ, ◌≤◌, List, [], ◌∷◌, length, subst, arith, Option, Some, None}
use Rattle.std.specs.Prelude.{codes, Result, Ok, Err, IfOk, IfSome}
use Rattle.std.proofs.lemmas.Bool.{and_parts, leb-true}
use Rattle.toml.specs.Data.{Data, Members, get_member}
use Rattle.dtx_plan.specs.declared.key.PlanKey.TheVariants as key
use Rattle.dtx_plan.specs.declared.refusal.PlanNo.{PlanNo}
use Rattle.dtx_plan.specs.declared.refusal.PlanFault.{PlanFault}
use Rattle.dtx_plan.specs.declared.transmitter.Transmitter.{Transmitter}
use Rattle.dtx_plan.specs.declared.damage.Damage.{Damage}
use Rattle.dtx_plan.specs.declared.plan.ReceivePlan.{ReceivePlan}
use Rattle.dtx_plan.specs.declared.plan.NetPlan.{NetPlan}
use Rattle.dtx_plan.specs.declared.plan.Plan.{Plan}
use Rattle.dtx_plan.specs.Rows.{IsAnswer, table, known, whole, text, array_or_none, optional, entries}
use Rattle.dtx_plan.specs.EventTable.{no_stranger, event_after}
use Rattle.dtx_plan.specs.NetTable.{damage_of, receive_of, receive, stream_of, stream, events_of, net_of}
use Rattle.dtx_plan.specs.Plan.{plan, changes, root_of, plan_of, changes_of}
use Rattle.dtx_plan.specs.Sound.{AreDamages, IsReceived, IsNet, IsSound, HasSoundNet}
use Rattle.dtx_plan.proofs.WalksLemmas.{bind_ok, test_ok, ok_same, array_or_none_range, entries_count, plan_sound}
use Rattle.dtx_plan.proofs.SoundDamage.{damages_are}
use Rattle.dtx_plan.proofs.SoundEvents.{listed_is, events_are}

-- ---- what may be absent

optional_is : {A : Type 0} (Is : A → Type 0) (read : Data → Result A PlanNo)
    → ((d : Data) (x : A) → read d ≡ Ok x → Is x)
    → (found : Option Data) (o : Option A) → optional read found ≡ Ok o → IfSome o Is
optional_is Is read each None o e = subst (λ o. IfSome o Is) (ok_same None o e) tt
optional_is Is read each (Some d) o e = grind (arith, bind_ok, ok_same)

-- ---- what is received

received_is : (ts : List Transmitter) (d : Data) (r : ReceivePlan) → receive_of ts d ≡ Ok r → IsReceived ts r
unfolding receive_of
received_is ts d r e =
    let entry = bind_ok (table d key.Receive 0) _ r e in
    let keys = bind_ok (known (codes "from" ∷ codes "damage" ∷ []) entry.0 key.Receive 0) _ r entry.2 in
    let from = bind_ok (whole (get_member (codes "from") entry.0) key.ReceiveFrom 0 0 65535) _ r keys.2 in
    let first = bind_ok (no_stranger from.0 ts key.ReceiveFrom 0) _ r from.2 in
    let damage = bind_ok (damage_of entry.0) _ r first.2 in
    let read : ReceivePlan = record { from = from.0; damage = damage.0 } in
    subst (IsReceived ts) {x = read} (ok_same read r damage.2) (record {
      listed = listed_is from.0 ts key.ReceiveFrom 0 first.0 first.1;
      damage = damages_are entry.0 damage.0 damage.1;
    })

-- ---- what is done with the transmitters

stream_of_is : (name told : List ℕ) → stream_of name ≡ Ok told → (1 ≤ length told) × (length told ≤ 255)
stream_of_is name told e = grind (arith, test_ok, and_parts, leb-true)

net_is : (ts : List Transmitter) (d : Data) (n : NetPlan) → net_of ts d ≡ Ok n → IsNet ts n
unfolding net_of
net_is ts d n e =
    let entry = bind_ok (table d key.Net 0) _ n e in
    let keys = bind_ok (known (codes "stream" ∷ codes "event" ∷ codes "receive" ∷ []) entry.0 key.Net 0) _ n entry.2 in
    let name = bind_ok (stream entry.0) _ n keys.2 in
    let schedule = bind_ok (events_of ts entry.0) _ n name.2 in
    let receiving = bind_ok (receive ts entry.0) _ n schedule.2 in
    let word = bind_ok (text (get_member (codes "stream") entry.0) key.Stream 0) stream_of name.0 name.1 in
    let long = stream_of_is word.0 name.0 word.2 in
    let items = bind_ok (array_or_none (get_member (codes "event") entry.0) key.Event 0 10000)
    (λ items. entries (event_after ts) [] items) schedule.0 schedule.1 in
    let count = entries_count (event_after ts) items.0 [] schedule.0 items.2 in
    let few = array_or_none_range (get_member (codes "event") entry.0) key.Event 0 10000 items.0 items.1 in
    let read : NetPlan = record { stream = name.0; events = schedule.0; receive = receiving.0 } in
    subst (IsNet ts) {x = read} (ok_same read n receiving.2) (record {
      some = long.0;
      name = long.1;
      most = omega (arith, count, few);
      events = events_are ts items.0 schedule.0 items.2;
      receive = optional_is (IsReceived ts) (receive_of ts) (received_is ts) (get_member (codes "receive") entry.0)
          receiving.0 receiving.1;
    })

-- ---- a plan

plan_net : (root : Members) (p : Plan) → plan root ≡ Ok p → HasSoundNet p
unfolding plan
plan_net root p e = grind (arith, bind_ok, ok_same, optional_is, net_is)

pub answer_sound : (bytes : List ℕ) (answer : Result Plan PlanFault) → IsAnswer (plan_of bytes) answer
    → IfOk answer IsSound
answer_sound bytes (Ok p) is = plan_sound bytes p is
answer_sound bytes (Err fault) is = tt

pub answer_net : (bytes : List ℕ) (answer : Result Plan PlanFault) → IsAnswer (plan_of bytes) answer
    → IfOk answer HasSoundNet
answer_net bytes (Ok p) is = let root = bind_ok (root_of bytes) plan p is in plan_net root.0 p root.2
answer_net bytes (Err fault) is = tt

-- ---- changes

changes_are : (root : Members) (ds : List Damage) → changes root ≡ Ok ds → AreDamages ds
unfolding changes
changes_are root ds e = grind (arith, bind_ok, damages_are)

pub answer_damages : (bytes : List ℕ) (answer : Result (List Damage) PlanFault) → IsAnswer (changes_of bytes) answer
    → IfOk answer AreDamages
answer_damages bytes (Ok ds) is = let root = bind_ok (root_of bytes) changes ds is in changes_are root.0 ds root.2
answer_damages bytes (Err fault) is = tt
