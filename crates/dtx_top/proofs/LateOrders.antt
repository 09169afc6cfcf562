-- A group with a placeholder orders something, also for an exciter that locks to a later mark.
use Rattle.std.proofs.Common.{◌≡◌, ℕ, zero, suc, ◌+◌, ◌*◌, ◌/◌, ◌%◌, ◌<◌, ◌≤◌, Bool, true, false, List, [], get_or}
use Rattle.std.proofs.Common.{refl, subst, arith}
use Rattle.std.specs.Prelude.{◌||◌, Option, drop}
use Rattle.std.specs.List.{range_with_len, list_any}
use Rattle.std.proofs.lemmas.Bool.{cond-true, eq-eqb, le-leb}
use Rattle.std.proofs.lemmas.List.{get_or-drop}
use Rattle.dtx_exciter.specs.Order.{counting_order, order_at}
use Rattle.dtx_network.specs.Orders.{has_order, is_operations}
use Rattle.dtx_ops.specs.declared.fields.Ops.{Ops}
use Rattle.dtx_packets.specs.Packets.{pid_of}

or_right : (a b : Bool) → b ≡ true → (a || b) ≡ true
or_right true b e = refl
or_right false b e = e

-- one of some numbers in a row passes
any_at : (test : ℕ → Bool) (g n i : ℕ) → i < n → test (g + i) ≡ true → list_any test (range_with_len g n) ≡ true
any_at test g zero i l e = absurd (omega (arith, l))
any_at test g (suc n) zero l e = grind arith
any_at test g (suc n) (suc i) l e =
    let there : test (g + 1 + i) ≡ true = subst (λ (x : ℕ). test x ≡ true) (omega arith) e in
    or_right (test g) (list_any test (range_with_len (g + 1) n)) (any_at test (g + 1) n i (omega (arith, l)) there)

-- the group of a placeholder has an order
pub held_order : (stream : List (List ℕ)) (k : ℕ) → pid_of (get_or stream k []) ≡ 0x1FFA
    → has_order stream (4 * (k / 4)) ≡ true
unfolding has_order is_operations
held_order stream k placeholder = grind (arith, eq-eqb, any_at)

-- ---- from a later mark on

counts : (said : List (Option Ops)) (g : ℕ) → 52 ≤ g → g % 4 ≡ 0 → counting_order said g ≡ order_at said g
unfolding counting_order
counts said g far whole = grind (arith, cond-true, le-leb, eq-eqb)

-- a group that begins 52 packets or more behind the mark orders what it orders from the first packet on
pub order_from : (said : List (Option Ops)) (m g j : ℕ) → m % 624 ≡ 0 → 52 ≤ g → g % 4 ≡ 0 → j ≡ m + g
    → counting_order (drop m said) g ≡ counting_order said j
unfolding order_at
order_from said m g j mark far whole same = grind (arith, counts, get_or-drop)
