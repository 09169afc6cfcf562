-- Restored packets, one after another and one list behind another.
use Rattle.std.proofs.Common.{◌≡◌, ℕ, ◌+◌, ◌%◌, List, [], ◌∷◌, ◌++◌, length, refl, sym, ap, ◌∙◌, arith}
use Rattle.std.specs.Prelude.{◌==◌, if◌then◌else◌, slice_set}
use Rattle.std.proofs.lemmas.List.{map-append}
use Rattle.dtx_cadence.specs.Mark.{sync_at}
use Rattle.dtx_receiver.specs.declared.batch.Received.{Received}
use Rattle.dtx_repeat.specs.Lives.{packets_in}
use Rattle.dtx_repeat.specs.Restored.{restored_one, restored}

pub restored_none : (k : ℕ) → restored k [] ≡ []
unfolding restored
restored_none k = refl

pub restored_cons : (k : ℕ) (x : Received) (xs : List Received)
    → restored k (x ∷ xs) ≡ restored_one k x ∷ restored (k + 1) xs
unfolding restored
restored_cons k x xs = refl

pub length-restored : (k : ℕ) (xs : List Received) → length (restored k xs) ≡ length xs
length-restored k [] = ap length (restored_none k)
length-restored k (x ∷ xs) = omega (arith, ap length (restored_cons k x xs), length-restored (k + 1) xs)

pub restored-append : (k : ℕ) (a b : List Received)
    → restored k (a ++ b) ≡ restored k a ++ restored (k + length a) b
restored-append k [] b = grind (arith, restored_none)
restored-append k (x ∷ a) b = grind (arith, restored_cons, restored-append (k + 1) a b)

-- at another place of the same kind
same_sync : (k m : ℕ) → k % 624 ≡ m % 624 → sync_at k ≡ sync_at m
same_sync k m e = ap (λ n. if n == 0 then 0xB8 else 0x47) e

same_one : (k m : ℕ) (x : Received) → k % 624 ≡ m % 624 → restored_one k x ≡ restored_one m x
same_one k m x e = ap (λ n. record x { packet = record { 0 = slice_set x.packet.0 0 n } }) (same_sync k m e)

pub restored_same : (k m : ℕ) (xs : List Received) → k % 624 ≡ m % 624 → restored k xs ≡ restored m xs
restored_same k m [] e = restored_none k ∙ sym (restored_none m)
restored_same k m (x ∷ xs) e =
    let rest = restored_same (k + 1) (m + 1) xs (omega (arith, e)) in grind (arith, restored_cons, same_one, rest)

-- packets behind others, from the place in the frame that is left
pub restored_behind : (k p : ℕ) (a b : List Received) → p ≡ (k + length a) % 624
    → restored k (a ++ b) ≡ restored k a ++ restored p b
restored_behind k p a b e = grind (arith, restored-append, restored_same)

pub packets_in-append : (a b : List Received) → packets_in (a ++ b) ≡ packets_in a ++ packets_in b
packets_in-append a b = map-append (λ (r : Received). r.packet.0) a b
