-- What stands under the anchor with one packet more: the orders, the packets of the group at hand, and whether 52 or
-- more are there.
use Rattle.std.proofs.Common.{◌≡◌, ◌≢◌, ℕ, ◌+◌, ◌-◌, ◌%◌, ◌<◌, ◌≤◌, ◌⊎◌, ◌==◌, ◌||◌, List, [], ◌∷◌, ◌++◌}
use Rattle.std.proofs.Common.{length, take, drop, set, sym, ap, ap₂, ◌∙◌, arith, inl, inr}
use Rattle.std.specs.Prelude.{nat_le}
use Rattle.std.proofs.lemmas.Bool.{cases_lt, eq-eqb, ne_eqb, le-leb, lt-leb}
use Rattle.std.proofs.lemmas.List.{map-set, take_more_set, length-map, length-set, length_push}
use Rattle.std.proofs.lemmas.List.{drop_all, take_all, take-append-le}
use Rattle.dtx_packets.specs.declared.packet.Packet.{Packet}
use Rattle.dtx_exciter.specs.Order.{orders}
use Rattle.dtx_exciter.specs.Packets.{readings}
use Rattle.dtx_exciter.specs.Step.{bytes_of}
use Rattle.dtx_exciter.specs.Kept.{whole, last_orders}
use Rattle.dtx_exciter.proofs.ForceLemmas.{force_left, force_first}
use Rattle.dtx_exciter.proofs.UnderLemmas.{said_append, length-said}
use Rattle.dtx_exciter.proofs.EndsLemmas as Ends

-- ---- a packet that ends no group

pub last_same : (l : List (List ℕ)) (p : List ℕ) → length l % 4 ≢ 3 → last_orders (l ++ p ∷ []) ≡ last_orders l
unfolding last_orders
last_same l p h =
    ap₂ orders (said_append l (p ∷ [])) (omega (arith, h, length_push l p)) ∙ by_place (cases_lt (whole l) 4)
  where
    by_place : (whole l < 4) ⊎ (4 ≤ whole l) → orders (readings l ++ readings (p ∷ [])) (whole l - 4)
        ≡ orders (readings l) (whole l - 4)
    by_place (inl m) = grind (arith, force_first)
    by_place (inr m) = force_left (readings l) (readings (p ∷ [])) (whole l - 4) (omega (arith, m, length-said l))

pub settled_same : (n : ℕ) → n % 4 ≢ 3 → (n < 52) ⊎ (52 ≤ n) → nat_le 52 n ≡ nat_le 52 (n + 1)
settled_same n h (inl m) = lt-leb 52 n m ∙ sym (lt-leb 52 (n + 1) (omega (arith, h, m)))
settled_same n h (inr m) = le-leb 52 n m ∙ sym (le-leb 52 (n + 1) (omega (arith, m)))

-- the packets of the group so far
pub held_more : (packets : List Packet) (packet : Packet) (k : ℕ) → k < length packets
    → take (k + 1) (bytes_of (set packets k packet)) ≡ take k (bytes_of packets) ++ packet.0 ∷ []
held_more packets packet k l = grind (arith, map-set, take_more_set, length-map)

pub front_same : (l : List (List ℕ)) (p : List ℕ) → length l % 4 ≢ 3
    → take (whole (l ++ p ∷ [])) (l ++ p ∷ []) ≡ take (whole l) l
front_same l p h = grind (arith, length_push, take-append-le)

-- ---- a packet that ends a group

-- the group's packets
pub group_bytes : (l : List (List ℕ)) (packets : List Packet) (packet : Packet) (i : ℕ) → Ends.Ends l i
    → length packets ≡ 4 → take (length l % 4) (bytes_of packets) ≡ drop (whole l) l
    → bytes_of (set packets 3 packet) ≡ Ends.group l i packet.0
group_bytes l packets packet i e four partial =
    let m : length l % 4 ≡ 3 = let x = e.long in let y = e.whole in omega (arith, x, y) in
    sym (take_all 4 (bytes_of (set packets 3 packet)) (grind (arith, length-map, length-set)))
    ∙ held_more packets packet 3 (omega (arith, four)) ∙ ap (λ x. x ++ packet.0 ∷ []) (grind arith)

pub settled_more : (n place : ℕ) → place ≡ n % 624 → (n < 52) ⊎ (52 ≤ n)
    → (nat_le 52 n || (place == 51)) ≡ nat_le 52 (n + 1)
settled_more n place e (inr m) = grind (arith, le-leb)
settled_more n place e (inl m) = grind (arith, lt-leb, cases_lt, ne_eqb, eq-eqb, le-leb)

pub partial_full : (l : List (List ℕ)) (p : List ℕ) (i : ℕ) (xs : List (List ℕ)) → Ends.Ends l i
    → take (length (l ++ p ∷ []) % 4) xs ≡ drop (whole (l ++ p ∷ [])) (l ++ p ∷ [])
partial_full l p i xs e =
    let w = e.whole in
    let z : length (l ++ p ∷ []) % 4 ≡ 0 = omega (arith, w, Ends.length-all l i p e) in
    ap (λ (n : ℕ). take n xs) z ∙ sym (drop_all (whole (l ++ p ∷ [])) (l ++ p ∷ []) (grind arith))
