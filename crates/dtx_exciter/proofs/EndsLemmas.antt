-- A packet that ends a group: the group's packets, its own order, and the order in force.
use Rattle.std.proofs.Common.{◌≡◌, ℕ, ◌+◌, ◌-◌, ◌%◌, ◌<◌, ◌≤◌, ◌⊎◌, None, List, [], ◌∷◌, ◌++◌, length, get_or, drop}
use Rattle.std.proofs.Common.{take, refl, sym, ap, ap₂, ◌∙◌, arith, inl, inr}
use Rattle.std.specs.Prelude.{nat_le}
use Rattle.std.specs.List.{cons_option}
use Rattle.std.proofs.lemmas.Bool.{cases_lt, eq-eqb, le-leb, lt-leb}
use Rattle.std.proofs.lemmas.List.{length_push, length-drop, length-take-le, append_assoc, take-append-drop}
use Rattle.std.proofs.lemmas.List.{get_or-append_right, get_or-map}
use Rattle.dtx_exciter.specs.Order.{Order, either, ordered, order_at, counting_order, placed, orders}
use Rattle.dtx_exciter.specs.Packets.{reads, readings}
use Rattle.dtx_exciter.specs.Step.{order_in, own_order}
use Rattle.dtx_exciter.specs.Kept.{whole, last_orders}
use Rattle.dtx_exciter.proofs.ForceLemmas.{IsBehind, Stands, force_left, force_more, force_first, force_stands}
use Rattle.dtx_exciter.proofs.ForceLemmas.{counted_early, counted_behind}
use Rattle.dtx_exciter.proofs.UnderLemmas.{said_append, length-said}

-- the packets l under the anchor end three packets into the group from i on
pub record Ends (l : List (List ℕ)) (i : ℕ) : Type 0 where
  pub long : length l ≡ i + 3
  pub whole : i % 4 ≡ 0

-- the whole groups before it, and its packets
abbrev pub front : List (List ℕ) → ℕ → List (List ℕ)
front l i = take i l

abbrev pub group : List (List ℕ) → ℕ → List ℕ → List (List ℕ)
group l i p = drop i l ++ p ∷ []

pub parts : (l : List (List ℕ)) (i : ℕ) (p : List ℕ) → front l i ++ group l i p ≡ l ++ p ∷ []
parts l i p = sym (append_assoc (take i l) (drop i l) (p ∷ [])) ∙ ap (λ x. x ++ p ∷ []) (take-append-drop i l)

pub length-front : (l : List (List ℕ)) (i : ℕ) → Ends l i → length (front l i) ≡ i
length-front l i e = length-take-le i l (let a = e.long in omega (arith, a))

pub length-group : (l : List (List ℕ)) (i : ℕ) (p : List ℕ) → Ends l i → length (group l i p) ≡ 4
length-group l i p e = let a = e.long in omega (arith, a, length_push (drop i l) p, length-drop i l)

pub length-all : (l : List (List ℕ)) (i : ℕ) (p : List ℕ) → Ends l i → length (l ++ p ∷ []) ≡ i + 4
length-all l i p e = let a = e.long in omega (arith, a, length_push l p)

pub whole-front : (l : List (List ℕ)) (i : ℕ) → Ends l i → whole l ≡ i
whole-front l i e = let a = e.long in let b = e.whole in omega (arith, a, b)

pub whole-all : (l : List (List ℕ)) (i : ℕ) (p : List ℕ) → Ends l i → whole (l ++ p ∷ []) ≡ i + 4
whole-all l i p e = let a = e.long in let b = e.whole in omega (arith, a, b, length_push l p)

-- ---- the group's own order

said_at : (l : List (List ℕ)) (i m : ℕ) (p : List ℕ) → Ends l i → m < 4
    → get_or (readings (l ++ p ∷ [])) (i + m) None ≡ reads (get_or (group l i p) m [])
unfolding readings
said_at l i m p e k = get_or-map reads (l ++ p ∷ []) (i + m) [] None (omega (arith, k, length-all l i p e))
    ∙ ap reads (ap (λ x. get_or x (i + m) []) (sym (parts l i p))
    ∙ get_or-append_right (front l i) (group l i p) i (i + m) [] (length-front l i e) (omega arith)
    ∙ ap (λ x. get_or (group l i p) x []) (less i m))
  where
    less : (i m : ℕ) → i + m - i ≡ m
    less i m = omega arith

pub order_is : (l : List (List ℕ)) (i j : ℕ) (p : List ℕ) → Ends l i → j ≡ i % 624
    → order_in j (group l i p) ≡ order_at (readings (l ++ p ∷ [])) i
unfolding order_in order_at
order_is l i j p e h = ap₂ either (same 0 j i (grind arith) (omega arith) (omega arith)) (grind (arith, same))
  where
    same : (m x k : ℕ) → x ≡ k % 624 → k ≡ i + m → m < 4
        → ordered x (reads (get_or (group l i p) m [])) ≡ ordered (k % 624) (get_or (readings (l ++ p ∷ [])) k None)
    same m x k a b c = ap₂ ordered a (sym (ap (λ y. get_or (readings (l ++ p ∷ [])) y None) b ∙ said_at l i m p e c))

pub own_is : (l : List (List ℕ)) (i j : ℕ) (p : List ℕ) → Ends l i → j ≡ i % 624
    → own_order (nat_le 52 (length l)) j (group l i p) ≡ counting_order (readings (l ++ p ∷ [])) i
unfolding counting_order
own_is l i j p e h = grind (arith, cases_lt, order_is, lt-leb, le-leb, eq-eqb)

-- ---- the order in force

-- the anchor's packet alone orders nothing
pub last_single : (p : List ℕ) → last_orders (p ∷ []) ≡ []
unfolding last_orders
last_single p = force_first (readings (p ∷ []))

zero_or : (i : ℕ) → i % 4 ≡ 0 → (i ≡ 0) ⊎ (4 ≤ i)
zero_or i h = grind arith

last_is : (l : List (List ℕ)) (i k : ℕ) → Ends l i → i - 4 ≡ k → last_orders l ≡ orders (readings l) k
unfolding last_orders
last_is l i k e h = ap (orders (readings l)) (ap (λ (n : ℕ). n - 4) (whole-front l i e) ∙ h)

pub last_none : (l : List (List ℕ)) (i : ℕ) → Ends l i → i ≡ 0 → last_orders l ≡ []
last_none l i e z = last_is l i 0 e (omega (arith, z)) ∙ force_first (readings l)

pub force_is : (l : List (List ℕ)) (i : ℕ) (p : List ℕ) → Ends l i → orders (readings (l ++ p ∷ [])) i
    ≡ cons_option (placed i (counting_order (readings (l ++ p ∷ [])) i)) (last_orders l)
force_is l i p e = elim (zero_or i e.whole) [
  | inl z ↦ grind (arith, force_first, counted_early, last_none)
  | inr m ↦ grind (arith, force_more, said_append, force_left, length-said, last_is)
]

-- the order in force before the group
pub before_is : (l : List (List ℕ)) (i : ℕ) (p : List ℕ) → Ends l i → 4 ≤ i
    → orders (readings (l ++ p ∷ [])) (i - 4) ≡ last_orders l
before_is l i p e m = grind (arith, said_append, force_left, length-said, last_is)

pub last_all : (l : List (List ℕ)) (i : ℕ) (p : List ℕ) → Ends l i
    → last_orders (l ++ p ∷ []) ≡ orders (readings (l ++ p ∷ [])) i
unfolding last_orders
last_all l i p e = grind (arith, whole-all)

-- it stands before the group, 52 or more packets behind the anchor
pub record IsOlder (i : ℕ) (order : Order) : Type 0 where
  pub flushed : 52 ≤ order.place
  pub whole : order.place % 4 ≡ 0
  pub before : order.place + 4 ≤ i

pub last_older : (l : List (List ℕ)) (i : ℕ) (order : Order) (older : List Order) → Ends l i
    → last_orders l ≡ order ∷ older → IsOlder i order
last_older l i order older e h = elim (zero_or i e.whole) [
  | inl z ↦ absurd (omega (arith, ap (λ (x : List Order). length x) (sym (last_none l i e z) ∙ h)))
  | inr m ↦
      let s : Stands (readings l) (i - 4 + 1) order =
      force_stands (readings l) (i - 4) order older (sym (last_is l i (i - 4) e refl) ∙ h) in
      let b : IsBehind order.place = counted_behind (readings l) order.place order.ops s.counts in
      record {
        flushed = b.flushed;
        whole = b.whole;
        before = grind arith;
      }
]
