-- What a feed sends under its latest order is what it sends under its first one, where each order tells the states that
-- its coders have.
use Rattle.std.proofs.Common.{◌≡◌, ℕ, ℤ, zero, suc, ◌+◌, ◌-◌, ◌*◌, ◌/◌, ◌%◌, ◌≤◌, Option, Some, None, List, []}
use Rattle.std.proofs.Common.{◌∷◌, length, take, refl, sym, ap, ap₂, subst, ◌∙◌, arith}
use Rattle.std.specs.Prelude.{⊤}
use Rattle.std.specs.List.{cons_option}
use Rattle.dtx_coder.specs.Along.{states_since}
use Rattle.dtx_ops.specs.declared.fields.Ops.{Ops}
use Rattle.dtx_exciter.specs.Emission.{segments_since}
use Rattle.dtx_exciter.proofs.ForceLemmas.{Stands, counted_behind, force_first, force_more, force_next, force_stands}
use Rattle.dtx_exciter.specs.Order.{Order, counting_order, orders, placed}
use Rattle.dtx_exciter.specs.Packets.{readings}
use Rattle.dtx_calm_feed.specs.Own.{IsFirstOrder, own_by, own_data}
use Rattle.dtx_calm_feed.proofs.Since.{segments_on}

-- each order of a whole group but the first tells the states that the coders have from the latest one before it
abbrev pub NeverSlips : List (List ℕ) → Type 0
NeverSlips l = (i : ℕ) (ops : Ops) (order : Order) (older : List Order) → counting_order (readings l) i ≡ Some ops
    → i + 4 ≤ length l → orders (readings l) (i - 4) ≡ order ∷ older
    → ops.states ≡ states_since (order.place / 4) order.ops.states (take i l)

-- the feed's own data segments of the group from i on are those under the latest of these orders
abbrev IsOwn : List (List ℕ) → ℕ → List Order → Type 0
IsOwn l i [] = ⊤
IsOwn l i (order ∷ older) = own_by l i (order ∷ older) ≡ segments_since (order.place / 4) order.ops.states l (i / 4)

own_next : (l : List (List ℕ)) (i k : ℕ) (o : Option Ops) (rest : List Order) → NeverSlips l → k % 4 ≡ 0 → 4 ≤ k
    → k ≤ i → i % 4 ≡ 0 → i + 4 ≤ length l → counting_order (readings l) k ≡ o → orders (readings l) (k - 4) ≡ rest
    → IsOwn l i rest → IsOwn l i (cons_option (placed k o) rest)
own_next l i k None rest r w f a b c e g h = h
own_next l i k (Some ops) [] r w f a b c e g h = refl
own_next l i k (Some ops) (order ∷ older) r w f a b c e g h =
    let s : Stands (readings l) (k - 4 + 1) order = force_stands (readings l) (k - 4) order older g in
    let below = s.below in
    let at : 4 * (k / 4) ≡ k = omega (arith, w) in
    h ∙ grind (arith, segments_on)

own_so_far : (l : List (List ℕ)) (i c : ℕ) → NeverSlips l → 4 * c ≤ i → i % 4 ≡ 0 → i + 4 ≤ length l
    → IsOwn l i (orders (readings l) (4 * c))
own_so_far l i zero r a b h = subst (IsOwn l i) (sym (force_first (readings l))) tt
own_so_far l i (suc c) r a b h =
    let k : ℕ = 4 * suc c in
    let less : 4 * suc c - 4 ≡ 4 * c = omega arith in
    subst (IsOwn l i) (sym (force_more (readings l) k (omega arith) (omega arith)))
    (own_next l i k (counting_order (readings l) k) (orders (readings l) (k - 4)) r (omega arith) (omega arith) a b h
    refl refl (subst (λ n. IsOwn l i (orders (readings l) n)) (sym less) (own_so_far l i c r (omega (arith, a)) b h)))

-- ---- more orders

-- these orders have the first one of those
abbrev HasFirst : List (List ℕ) → ℕ → List (List ℤ) → List Order → Type 0
HasFirst l i own [] = ⊥
HasFirst l i own (order ∷ older) = own_by l i (order ∷ older) ≡ own

first_next : (l : List (List ℕ)) (i k : ℕ) (own : List (List ℤ)) (o : Option Ops) (rest : List Order)
    → HasFirst l i own rest → HasFirst l i own (cons_option (placed k o) rest)
first_next l i k own None rest h = h
first_next l i k own (Some ops) [] h = absurd h
first_next l i k own (Some ops) (order ∷ older) h = h

first_stays : (l : List (List ℕ)) (i p c : ℕ) (own : List (List ℤ)) → p % 4 ≡ 0
    → HasFirst l i own (orders (readings l) p) → HasFirst l i own (orders (readings l) (p + 4 * c))
first_stays l i p zero own w h = grind arith
first_stays l i p (suc c) own w h =
    let k : ℕ = p + 4 * suc c in
    let less : p + 4 * c ≡ p + 4 * suc c - 4 = omega arith in
    subst (HasFirst l i own) (sym (force_more (readings l) k (omega (arith, w)) (omega arith)))
    (first_next l i k own (counting_order (readings l) k) (orders (readings l) (k - 4))
    (subst (λ n. HasFirst l i own (orders (readings l) n)) less (first_stays l i p c own w h)))

is_own : (l : List (List ℕ)) (i : ℕ) (own : List (List ℤ)) (os : List Order) → HasFirst l i own os → own_by l i os ≡ own
is_own l i own [] h = absurd h
is_own l i own (order ∷ older) h = h

-- the orders up to that of the group at p
pub here : (l : List (List ℕ)) (p : ℕ) (ops : Ops) → counting_order (readings l) p ≡ Some ops
    → orders (readings l) p ≡ record { place = p; ops = ops } ∷ orders (readings l) (p - 4)
here l p ops e = grind (arith, counted_behind, force_more)

-- the feed's own data segments are those under any of its orders
pub own_since : (l : List (List ℕ)) (p i : ℕ) (ops : Ops) → NeverSlips l → counting_order (readings l) p ≡ Some ops
    → p ≤ i → i % 4 ≡ 0 → i + 4 ≤ length l → own_data l i ≡ segments_since (p / 4) ops.states l (i / 4)
unfolding own_data
own_since l p i ops r e a b h =
    let w : p % 4 ≡ 0 = (counted_behind (readings l) p ops e).whole in
    let at : 4 * (p / 4) ≡ p = omega (arith, w) in
    let up : p + 4 * ((i - p) / 4) ≡ i = omega (arith, w, a, b) in
    let these : IsOwn l i (orders (readings l) p) =
    subst (λ n. IsOwn l i (orders (readings l) n)) at (own_so_far l i (p / 4) r (omega (arith, at, a)) b h) in
    let own : HasFirst l i (segments_since (p / 4) ops.states l (i / 4)) (orders (readings l) p) =
    subst (HasFirst l i (segments_since (p / 4) ops.states l (i / 4))) (sym (here l p ops e)) (grind (arith, here)) in
    ap (λ n. own_by l i (orders (readings l) n)) (sym up)
    ∙ is_own l i (segments_since (p / 4) ops.states l (i / 4)) (orders (readings l) (p + 4 * ((i - p) / 4)))
    (first_stays l i p ((i - p) / 4) (segments_since (p / 4) ops.states l (i / 4)) w own)

-- ---- the first order

none_so_far : (l : List (List ℕ)) (n : ℕ) → ((g : ℕ) → g ≤ n → counting_order (readings l) g ≡ None)
    → orders (readings l) n ≡ []
none_so_far l zero h = force_first (readings l)
none_so_far l (suc n) h = force_next (readings l) n (suc n) (omega arith)
    ∙ ap₂ (λ o rest. cons_option (placed (suc n) o) rest) (h (suc n) (omega arith))
    (none_so_far l n (λ g m. h g (omega (arith, m))))

pub first_here : (l : List (List ℕ)) (first : Order) → IsFirstOrder l first
    → orders (readings l) first.place ≡ first ∷ []
first_here l first f = grind (arith, counted_behind, here, none_so_far)

-- the feed's own data segments are those from its first order on
pub own_first : (l : List (List ℕ)) (i : ℕ) (first : Order) → IsFirstOrder l first → i % 4 ≡ 0 → first.place ≤ i
    → own_data l i ≡ segments_since (first.place / 4) first.ops.states l (i / 4)
unfolding own_data
own_first l i first f a m =
    let w : first.place % 4 ≡ 0 = (counted_behind (readings l) first.place first.ops f.counts).whole in
    let up : first.place + 4 * ((i - first.place) / 4) ≡ i = omega (arith, w, a, m) in
    let own : List (List ℤ) = segments_since (first.place / 4) first.ops.states l (i / 4) in
    ap (λ n. own_by l i (orders (readings l) n)) (sym up)
    ∙ is_own l i own (orders (readings l) (first.place + 4 * ((i - first.place) / 4)))
    (first_stays l i first.place ((i - first.place) / 4) own w (grind (arith, first_here)))

-- ---- the latest order

-- the latest of these orders stands at p or behind it
abbrev pub IsNotBefore : ℕ → List Order → Type 0
IsNotBefore p [] = ⊥
IsNotBefore p (order ∷ older) = p ≤ order.place

later_next : (p k : ℕ) (o : Option Ops) (rest : List Order) → p ≤ k → IsNotBefore p rest
    → IsNotBefore p (cons_option (placed k o) rest)
later_next p k None rest l h = h
later_next p k (Some ops) rest l h = l

later_on : (l : List (List ℕ)) (p c : ℕ) → p % 4 ≡ 0 → IsNotBefore p (orders (readings l) p)
    → IsNotBefore p (orders (readings l) (p + 4 * c))
later_on l p zero w h = let e : p ≡ p + 4 * 0 = omega arith in subst (λ n. IsNotBefore p (orders (readings l) n)) e h
later_on l p (suc c) w h =
    let k : ℕ = p + 4 * suc c in
    subst (IsNotBefore p) (sym (force_more (readings l) k (omega (arith, w)) (omega arith)))
    (later_next p k (counting_order (readings l) k) (orders (readings l) (k - 4)) (omega arith)
    (subst (λ n. IsNotBefore p (orders (readings l) n)) (omega arith) (later_on l p c w h)))

-- behind an order the latest one is that or a later one
pub later : (l : List (List ℕ)) (p i : ℕ) (ops : Ops) → counting_order (readings l) p ≡ Some ops → p ≤ i → i % 4 ≡ 0
    → IsNotBefore p (orders (readings l) i)
later l p i ops e m a =
    let w : p % 4 ≡ 0 = (counted_behind (readings l) p ops e).whole in
    let up : p + 4 * ((i - p) / 4) ≡ i = omega (arith, w, a, m) in
    let same : p ≤ p = omega arith in
    subst (λ n. IsNotBefore p (orders (readings l) n)) up (later_on l p ((i - p) / 4) w (grind (arith, here)))
