-- The orders so far, over one packet more.
use Rattle.std.proofs.Common.{◌≡◌, ◌≢◌, ℕ, zero, suc, ◌+◌, ◌-◌, ◌%◌, ◌<◌, ◌≤◌, Option, Some, None, List, [], ◌∷◌, ◌++◌}
use Rattle.std.proofs.Common.{length, refl, ap, ap₂, subst, ◌∙◌, arith}
use Rattle.std.specs.List.{cons_option}
use Rattle.std.proofs.lemmas.Bool.{cond-false, eqb-true, ne_eqb, and_left, and_right, and_parts, lt-leb, leb-true}
use Rattle.std.proofs.lemmas.List.{get_or_append_left}
use Rattle.dtx_ops.specs.declared.fields.Ops.{Ops}
use Rattle.dtx_exciter.specs.Order.{Order, latest_first, order_at, counting_order, placed, orders}

-- ---- the values, the latest first

latest_same : {A : Type 0} (f g : ℕ → Option A) (n : ℕ) → ((k : ℕ) → k < n → f k ≡ g k)
    → latest_first f n ≡ latest_first g n
latest_same f g zero h = refl
latest_same f g (suc n) h = ap₂ cons_option (h n (omega arith)) (latest_same f g n (λ k l. h k (omega arith)))

pub latest_more : {A : Type 0} (f : ℕ → Option A) (n : ℕ)
    → latest_first f (n + 1) ≡ cons_option (f n) (latest_first f n)
latest_more f n = let e : n + 1 ≡ suc n = omega arith in ap (latest_first f) e

latest_skip : {A : Type 0} (f : ℕ → Option A) (n m : ℕ) → m ≡ n + 1 → f n ≡ None → latest_first f m ≡ latest_first f n
latest_skip f n m e h = ap (latest_first f) e ∙ latest_more f n ∙ ap (λ o. cons_option o (latest_first f n)) h

-- ---- what is ordered stays where a packet is added

pub force_left : (l rest : List (Option Ops)) (i : ℕ) → i + 4 ≤ length l → orders (l ++ rest) i ≡ orders l i
unfolding orders counting_order order_at
force_left l rest i h = grind (arith, latest_same, get_or_append_left)

-- ---- a group further

pub counted_off : (l : List (Option Ops)) (g : ℕ) → g % 4 ≢ 0 → counting_order l g ≡ None
unfolding counting_order
counted_off l g h = grind (arith, cond-false, and_right, ne_eqb)

pub counted_early : (l : List (Option Ops)) (g : ℕ) → g < 52 → counting_order l g ≡ None
unfolding counting_order
counted_early l g h = grind (arith, cond-false, and_left, lt-leb)

pub force_more : (l : List (Option Ops)) (i : ℕ) → i % 4 ≡ 0 → 4 ≤ i
    → orders l i ≡ cons_option (placed i (counting_order l i)) (orders l (i - 4))
unfolding orders
force_more l i h m =
    latest_more f i ∙ ap (cons_option (f i)) (latest_skip f (i - 1) i (omega arith) (off (i - 1) (omega arith))
    ∙ latest_skip f (i - 2) (i - 1) (omega arith) (off (i - 2) (omega arith))
    ∙ latest_skip f (i - 3) (i - 2) (omega arith) (off (i - 3) (omega arith)) ∙ ap (latest_first f) (omega arith))
  where
    f : ℕ → Option Order
    f g = placed g (counting_order l g)

    off : (g : ℕ) → g % 4 ≢ 0 → f g ≡ None
    off g n = ap (placed g) (counted_off l g n)

-- one number further
pub force_next : (l : List (Option Ops)) (i k : ℕ) → k ≡ i + 1
    → orders l k ≡ cons_option (placed k (counting_order l k)) (orders l i)
unfolding orders
force_next l i k e = grind (arith, latest_more)

pub force_first : (l : List (Option Ops)) → orders l 0 ≡ []
unfolding orders
force_first l = ap (λ o. cons_option (placed 0 o) []) (counted_early l 0 (omega arith))

-- ---- where the order in force stands

-- its group begins below n, and counts
pub record Stands (l : List (Option Ops)) (n : ℕ) (order : Order) : Type 0 where
  pub below : order.place < n
  pub counts : counting_order l order.place ≡ Some order.ops

stands_here : (l : List (Option Ops)) (g : ℕ) (o : Option Ops) (r : List Order) (order : Order) (older : List Order)
    → counting_order l g ≡ o
    → cons_option (placed g o) r ≡ order ∷ older → (r ≡ order ∷ older → Stands l g order) → Stands l (g + 1) order
stands_here l g None r order older e h f = grind arith
stands_here l g (Some ops) r order older e h f = grind arith

latest_stands : (l : List (Option Ops)) (n : ℕ) (order : Order) (older : List Order)
    → latest_first (λ g. placed g (counting_order l g)) n ≡ order ∷ older → Stands l n order
latest_stands l zero order older e = absurd (omega (arith, ap (λ (x : List Order). length x) e))
latest_stands l (suc n) order older e =
    subst (λ (k : ℕ). Stands l k order) (omega arith) (stands_here l n (counting_order l n)
    (latest_first (λ g. placed g (counting_order l g)) n) order older refl e (latest_stands l n order older))

pub force_stands : (l : List (Option Ops)) (i : ℕ) (order : Order) (older : List Order) → orders l i ≡ order ∷ older
    → Stands l (i + 1) order
unfolding orders
force_stands l i order older e = latest_stands l (i + 1) order older e

pub record IsBehind (g : ℕ) : Type 0 where
  pub flushed : 52 ≤ g
  pub whole : g % 4 ≡ 0

pub counted_behind : (l : List (Option Ops)) (g : ℕ) (ops : Ops) → counting_order l g ≡ Some ops → IsBehind g
unfolding counting_order
counted_behind l g ops h = grind (arith, and_parts, cond-false, leb-true, eqb-true)
