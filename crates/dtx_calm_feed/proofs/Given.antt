-- What an exciter gives that is locked to a mark of a feed, or was locked before it: nothing, or the feed's segments.
use Rattle.std.proofs.Common.{◌≡◌, ◌⊎◌, inl, inr, ℕ, ℤ, ◌+◌, ◌-◌, ◌/◌, ◌%◌, ◌<◌, ◌≤◌, ◌==◌, Bool, true, false, Some}
use Rattle.std.proofs.Common.{List, [], ◌∷◌, ◌++◌, length, drop, refl, sym, ap, ap₂, subst, ◌∙◌, arith, is_ok}
use Rattle.std.proofs.Common.{slice_range, eqb-true, leb-true, length-drop, length-take-le, le-leb, length-append}
use Rattle.std.proofs.lemmas.Bool.{cases_lt, cond-false, cond-true}
use Rattle.dtx_exciter.specs.Emission.{segments_since, sent_by, sent_at, sent_before, behind_field_sync, given_under}
use Rattle.dtx_exciter.specs.Emission.{last_segments}
use Rattle.dtx_exciter.proofs.ForceLemmas.{IsBehind, Stands, counted_behind, force_first, force_stands}
use Rattle.dtx_exciter.proofs.InLifeLemmas.{counted_same}
use Rattle.dtx_exciter.specs.Order.{Order, counting_order, orders}
use Rattle.dtx_exciter.specs.Packets.{readings, under}
use Rattle.dtx_exciter.specs.Told.{served}
use Rattle.dtx_calm_feed.specs.Own.{own_data, own_segments, IsLockedTo}
use Rattle.dtx_calm_feed.proofs.Since.{segments_part, segments_held}
use Rattle.dtx_calm_feed.proofs.Orders.{NeverSlips, own_since, IsNotBefore, later}
use Rattle.dtx_ops.specs.declared.fields.Ops.{Ops}

-- ---- where it is locked to the mark

-- whole groups of a feed's packets l, from its mark x to n
pub record IsWhole (l : List (List ℕ)) (x n : ℕ) : Type 0 where
  pub at_mark : x % 624 ≡ 0
  pub inside : n ≤ length l
  pub whole : (n - x) % 4 ≡ 0

-- an order of the life is one of the feed
order_is : (l : List (List ℕ)) (x n j : ℕ) (order : Order) (older : List Order) → IsWhole l x n → x + j + 4 ≤ n
    → orders (readings (slice_range l x n)) j ≡ order ∷ older
    → counting_order (readings l) (x + order.place) ≡ Some order.ops
order_is l x n j order older p h e =
    let s : Stands (readings (slice_range l x n)) (j + 1) order = grind (arith, force_stands) in
    let b : IsBehind order.place = counted_behind (readings (slice_range l x n)) order.place order.ops s.counts in
    let below = s.below in
    let inside = p.inside in
    let none : 0 + order.place ≡ order.place = omega arith in
    sym (counted_same [] l x (n - x) order.place p.at_mark (omega arith) (omega (arith, inside, h))
    (omega (arith, below, h)) b.flushed) ∙ ap (counting_order (readings (slice_range l x n))) none ∙ s.counts

-- what is sent of the group j packets behind the mark
abbrev pub IsNoneOr : List (List ℤ) → List (List ℤ) → Type 0
IsNoneOr own given = (given ≡ []) ⊎ (given ≡ own)

sent_own : (a d : ℕ) (l : List (List ℕ)) (x n j : ℕ) → NeverSlips l → IsWhole l x n → j % 4 ≡ 0 → x + j + 4 ≤ n
    → IsNoneOr (own_data l (x + j)) (sent_at a d (slice_range l x n) j)
unfolding sent_at
sent_own a d l x n j r p w h =
    grind (arith, cond-false, force_stands, counted_behind, cond-true, segments_part, later, own_since, order_is)

-- ---- behind a field sync

-- at another place of the same kind
pub sync_place : (i k : ℕ) (before own : List (List ℤ)) → i % 624 ≡ k % 624
    → behind_field_sync i before own ≡ behind_field_sync k before own
sync_place i k before [] e = refl
sync_place i k [] (s ∷ ss) e = refl
sync_place i k (b ∷ bs) (s ∷ ss) e = grind arith

-- nothing, or the feed's own segments of the group that ends at packet n
abbrev pub GivesOwn : List (List ℕ) → ℕ → List (List ℤ) → Type 0
GivesOwn l n given = (given ≡ []) ⊎ ((goes_on : Bool) × (given ≡ own_segments goes_on l (n - 4)))

pub given_by : (l : List (List ℕ)) (i : ℕ) (before own : List (List ℤ)) → IsNoneOr (own_data l (i - 4)) before
    → IsNoneOr (own_data l i) own → (behind_field_sync i before own ≡ [])
    ⊎ ((goes_on : Bool) × (behind_field_sync i before own ≡ own_segments goes_on l i))
unfolding own_segments
given_by l i before own b (inl e) = inl (ap (behind_field_sync i before) e)
given_by l i before own (inl f) (inr e) = inr (false, ap₂ (behind_field_sync i) f e)
given_by l i before own (inr f) (inr e) = inr (true, ap₂ (behind_field_sync i) f e)

before_own : (a d : ℕ) (l : List (List ℕ)) (x n j : ℕ) → NeverSlips l → IsWhole l x n → j % 4 ≡ 0 → x + j + 4 ≤ n
    → IsNoneOr (own_data l (x + j - 4)) (sent_before a d (slice_range l x n) j)
before_own a d l x n j r p w h = grind (arith, leb-true, sent_own)

group_given : (a d : ℕ) (l : List (List ℕ)) (x n : ℕ) → NeverSlips l → IsWhole l x n → x + 4 ≤ n
    → GivesOwn l n (behind_field_sync (n - x - 4) (sent_before a d (slice_range l x n) (n - x - 4))
    (sent_at a d (slice_range l x n) (n - x - 4)))
group_given a d l x n r p h =
    let w = p.whole in
    let m = p.at_mark in
    let at : x + (n - x - 4) ≡ n - 4 = omega (arith, h) in
    let same : (n - x - 4) % 624 ≡ (n - 4) % 624 = omega (arith, m, h) in
    let before : List (List ℤ) = sent_before a d (slice_range l x n) (n - x - 4) in
    let own : List (List ℤ) = sent_at a d (slice_range l x n) (n - x - 4) in
    subst (GivesOwn l n) (sym (sync_place (n - x - 4) (n - 4) before own same))
    (grind (arith, given_by, before_own, sent_own))

pub gives_own : (a d : ℕ) (l life : List (List ℕ)) (x n : ℕ) → NeverSlips l → x % 624 ≡ 0 → n ≤ length l
    → under life ≡ Some (slice_range l x n) → GivesOwn l n (last_segments a d life)
unfolding last_segments sent_at
gives_own a d l life x n r m h e =
    subst (λ o. GivesOwn l n (given_under a d o)) (sym e) (by_whole (length t % 4 == 0) refl)
  where
    t : List (List ℕ)
    t = slice_range l x n

    long : length t ≡ n - x
    long = grind (arith, length-drop, length-take-le)

    all : List (List ℤ)
    all = behind_field_sync (length t - 4) (sent_before a d t (length t - 4)) (sent_at a d t (length t - 4))

    by_length : (n - x) % 4 ≡ 0 → (n - x < 4) ⊎ (4 ≤ n - x) → GivesOwn l n all
    by_length w (inl few) = grind (arith, force_first)
    by_length w (inr some) =
        subst (λ k. GivesOwn l n (behind_field_sync (k - 4) (sent_before a d t (k - 4)) (sent_at a d t (k - 4))))
        (sym long) (group_given a d l x n r (record { at_mark = m; inside = h; whole = w }) (omega (arith, some)))

    by_whole : (b : Bool) → (length t % 4 == 0) ≡ b → GivesOwn l n (given_under a d (Some t))
    by_whole false f = inl (cond-false (length t % 4 == 0) all [] f)
    by_whole true f = subst (GivesOwn l n) (sym (cond-true (length t % 4 == 0) all [] f))
        (by_length (omega (arith, long, eqb-true (length t % 4) 0 f)) (cases_lt (n - x) 4))

-- ---- where it was locked before the mark, in step with the feed: from an order of the feed on

-- packets before the mark, in step with it, and an order of the feed k packets behind it
record IsOrdered (base l : List (List ℕ)) (x n k : ℕ) (ops : Ops) : Type 0 where
  pub whole : IsWhole l x n
  pub in_step : length base % 624 ≡ 0
  pub counts : counting_order (readings l) (x + k) ≡ Some ops
  pub flushed : 52 ≤ k

-- what is sent of the group j packets behind the mark
sent_held : (a d : ℕ) (base l : List (List ℕ)) (x n k j : ℕ) (ops : Ops) → NeverSlips l → IsOrdered base l x n k ops
    → k ≤ j → j % 4 ≡ 0 → x + j + 4 ≤ n
    → IsNoneOr (own_data l (x + j)) (sent_at a d (base ++ slice_range l x n) (length base + j))
unfolding sent_at
sent_held a d base l x n k j ops r o b w h = by_orders (orders (readings life) i) refl
    (later life (length base + k) i ops (same k o.flushed (omega (arith, h, b)) ∙ o.counts) (omega (arith, b))
    (omega (arith, s, w)))
  where
    life : List (List ℕ)
    life = base ++ slice_range l x n

    i : ℕ
    i = length base + j

    s : length base % 624 ≡ 0
    s = o.in_step

    m : x % 624 ≡ 0
    m = o.whole.at_mark

    inside : n ≤ length l
    inside = o.whole.inside

    same : (y : ℕ) → 52 ≤ y → x + y + 4 ≤ n
        → counting_order (readings life) (length base + y) ≡ counting_order (readings l) (x + y)
    same y f g = counted_same base l x (n - x) y m s (omega (arith, inside, g)) (omega (arith, g)) f

    by_service : (order : Order) (older : List Order) (t : Bool) → orders (readings life) i ≡ order ∷ older
        → length base + k ≤ order.place → is_ok (served a d (order ∷ older)) ≡ t
        → IsNoneOr (own_data l (x + j)) (sent_by a d life i (order ∷ older))
    by_service order older false e f g = inl (cond-false (is_ok (served a d (order ∷ older)))
        (segments_since (order.place / 4) order.ops.states life (i / 4)) [] g)
    by_service order older true e f g =
        let st : Stands (readings life) (i + 1) order = force_stands (readings life) i order older e in
        let behind : IsBehind order.place = counted_behind (readings life) order.place order.ops st.counts in
        let below = st.below in
        let four = behind.whole in
        let far = o.flushed in
        let y : ℕ = order.place - length base in
        let at : length base + y ≡ order.place = omega (arith, f) in
        let flushed : 52 ≤ y = omega (arith, f, far) in
        let counts : counting_order (readings l) (x + y) ≡ Some order.ops =
        sym (same y flushed (omega (arith, at, below, h))) ∙ ap (counting_order (readings life)) at ∙ st.counts in
        inr (cond-true (is_ok (served a d (order ∷ older)))
        (segments_since (order.place / 4) order.ops.states life (i / 4)) [] g
        ∙ ap (λ p. segments_since (p / 4) order.ops.states life (i / 4)) (sym at)
        ∙ segments_held base l x n y j order.ops.states s (grind (arith, m, inside, s, later))
        ∙ sym (own_since l (x + y) (x + j) order.ops r counts (omega (arith, at, below)) (omega (arith, m, w))
        (omega (arith, inside, h))))

    by_orders : (os : List Order) → orders (readings life) i ≡ os → IsNotBefore (length base + k) os
        → IsNoneOr (own_data l (x + j)) (sent_by a d life i os)
    by_orders [] e f = absurd f
    by_orders (order ∷ older) e f = by_service order older (is_ok (served a d (order ∷ older))) e f refl

group_held : (a d : ℕ) (base l : List (List ℕ)) (x n k j : ℕ) (ops : Ops) → NeverSlips l → IsOrdered base l x n k ops
    → k + 4 ≤ j → x + j + 4 ≡ n → GivesOwn l n (behind_field_sync (length base + j)
    (sent_before a d (base ++ slice_range l x n) (length base + j))
    (sent_at a d (base ++ slice_range l x n) (length base + j)))
group_held a d base l x n k j ops r o b e =
    let life : List (List ℕ) = base ++ slice_range l x n in
    let w = o.whole.whole in
    let m = o.whole.at_mark in
    let s = o.in_step in
    let at : x + j ≡ n - 4 = omega (arith, e) in
    let back : x + (j - 4) ≡ n - 4 - 4 = omega (arith, e, b) in
    let down : length base + (j - 4) ≡ length base + j - 4 = omega (arith, b) in
    let same : (length base + j) % 624 ≡ (n - 4) % 624 = omega (arith, m, s, e) in
    let front : List (List ℤ) = sent_before a d life (length base + j) in
    let own : List (List ℤ) = sent_at a d life (length base + j) in
    let earlier : IsNoneOr (own_data l (n - 4 - 4)) (sent_at a d life (length base + j - 4)) =
    subst (λ i. IsNoneOr (own_data l (n - 4 - 4)) (sent_at a d life i)) down
    (subst (λ i. IsNoneOr (own_data l i) (sent_at a d life (length base + (j - 4)))) back
    (sent_held a d base l x n k (j - 4) ops r o (omega (arith, b)) (omega (arith, w, e, b)) (omega (arith, e, b)))) in
    subst (GivesOwn l n) (sym (sync_place (length base + j) (n - 4) front own same)) (given_by l (n - 4) front own
    (grind (arith, cond-true, le-leb)) (subst (λ i. IsNoneOr (own_data l i) own) at
    (sent_held a d base l x n k j ops r o (omega (arith, b)) (omega (arith, w, e)) (omega (arith, e)))))

gives_held : (a d : ℕ) (base l life : List (List ℕ)) (x n k : ℕ) (ops : Ops) → NeverSlips l → x % 624 ≡ 0
    → n ≤ length l → length base % 624 ≡ 0 → counting_order (readings l) (x + k) ≡ Some ops → 52 ≤ k → x + k + 8 ≤ n
    → under life ≡ Some (base ++ slice_range l x n) → GivesOwn l n (last_segments a d life)
unfolding last_segments
gives_held a d base l life x n k ops r m h s c f b e =
    subst (λ o. GivesOwn l n (given_under a d o)) (sym e) (by_whole (length t % 4 == 0) refl)
  where
    t : List (List ℕ)
    t = base ++ slice_range l x n

    long : length t ≡ length base + (n - x)
    long = length-append base (slice_range l x n)
        ∙ ap (λ i. length base + i) (length-take-le (n - x) (drop x l) (omega (arith, h, length-drop x l)))

    all : List (List ℤ)
    all = behind_field_sync (length t - 4) (sent_before a d t (length t - 4)) (sent_at a d t (length t - 4))

    by_whole : (z : Bool) → (length t % 4 == 0) ≡ z → GivesOwn l n (given_under a d (Some t))
    by_whole false g = inl (cond-false (length t % 4 == 0) all [] g)
    by_whole true g =
        let four : length t % 4 ≡ 0 = eqb-true (length t % 4) 0 g in
        let at : length base + (n - x - 4) ≡ length t - 4 = omega (arith, long, b) in
        subst (GivesOwn l n) (sym (cond-true (length t % 4 == 0) all [] g))
        (subst (λ i. GivesOwn l n (behind_field_sync i (sent_before a d t i) (sent_at a d t i))) at
        (group_held a d base l x n k (n - x - 4) ops r (grind (arith, long)) (omega (arith, b)) (omega (arith, b))))

pub locked_gives : (a d : ℕ) (feed life : List (List ℕ)) (n : ℕ) → NeverSlips feed → IsLockedTo feed life n
    → GivesOwn feed n (last_segments a d life)
locked_gives a d feed life n r o = elim o.ordered [
  | inl e ↦ gives_own a d feed life o.mark n r o.at_mark o.inside
      (o.given ∙ ap (λ base. Some (base ++ slice_range feed o.mark n)) e)
  | inr (k, ops, c, f, b) ↦
      let at : o.mark + (k - o.mark) ≡ k = omega (arith, f) in
      gives_held a d o.before feed life o.mark n (k - o.mark) ops r o.at_mark o.inside o.in_step
      (ap (counting_order (readings feed)) at ∙ c) (omega (arith, f)) (omega (arith, f, b)) o.given
]
