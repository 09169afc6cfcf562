-- The stretch as a slice of the feed's own segments, and its lines.
use Rattle.std.proofs.Common.{◌≡◌, ℕ, ℤ, ◌+◌, ◌-◌, ◌*◌, ◌/◌, ◌≤◌, List, length, take, drop, sym, ap, ◌∙◌, arith, ◌⊎◌}
use Rattle.std.proofs.Common.{inl, inr, zero, suc, ◌%◌, ◌<◌, ◌==◌, ◌&&◌, Bool, true, false, cond, Option, Some, None}
use Rattle.std.proofs.Common.{option_map, ◌∷◌, map, refl, ap₂, eqb-true}
use Rattle.std.specs.List.{range_with_len, flat_map, filter, filter_map, cons_option}
use Rattle.std.proofs.lemmas.List.{length-drop, drop-append-le, take_at}
use Rattle.std.proofs.lemmas.Bool.{cases_Bool, cond-true, cond-false, eqb-false, and_from, and_left, and_right}
use Rattle.dtx_coder.specs.Stream.{group_segments, a53}
use Rattle.dtx_coder.proofs.StreamLemmas.{a53_from}
use Rattle.dtx_exciter.specs.Lockstep.{segment_place, stretch}
use Rattle.dtx_exciter.proofs.EmittedLemmas.{length-front, stretch_whole}
use Rattle.dtx_network.specs.Headline.{stretch_of}
use Rattle.dtx_ops.specs.declared.fields.Ops.{Ops}
use Rattle.dtx_plan.specs.declared.plan.Plan.{Plan}
use Rattle.dtx_adapter.specs.Feed.{feed}
use Rattle.dtx_exciter.specs.Order.{counting_order, placed}
use Rattle.dtx_exciter.specs.Packets.{readings}
use Rattle.dtx_exciter.specs.Log.{Line}
use Rattle.dtx_exciter.specs.Stretch.{preset_line, orders_in, stretch_lines}
use Rattle.dtx_exciter.proofs.ForceLemmas.{counted_off}
use Rattle.dtx_network.specs.Plans.{IsPlan, IsStream}
use Rattle.dtx_network.specs.Orders.{has_order, IsOrder, orders, preset_at, presets}
use Rattle.dtx_network.proofs.Orders.{order_some, order_none, order_says}

-- ---- the stretch as a slice of the feed's own segments

-- behind the last data segment of a group, so many segments stand
behind_last : (u : ℕ) → 1 ≤ u → segment_place (4 * u - 1) + 1 ≡ 4 * u + (u + 77) / 78
behind_last u l = omega arith

before_first : (u k : ℕ) → k + 1 ≤ 4 * u → segment_place k ≤ 4 * u + (u + 77) / 78
before_first u k l = omega arith

pub stretch_is : (feed : List (List ℕ)) (k end : ℕ) → k + 4 ≤ end → end ≤ length feed
    → stretch_of feed k end ≡ stretch feed k end
unfolding stretch_of stretch
stretch_is feed k end l m =
    ap (λ x. take (segment_place (4 * u - 1) + 1 - segment_place k) (drop (segment_place k) x)) (a53_from feed u inside)
    ∙ ap (take (segment_place (4 * u - 1) + 1 - segment_place k)) (drop-append-le (segment_place k) front rest starts)
    ∙ grind (arith, take_at, front, rest, u, ends, stretch_whole, whole)
  where
    u : ℕ
    u = end / 4

    whole : 4 * u ≡ 4 * (end / 4)
    whole = omega arith

    inside : 4 * u ≤ length feed
    inside = omega (arith, m)

    front : List (List ℤ)
    front = a53 (take (4 * u) feed)

    rest : List (List ℤ)
    rest = flat_map (group_segments feed) (range_with_len u (length feed / 4 - u))

    long : length front ≡ 4 * u + (u + 77) / 78
    long = length-front feed u inside

    starts : segment_place k ≤ length front
    starts = let h = before_first u k (omega (arith, l)) in omega (arith, h, long)

    ends : length (drop (segment_place k) front) ≡ segment_place (4 * u - 1) + 1 - segment_place k
    ends = rw (length-drop (segment_place k) front, long, ← behind_last u (omega (arith, l)))

-- ---- one line

line_is : (plan : Plan) (stream : List (List ℕ)) (offset : ℤ) (s k g : ℕ) (ops : Ops) → IsOrder plan stream g ops
    → preset_line offset s k (record { place = g; ops = ops }) ≡ preset_at plan offset s k g
line_is plan stream offset s k g ops o = grind arith

-- the line of a group, where it orders something
line_at : (plan : Plan) (stream : List (List ℕ)) (offset : ℤ) (s k g : ℕ) → IsPlan plan → IsStream stream → 52 ≤ g
    → option_map (preset_line offset s k) (placed g (counting_order (readings (feed plan stream)) g))
    ≡ cond ((g % 4 == 0) && has_order (feed plan stream) g) (Some (preset_at plan offset s k g)) None
line_at plan stream offset s k g p u far = elim (cases_Bool (g % 4 == 0)) [
  | inl e ↦ by_order e (cases_Bool (has_order (feed plan stream) g))
  | inr e ↦ ap (λ (o : Option Ops). option_map (preset_line offset s k) (placed g o))
      (counted_off (readings (feed plan stream)) g (eqb-false (g % 4) 0 e))
      ∙ sym (cond-false test (Some line) None (and_left (g % 4 == 0) (has_order (feed plan stream) g) e))
]
  where
    test : Bool
    test = (g % 4 == 0) && has_order (feed plan stream) g

    line : Line
    line = preset_at plan offset s k g

    by_order : (g % 4 == 0) ≡ true → (has_order (feed plan stream) g ≡ true) ⊎ (has_order (feed plan stream) g ≡ false)
        → option_map (preset_line offset s k) (placed g (counting_order (readings (feed plan stream)) g))
        ≡ cond test (Some line) None
    by_order e (inl h) =
        let order = order_some plan stream g p u far (eqb-true (g % 4) 0 e) h in
        ap (λ (o : Option Ops). option_map (preset_line offset s k) (placed g o)) order.1
        ∙ ap Some (line_is plan stream offset s k g order.0 (order_says plan stream g order.0 p u order.1))
        ∙ sym (cond-true test (Some line) None (and_from (g % 4 == 0) (has_order (feed plan stream) g) e h))
    by_order e (inr h) = grind (arith, order_none, cond-false, and_right)

-- ---- all lines

picked : {X Y : Type 0} (f : X → Y) (o : Option X) (b : Bool) (k : ℕ) (g : ℕ → Y) (xs : List X) (ks : List ℕ)
    → option_map f o ≡ cond b (Some (g k)) None → map f xs ≡ map g ks
    → map f (cons_option o xs) ≡ map g (cond b (k ∷ ks) ks)
picked f None true k g xs ks e r = cc
picked f None false k g xs ks e r = r
picked f (Some x) true k g xs ks e r = let same : f x ≡ g k = cc in ap₂ ◌∷◌ same r
picked f (Some x) false k g xs ks e r = cc

picked_over : {X Y : Type 0} (f : X → Y) (h : ℕ → Option X) (g : ℕ → Y) (test : ℕ → Bool) (a n : ℕ)
    → ((i : ℕ) → a ≤ i → i < a + n → option_map f (h i) ≡ cond (test i) (Some (g i)) None)
    → map f (filter_map h (range_with_len a n)) ≡ map g (filter test (range_with_len a n))
picked_over f h g test a zero e = refl
picked_over f h g test a (suc n) e =
    picked f (h a) (test a) a g (filter_map h (range_with_len (a + 1) n)) (filter test (range_with_len (a + 1) n))
    (e a (omega arith) (omega arith)) (picked_over f h g test (a + 1) n (λ i l m. e i (omega arith) (omega arith)))

pub lines_are : (plan : Plan) (stream : List (List ℕ)) (offset : ℤ) (s k end : ℕ) → IsPlan plan → IsStream stream
    → 52 ≤ k → stretch_lines offset s (feed plan stream) k end ≡ presets plan offset s (feed plan stream) k end
unfolding stretch_lines orders_in presets orders
lines_are plan stream offset s k end p u far = grind (arith, picked_over, line_at)
