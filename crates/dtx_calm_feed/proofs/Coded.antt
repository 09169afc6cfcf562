-- A feed whose first order tells the states that the coders of a stream have there.
use Rattle.std.proofs.Common.{◌≡◌, ◌⊎◌, inl, inr, ℕ, zero, suc, ◌+◌, ◌-◌, ◌*◌, ◌/◌, ◌%◌, ◌<◌, ◌≤◌, Option, Some, None}
use Rattle.std.proofs.Common.{List, [], ◌∷◌, ◌++◌, length, take, drop, refl, sym, ap, ap₂, subst, ◌∙◌, arith}
use Rattle.std.specs.List.{cons_option}
use Rattle.std.proofs.lemmas.Bool.{cases_lt}
use Rattle.std.proofs.lemmas.List.{length-append, length-drop, length-take-le, take-append-drop, take-take}
use Rattle.dtx_coder.specs.Along.{levels_since, states_since}
use Rattle.dtx_coder.proofs.LevelsLemmas.{length-levels, levels_more}
use Rattle.dtx_coder.proofs.SegmentsLemmas.{four_front}
use Rattle.dtx_coder.specs.Stream.{four_segments, levels, states}
use Rattle.dtx_ops.specs.declared.fields.Ops.{Ops}
use Rattle.dtx_exciter.specs.Emission.{segments_since}
use Rattle.dtx_exciter.proofs.ForceLemmas.{IsBehind, counted_behind, force_more, force_stands}
use Rattle.dtx_exciter.specs.Order.{Order, counting_order, orders, placed}
use Rattle.dtx_exciter.specs.Packets.{readings}
use Rattle.dtx_exciter.proofs.SinceMarkLemmas.{AreSame, data_same, states_from_group, states_mark, take_parts}
use Rattle.dtx_calm_feed.specs.Own.{IsFirstOrder, own_data}
use Rattle.dtx_calm_feed.proofs.Orders.{NeverSlips, first_here, here, own_first}
use Rattle.dtx_calm_feed.proofs.Since.{segments_front}

-- ---- the states

-- an order at packet x of the feed, m packets behind the start of the stream f, and a group at k
states_right : (f : List (List ℕ)) (m x k : ℕ) (q : List ℕ) → m % 624 ≡ 0 → m + k ≤ length f → k % 4 ≡ 0 → 52 ≤ x
    → x % 4 ≡ 0 → x ≤ k → q ≡ states (take (m + x) f)
    → states (take (m + k) f) ≡ states_since (x / 4) q (take k (drop m f))
states_right f m x k q z h w l y b e =
    let g : ℕ = (m + x) / 4 in
    let a : List (List ℕ) = take m f in
    let s : List (List ℕ) = take k (drop m f) in
    let la : length a ≡ m = length-take-le m f (omega (arith, h)) in
    let ls : length s ≡ k = length-take-le k (drop m f) (omega (arith, h, length-drop m f)) in
    let at : 4 * g ≡ m + x = omega (arith, z, y) in
    let all : take (m + k) f ≡ a ++ s = take_parts m k f in
    let own : q ≡ states (take (4 * g) (a ++ s)) = grind (arith, take-take) in
    ap states all ∙ states_from_group (a ++ s) g (omega (arith, at, b, la, ls, length-append a s))
    ∙ ap (λ p. states_since g p (a ++ s)) (sym own)
    ∙ states_mark a s x g q (omega (arith, la, z)) (omega (arith, ls, w)) l y (omega (arith, at, la))

-- the latest of these orders tells the states that the stream's coders have
abbrev IsCoded : List (List ℕ) → ℕ → List Order → Type 0
IsCoded f m [] = ⊥
IsCoded f m (order ∷ older) = order.ops.states ≡ states (take (m + order.place) f)

coded_next : (f : List (List ℕ)) (m k : ℕ) (o : Option Ops) (rest : List Order) → NeverSlips (drop m f) → m % 624 ≡ 0
    → k % 4 ≡ 0 → 4 ≤ k → m + k + 4 ≤ length f → counting_order (readings (drop m f)) k ≡ o
    → orders (readings (drop m f)) (k - 4) ≡ rest → IsCoded f m rest → IsCoded f m (cons_option (placed k o) rest)
coded_next f m k None rest r z w a h e g c = c
coded_next f m k (Some ops) [] r z w a h e g c = absurd c
coded_next f m k (Some ops) (order ∷ older) r z w a h e g c =
    grind (arith, force_stands, counted_behind, length-drop, states_right)

coded_on : (f : List (List ℕ)) (m p c : ℕ) → NeverSlips (drop m f) → m % 624 ≡ 0 → p % 4 ≡ 0
    → m + (p + 4 * c) + 4 ≤ length f → IsCoded f m (orders (readings (drop m f)) p)
    → IsCoded f m (orders (readings (drop m f)) (p + 4 * c))
coded_on f m p zero r z w h d = grind arith
coded_on f m p (suc c) r z w h d =
    let k : ℕ = p + 4 * suc c in
    let less : p + 4 * c ≡ p + 4 * suc c - 4 = omega arith in
    subst (IsCoded f m) (sym (force_more (readings (drop m f)) k (omega (arith, w)) (omega arith)))
    (coded_next f m k (counting_order (readings (drop m f)) k) (orders (readings (drop m f)) (k - 4)) r z
    (omega (arith, w)) (omega arith) h refl refl
    (subst (λ n. IsCoded f m (orders (readings (drop m f)) n)) less (coded_on f m p c r z w (omega (arith, h)) d)))

pub coded_states : (f : List (List ℕ)) (m g : ℕ) (first : Order) (ops : Ops) → NeverSlips (drop m f) → m % 624 ≡ 0
    → IsFirstOrder (drop m f) first → first.ops.states ≡ states (take (m + first.place) f)
    → counting_order (readings (drop m f)) g ≡ Some ops → m + g + 4 ≤ length f → ops.states ≡ states (take (m + g) f)
coded_states f m g first ops r z i e h l = by_place (cases_lt g first.place)
  where
    none_some : ◌≡◌ {A = Option Ops} None (Some ops) → ⊥
    none_some q = cc

    by_place : (g < first.place) ⊎ (first.place ≤ g) → ops.states ≡ states (take (m + g) f)
    by_place (inl k) = absurd (none_some (sym (i.first g k) ∙ h))
    by_place (inr k) =
        let a : first.place % 4 ≡ 0 = (counted_behind (readings (drop m f)) first.place first.ops i.counts).whole in
        let b : g % 4 ≡ 0 = (counted_behind (readings (drop m f)) g ops h).whole in
        let up : first.place + 4 * ((g - first.place) / 4) ≡ g = omega (arith, a, b, k) in
        subst (IsCoded f m) (here (drop m f) g ops h) (grind (arith, coded_on, first_here))

-- ---- the data segments

levels_front : (f : List (List ℕ)) (n k : ℕ) → n % 4 ≡ 0 → n ≤ length f → k + 4 ≤ n
    → four_segments (levels (take n f)) k ≡ four_segments (levels f) k
levels_front f n k w h l =
    let long : length (take n f) ≡ n = length-take-le n f h in
    sym (ap (λ ps. four_segments (levels ps) k) (sym (take-append-drop n f))
    ∙ ap (λ zs. four_segments zs k) (levels_more (take n f) (drop n f) (n / 4) (omega (arith, long, w)))
    ∙ four_front (levels (take n f)) _ k (omega (arith, w, l, long, length-levels (take n f))))

pub coded_segments : (f : List (List ℕ)) (m i : ℕ) (first : Order) → m % 624 ≡ 0 → IsFirstOrder (drop m f) first
    → first.ops.states ≡ states (take (m + first.place) f) → i % 4 ≡ 0 → first.place ≤ i → m + i + 4 ≤ length f
    → own_data (drop m f) i ≡ four_segments (levels f) (m + i)
unfolding segments_since
coded_segments f m i first z o e w k h =
    let l : List (List ℕ) = drop m f in
    let y : ℕ = first.place in
    let q : List ℕ = first.ops.states in
    let b : List (List ℕ) = take m f in
    let t : List (List ℕ) = take (i + 4) l in
    let behind : IsBehind y = counted_behind (readings l) y first.ops o.counts in
    let lb : length b ≡ m = length-take-le m f (omega (arith, h)) in
    let lt : length t ≡ i + 4 = length-take-le (i + 4) l (omega (arith, h, length-drop m f)) in
    let zero_y : y / 4 ≡ (0 + y) / 4 = omega arith in
    let zero_i : 4 * (i / 4 - y / 4) ≡ 4 * ((0 + i) / 4 - (0 + y) / 4) = omega arith in
    let same : AreSame [] b t i y = record {
      first = omega arith;
      second = omega (arith, lb, z);
      groups = omega (arith, lt, w);
      flushed = behind.flushed;
      order = behind.whole;
      later = k;
      group = w;
      inside = omega (arith, lt);
    } in
    let own : take (m + y) f ≡ take (length b + y) (b ++ t) = sym (take-take (m + y) (m + (i + 4)) f (omega (arith, k)))
    ∙ ap₂ take (ap (λ n. n + y) (sym lb)) (take_parts m (i + 4) f) in
    own_first l i first o w k ∙ ap (λ ps. segments_since (y / 4) q ps (i / 4)) (sym (take-append-drop (i + 4) l))
    ∙ segments_front t (drop (i + 4) l) (i / 4 + 1) (y / 4) (i / 4) q (omega (arith, lt, w)) (omega (arith, k))
    (omega arith) ∙ ap₂ (λ g n. four_segments (levels_since g q t) n) zero_y zero_i
    ∙ data_same [] b t i y q same (e ∙ ap states own)
    ∙ ap₂ (λ ps n. four_segments (levels ps) n) (sym (take_parts m (i + 4) f)) (ap (λ n. n + i) lb)
    ∙ levels_front f (m + (i + 4)) (m + i) (omega (arith, z, w)) (omega (arith, h)) (omega arith)
