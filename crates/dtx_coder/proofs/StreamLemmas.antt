-- The segments of a longer stream: those of its first groups, and then those of the groups behind.
use Rattle.std.proofs.Common.{◌≡◌, ℕ, ◌+◌, ◌-◌, ◌*◌, ◌/◌, ◌%◌, ◌<◌, ◌≤◌, ◌⊎◌, ◌==◌, nat_le, cond, inl, inr, List, []}
use Rattle.std.proofs.Common.{◌∷◌, ◌++◌, length, take, drop, sym, ap, ap₂, subst, ◌∙◌, arith, zero-add}
use Rattle.std.specs.List.{range_with_len, flat_map}
use Rattle.std.proofs.lemmas.Bool.{cases_lt, cond-true, eq-eqb}
use Rattle.std.proofs.lemmas.List.{append-nil, length-append, length-drop, length-take-le, take-append-drop}
use Rattle.std.proofs.lemmas.Grind.{flat_map-append}
use Rattle.dtx_lists.proofs.Range.{range_with_len-parts}
use Rattle.dtx_lists.proofs.RangeMoved.{flat_map-range_same}
use Rattle.dtx_frame.specs.Segments.{field_sync}
use Rattle.dtx_trellis.specs.Trellis.{group_place}
use Rattle.dtx_trellis.specs.Groups.{levels_of, states_after}
use Rattle.dtx_trellis.proofs.JoinsLemmas.{levels_append}
use Rattle.dtx_coder.specs.Stream.{whole_groups, levels, states, segment, four_segments, last_of, no_last, last_before}
use Rattle.dtx_coder.specs.Stream.{sync_before, group_segments, a53}
use Rattle.dtx_coder.proofs.BytesLemmas.{length-whole}
use Rattle.dtx_coder.proofs.LevelsLemmas.{levels_behind, length-levels, length-levels_of, levels_from, levels_more}
use Rattle.dtx_coder.proofs.SegmentsLemmas.{segment_front, four_back, four_front}

pub last_front : (ps qs : List (List ℕ)) (u v : ℕ) → length ps ≡ 4 * u → v ≤ u
    → last_before (ps ++ qs) v ≡ last_before ps v
unfolding last_before
last_front ps qs u v e l = by_cases (cases_lt 0 v)
  where
    by_cases : (0 < v) ⊎ (v ≤ 0) → cond (v == 0) no_last (last_of (segment (levels (ps ++ qs)) (4 * v - 1)))
        ≡ cond (v == 0) no_last (last_of (segment (levels ps) (4 * v - 1)))
    by_cases (inl p) = ap (λ s. cond (v == 0) no_last (last_of s))
        (ap (λ zs. segment zs (4 * v - 1)) (levels_more ps qs u e)
        ∙ segment_front (levels ps) (levels_behind ps u (drop (828 * u) (whole_groups (ps ++ qs)))) (4 * v - 1)
        (omega (arith, l, p, length-levels ps, e)))
    by_cases (inr z) = grind (arith, eq-eqb, cond-true)

pub sync_front : (ps qs : List (List ℕ)) (u v : ℕ) → length ps ≡ 4 * u → v ≤ u
    → sync_before (ps ++ qs) v ≡ sync_before ps v
unfolding sync_before
sync_front ps qs u v e l =
    ap (λ last. cond (4 * v % 312 == 0) (field_sync (nat_le 312 (4 * v % 624)) last ∷ []) []) (last_front ps qs u v e l)

group_front : (ps qs : List (List ℕ)) (u v : ℕ) → length ps ≡ 4 * u → v < u
    → group_segments (ps ++ qs) v ≡ group_segments ps v
unfolding group_segments
group_front ps qs u v e l = ap₂ ◌++◌ (sync_front ps qs u v e (omega arith))
    (ap (λ zs. four_segments zs (4 * v)) (levels_more ps qs u e)
    ∙ four_front (levels ps) (levels_behind ps u (drop (828 * u) (whole_groups (ps ++ qs)))) (4 * v)
    (omega (arith, l, length-levels ps, e)))

pub a53_append : (ps qs : List (List ℕ)) (u : ℕ) → length ps ≡ 4 * u
    → a53 (ps ++ qs) ≡ a53 ps ++ flat_map (group_segments (ps ++ qs)) (range_with_len u (length qs / 4))
unfolding a53
a53_append ps qs u e =
    let all : length (ps ++ qs) / 4 ≡ u + length qs / 4 = omega (arith, e, length-append ps qs) in
    let whole : length ps / 4 ≡ u = omega (arith, e) in
    ap (λ n. flat_map (group_segments (ps ++ qs)) (range_with_len 0 n)) all
    ∙ ap (flat_map (group_segments (ps ++ qs))) (range_with_len-parts 0 u (length qs / 4))
    ∙ flat_map-append (group_segments (ps ++ qs)) (range_with_len 0 u) (range_with_len (0 + u) (length qs / 4))
    ∙ ap₂ ◌++◌ (flat_map-range_same (group_segments (ps ++ qs)) (group_segments ps) 0 u
    (λ v k l. group_front ps qs u v e (omega arith))
    ∙ ap (λ n. flat_map (group_segments ps) (range_with_len 0 n)) (sym whole))
    (ap (λ a. flat_map (group_segments (ps ++ qs)) (range_with_len a (length qs / 4))) (zero-add u))

pub a53_from : (packets : List (List ℕ)) (u : ℕ) → 4 * u ≤ length packets
    → a53 packets ≡ a53 (take (4 * u) packets) ++ flat_map (group_segments packets)
    (range_with_len u (length packets / 4 - u))
a53_from packets u l = subst (λ (all : List (List ℕ)). a53 all ≡ a53 (take (4 * u) packets)
    ++ flat_map (group_segments all) (range_with_len u (length (drop (4 * u) packets) / 4)))
    (take-append-drop (4 * u) packets)
    (a53_append (take (4 * u) packets) (drop (4 * u) packets) u (length-take-le (4 * u) packets l))
    ∙ ap (λ n. a53 (take (4 * u) packets) ++ flat_map (group_segments packets) (range_with_len u n)) (count packets u l)
  where
    count : (packets : List (List ℕ)) (u : ℕ) → 4 * u ≤ length packets
        → length (drop (4 * u) packets) / 4 ≡ length packets / 4 - u
    count packets u l = omega (arith, l, length-drop (4 * u) packets)

pub a53_whole : (packets : List (List ℕ)) → a53 packets ≡ a53 (take (4 * (length packets / 4)) packets)
a53_whole packets =
    let u : ℕ = length packets / 4 in
    a53_from packets u (omega arith) ∙ grind (arith, none, append-nil)
  where
    none : (n : ℕ) → n - n ≡ 0
    none n = omega arith

-- a group's segments from the states before it
pub four_from : (packets : List (List ℕ)) (u : ℕ) → 4 * u + 4 ≤ length packets → four_segments (levels packets) (4 * u)
    ≡ four_segments (levels_of (4 * u % 312) (states (take (4 * u) packets))
    (take (828 * u + 828 - 828 * u) (drop (828 * u) (whole_groups packets)))) 0
four_from packets u l =
    let front : List (List ℕ) = take (4 * u) packets in
    let rest : List ℕ = drop (828 * u) (whole_groups packets) in
    let long : length front ≡ 4 * u = length-take-le (4 * u) packets (omega (arith, l)) in
    let own : length (take 828 rest) ≡ 828 * 1 = length-take-le 828 rest (grind (arith, length-whole, length-drop)) in
    ap (λ zs. four_segments zs (4 * u)) (levels_from packets u (omega (arith, l)))
    ∙ four_back (levels front) (levels_behind front u rest) (4 * u) (omega (arith, long, length-levels front))
    ∙ ap (λ zs. four_segments zs 0) (ap (levels_behind front u) (sym (take-append-drop 828 rest))
    ∙ levels_append (4 * u % 312) 1 (states front) (take 828 rest) (drop 828 rest) own)
    ∙ four_front (levels_behind front u (take 828 rest))
    (levels_of (group_place (4 * u % 312) 1) (states_after (4 * u % 312) (states front) (take 828 rest))
    (drop 828 rest)) 0 (omega (arith, length-levels_of (4 * u % 312) (states front) (take 828 rest) 1 own))
    ∙ ap (λ k. four_segments (levels_behind front u (take k rest)) 0)
    (let e : 828 ≡ 828 * u + 828 - 828 * u = omega arith in e)
