-- How many segments and symbols a stream has.
use Rattle.std.proofs.Common.{◌≡◌, ℕ, zero, suc, ◌+◌, ◌-◌, ◌*◌, ◌/◌, ◌<◌, ◌≤◌, ◌⊎◌, ◌==◌, cond, inl, inr, ℤ, List, []}
use Rattle.std.proofs.Common.{◌∷◌, ◌++◌, length, map, get_or, drop, refl, ap, ap₂, ◌∙◌, arith, zero-add, eq-eqb, ne_eqb}
use Rattle.std.proofs.Common.{append-nil, length-append, length-drop}
use Rattle.std.specs.List.{range_with_len, flat_map, AllByRecursion}
use Rattle.std.proofs.lemmas.Bool.{cases_lt, cond-true, cond-false}
use Rattle.std.proofs.lemmas.List.FromFn.{length-map-range_with_len}
use Rattle.std.proofs.lemmas.Grind.{flat_map-append}
use Rattle.dtx_lists.proofs.Range.{range_with_len-parts}
use Rattle.dtx_frame.specs.Segments.{field_sync}
use Rattle.dtx_frame.proofs.SymbolsLemmas.{length_front}
use Rattle.dtx_coder.specs.Stream.{levels, segment, four_segments, last_of, no_last, last_before, sync_before}
use Rattle.dtx_coder.specs.Stream.{group_segments, a53, symbols_of, a53_symbols}
use Rattle.dtx_coder.proofs.LevelsLemmas.{length-levels}
use Rattle.dtx_coder.proofs.SegmentsLemmas.{length-segment}

-- ---- segments

-- a field sync for each 78 groups that are begun
length-sync : (ps : List (List ℕ)) (v : ℕ) → length (sync_before ps v) + (v + 77) / 78 ≡ (v + 78) / 78
unfolding sync_before
length-sync ps v = grind (arith, cases_lt, cond-false, cond-true, eq-eqb)

length-group : (ps : List (List ℕ)) (v : ℕ) → length (group_segments ps v) ≡ length (sync_before ps v) + 4
unfolding group_segments four_segments
length-group ps v = grind (arith, length-append, length-map-range_with_len)

length-groups : (ps : List (List ℕ)) (m : ℕ) → length (flat_map (group_segments ps) (range_with_len 0 m))
    ≡ 4 * m + (m + 77) / 78
length-groups ps zero = refl
length-groups ps (suc m) =
    ap (λ n. length (flat_map (group_segments ps) (range_with_len 0 n))) (let e : suc m ≡ m + 1 = omega arith in e)
    ∙ ap (λ ns. length (flat_map (group_segments ps) ns)) (grind (arith, range_with_len-parts, zero-add))
    ∙ ap length (flat_map-append (group_segments ps) (range_with_len 0 m) (m ∷ []))
    ∙ length-append (flat_map (group_segments ps) (range_with_len 0 m)) (group_segments ps m ++ [])
    ∙ ap₂ (λ (x y : ℕ). x + y) (length-groups ps m) (ap length (append-nil (group_segments ps m)) ∙ length-group ps m)
    ∙ omega (arith, length-sync ps m)

pub length-a53 : (packets : List (List ℕ))
    → length (a53 packets) ≡ 4 * (length packets / 4) + (length packets / 4 + 77) / 78
unfolding a53
length-a53 packets = length-groups packets (length packets / 4)

-- ---- symbols

-- each of them has 832 symbols
abbrev pub AreSegments : List (List ℤ) → Type 0
AreSegments ss = AllByRecursion (λ s. length s ≡ 832) ss

pub segments_append : (xs ys : List (List ℤ)) → AreSegments xs → AreSegments ys → AreSegments (xs ++ ys)
segments_append [] ys h g = g
segments_append (x ∷ xs) ys h g = (h.0, segments_append xs ys h.1 g)

pub segments_map : (f : ℕ → List ℤ) (a n : ℕ) → ((v : ℕ) → a ≤ v → v < a + n → length (f v) ≡ 832)
    → AreSegments (map f (range_with_len a n))
segments_map f a zero h = tt
segments_map f a (suc n) h = (h a (omega arith) (omega arith), segments_map f (a + 1) n (λ v l m. grind arith))

segments_flat : (f : ℕ → List (List ℤ)) (a n : ℕ) → ((v : ℕ) → a ≤ v → v < a + n → AreSegments (f v))
    → AreSegments (flat_map f (range_with_len a n))
segments_flat f a zero h = tt
segments_flat f a (suc n) h =
    segments_append (f a) (flat_map f (range_with_len (a + 1) n)) (h a (omega arith) (omega arith))
    (segments_flat f (a + 1) n (λ v l m. h v (omega arith) (omega arith)))

length-last : (ps : List (List ℕ)) (v : ℕ) → v < length ps / 4 → length (last_before ps v) ≡ 12
unfolding last_before last_of no_last
length-last ps v l = by_cases (cases_lt 0 v)
  where
    by_cases : (0 < v) ⊎ (v ≤ 0) → length (cond (v == 0) no_last (drop 820 (segment (levels ps) (4 * v - 1)))) ≡ 12
    by_cases (inl p) = ap length (cond-false (v == 0) no_last (drop 820 (segment (levels ps) (4 * v - 1)))
        (ne_eqb v 0 (λ z. omega (arith, p, z)))) ∙ length-drop 820 (segment (levels ps) (4 * v - 1))
        ∙ ap (λ (n : ℕ). n - 820) (length-segment (levels ps) (4 * v - 1) (omega (arith, l, p, length-levels ps)))
    by_cases (inr z) = grind (arith, cond-true, eq-eqb)

segments_sync : (ps : List (List ℕ)) (v : ℕ) → v < length ps / 4 → AreSegments (sync_before ps v)
unfolding sync_before field_sync
segments_sync ps v l = grind (arith, length-append, length_front, length-last)

segments_group : (ps : List (List ℕ)) (v : ℕ) → v < length ps / 4 → AreSegments (group_segments ps v)
unfolding group_segments four_segments
segments_group ps v l = grind (arith, segments_append, segments_sync, segments_map, length-segment, length-levels)

segments_a53 : (packets : List (List ℕ)) → AreSegments (a53 packets)
unfolding a53
segments_a53 packets = grind (arith, segments_flat, segments_group)

pub segment_at : (ss : List (List ℤ)) (i : ℕ) → AreSegments ss → i < length ss → length (get_or ss i []) ≡ 832
segment_at [] i h l = absurd (omega arith)
segment_at (s ∷ ss) zero h l = h.0
segment_at (s ∷ ss) (suc i) h l = segment_at ss i h.1 (omega arith)

pub a53_segment : (packets : List (List ℕ)) (i : ℕ) → i < length (a53 packets)
    → length (get_or (a53 packets) i []) ≡ 832
a53_segment packets i l = segment_at (a53 packets) i (segments_a53 packets) l

length-symbols : (ss : List (List ℤ)) → AreSegments ss → length (symbols_of ss) ≡ 832 * length ss
length-symbols [] h = refl
length-symbols (s ∷ ss) h =
    length-append s (symbols_of ss) ∙ ap₂ (λ (x y : ℕ). x + y) h.0 (length-symbols ss h.1) ∙ more (length ss)
  where
    more : (n : ℕ) → 832 + 832 * n ≡ 832 * suc n
    more n = omega arith

pub length-a53_symbols : (packets : List (List ℕ)) → length (a53_symbols packets) ≡ 832 * length (a53 packets)
unfolding a53_symbols
length-a53_symbols packets = length-symbols (a53 packets) (segments_a53 packets)
