-- The segments of levels that stand behind others.
use Rattle.std.proofs.Common.{◌≡◌, ℕ, ◌+◌, ◌-◌, ◌*◌, ◌≤◌, List, ◌++◌, length, take, drop, ap, ◌∙◌, arith}
use Rattle.dtx_lists.proofs.Range.{map-range_same}
use Rattle.dtx_lists.proofs.RangeMoved.{map-range_moved}
use Rattle.dtx_coder.proofs.SlicesLemmas.{piece-front, piece-back}
use Rattle.std.proofs.lemmas.List.{length-append, length-drop, length-map, length-take-le}
use Rattle.dtx_frame.specs.Segments.{data_segment}
use Rattle.dtx_frame.proofs.SymbolsLemmas.{length_sync}
use Rattle.dtx_coder.specs.Stream.{segment, four_segments}

size : (a : ℕ) → a + 828 - a ≡ 828
size a = omega arith

pub segment_is : (zs : List ℕ) (n : ℕ) → segment zs n ≡ data_segment (take 828 (drop (828 * n) zs))
unfolding segment
segment_is zs n = ap (λ k. data_segment (take k (drop (828 * n) zs))) (size (828 * n))

pub segment_front : (xs ys : List ℕ) (n : ℕ) → 828 * n + 828 ≤ length xs → segment (xs ++ ys) n ≡ segment xs n
segment_front xs ys n l = rw (segment_is (xs ++ ys) n, piece-front xs ys (828 * n) 828 l, ← segment_is xs n)

pub segment_back : (xs ys : List ℕ) (m i : ℕ) → length xs ≡ 828 * m → segment (xs ++ ys) (m + i) ≡ segment ys i
segment_back xs ys m i e = simp (segment_is, apart, piece-back)
  where
    apart : (m i : ℕ) → 828 * (m + i) ≡ 828 * m + 828 * i
    apart m i = omega arith

pub four_front : (xs ys : List ℕ) (n : ℕ) → 828 * (n + 4) ≤ length xs → four_segments (xs ++ ys) n ≡ four_segments xs n
unfolding four_segments
four_front xs ys n l = grind (arith, map-range_same, segment_front)

pub four_back : (xs ys : List ℕ) (m : ℕ) → length xs ≡ 828 * m → four_segments (xs ++ ys) m ≡ four_segments ys 0
unfolding four_segments
four_back xs ys m e = map-range_moved (segment (xs ++ ys)) (segment ys) m 0 4 (λ i l. grind (arith, segment_back))

pub four_behind : (xs ys : List ℕ) (m i : ℕ) → length xs ≡ 828 * m
    → four_segments (xs ++ ys) (m + i) ≡ four_segments ys i
unfolding four_segments
four_behind xs ys m i e = map-range_moved (segment (xs ++ ys)) (segment ys) (m + i) i 4
    (λ j l. rw (assoc m i j, segment_back xs ys m (i + j) e))
  where
    assoc : (m i j : ℕ) → m + i + j ≡ m + (i + j)
    assoc m i j = omega arith

pub length-data_segment : (zs : List ℕ) → length (data_segment zs) ≡ 4 + length zs
unfolding data_segment
length-data_segment zs = grind (arith, length-append, length_sync, length-map)

pub length-segment : (zs : List ℕ) (n : ℕ) → 828 * n + 828 ≤ length zs → length (segment zs n) ≡ 832
length-segment zs n l = ap length (segment_is zs n)
    ∙ length-data_segment (take 828 (drop (828 * n) zs))
    ∙ ap (λ (m : ℕ). 4 + m) (length-take-le 828 (drop (828 * n) zs) (omega (arith, l, length-drop (828 * n) zs)))
