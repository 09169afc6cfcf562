-- From the segments of a stream back to its bytes.
use Rattle.std.proofs.Common.{◌≡◌, ℕ, zero, suc, ◌+◌, ◌-◌, ◌*◌, ◌/◌, ◌<◌, ◌≤◌, nat_le, List, [], ◌∷◌, ◌++◌, length, map}
use Rattle.std.proofs.Common.{take, drop, get_or, refl, sym, ap, ap₂, ◌∙◌, subst, arith}
use Rattle.std.specs.List.{range_with_len, flat_map}
use Rattle.std.proofs.Math.Seq.{take-add}
use Rattle.std.proofs.lemmas.List.{append-nil, take_all, length-drop, length-take-le, get_or-take, get_or-drop}
use Rattle.std.proofs.lemmas.List.FromFn.{length-map-range_with_len, get_or-map-range_with_len}
use Rattle.std.proofs.lemmas.Grind.{flat_map-append}
use Rattle.dtx_lists.proofs.Range.{range_with_len-parts}
use Rattle.dtx_trellis.specs.Groups.{levels_of}
use Rattle.dtx_slice.specs.Slicing.{sliced, sliced_data}
use Rattle.dtx_slice.specs.Unrolled.{bytes_back, precoder_bits_of, precoder_bits_in}
use Rattle.dtx_slice.proofs.InverseLemmas.{bytes_come_back}
use Rattle.dtx_frame.proofs.RuleLemmas.{level_at_small}
use Rattle.dtx_frame.proofs.SlicesLemmas.{data_back, last_back}
use Rattle.dtx_coder.specs.Stream.{whole_groups, zero_states, levels, segment, no_last, last_before, a53}
use Rattle.dtx_coder.proofs.BytesLemmas.{length-whole}
use Rattle.dtx_coder.proofs.LevelsLemmas.{length-levels}
use Rattle.dtx_coder.proofs.SegmentsLemmas.{segment_is}
use Rattle.dtx_coder.proofs.CountsLemmas.{length-a53}
use Rattle.dtx_receiver.specs.Bytes.{data_count, data_at, groups_of, levels_from, levels_in, first_bits, bytes_in}
use Rattle.dtx_lists.proofs.RangeMoved.{flat_map-range_same}
use Rattle.dtx_chain.proofs.PlacesLemmas.{sync_at, data_at_place}

-- ---- the levels

pub slices_front : (zs : List ℕ) (n : ℕ) → flat_map (λ d. take 828 (drop (828 * d) zs)) (range_with_len 0 n)
    ≡ take (828 * n) zs
slices_front zs zero = refl
slices_front zs (suc n) =
    let slice : ℕ → List ℕ = λ d. take 828 (drop (828 * d) zs) in
    let next : suc n ≡ n + 1 = omega arith in
    let more : 828 * n + 828 ≡ 828 * suc n = omega arith in
    ap (λ i. flat_map slice (range_with_len 0 i)) next ∙ ap (flat_map slice)
    (range_with_len-parts 0 n 1 ∙ ap (λ a. range_with_len 0 n ++ range_with_len a 1) (omega arith))
    ∙ flat_map-append slice (range_with_len 0 n) (n ∷ [])
    ∙ ap₂ (λ (xs ys : List ℕ). xs ++ ys) (slices_front zs n) (append-nil (slice n))
    ∙ sym (take-add (828 * n) 828 zs) ∙ ap (λ i. take i zs) more

pub level_small : (ps : List (List ℕ)) (d : ℕ) → d < length (levels ps) → get_or (levels ps) d 0 < 8
unfolding levels levels_of
level_small ps d l = grind (arith, length-map-range_with_len, get_or-map-range_with_len, level_at_small)

pub segment_back : (ps : List (List ℕ)) (d : ℕ) → d < 4 * (length ps / 4)
    → sliced_data (segment (levels ps) d) ≡ take 828 (drop (828 * d) (levels ps))
segment_back ps d l =
    let long : length (take 828 (drop (828 * d) (levels ps))) ≡ 828 = length-take-le 828 (drop (828 * d) (levels ps))
    (omega (arith, l, length-levels ps, length-drop (828 * d) (levels ps))) in
    ap sliced_data (segment_is (levels ps) d) ∙ data_back (take 828 (drop (828 * d) (levels ps)))
    (λ i m. let n : i < 828 = omega (arith, m, long) in
    subst (λ (x : ℕ). x < 8) (sym (get_or-take 828 (drop (828 * d) (levels ps)) i 0 n
    ∙ get_or-drop (828 * d) (levels ps) i 0)) (level_small ps (828 * d + i) (omega (arith, n, l, length-levels ps))))

count_is : (g l : ℕ) → l ≡ 4 * g + (g + 77) / 78 → l - (l + 312) / 313 ≡ 4 * g
count_is g l e = omega (arith, e)

pub groups_are : (ps : List (List ℕ)) → groups_of (a53 ps) ≡ length ps / 4
unfolding groups_of data_count
groups_are ps = grind (arith, count_is, length-a53)

pub levels_are : (ps : List (List ℕ)) → levels_in (a53 ps) ≡ levels ps
unfolding levels_in levels_from data_at
levels_are ps = ap (λ g. flat_map (λ d. sliced_data (data_at (a53 ps) d)) (range_with_len 0 (4 * g))) (groups_are ps)
    ∙ flat_map-range_same (λ d. sliced_data (data_at (a53 ps) d)) (λ d. take 828 (drop (828 * d) (levels ps))) 0
    (4 * (length ps / 4)) (λ d a l. grind (arith, data_at_place, segment_back))
    ∙ slices_front (levels ps) (4 * (length ps / 4))
    ∙ take_all (828 * (4 * (length ps / 4))) (levels ps) (omega (arith, length-levels ps))

-- ---- the bytes

pub nothing_before : (ps : List (List ℕ)) → last_before ps 0 ≡ no_last
unfolding last_before
nothing_before ps = refl

pub zero_bits : precoder_bits_of (map sliced no_last) ≡ precoder_bits_in zero_states
unfolding precoder_bits_of sliced no_last precoder_bits_in zero_states
zero_bits = refl

first_bits_are : (ps : List (List ℕ)) → 4 ≤ length ps → first_bits (a53 ps) ≡ precoder_bits_in zero_states
unfolding first_bits
first_bits_are ps l =
    rw (sync_at ps 0 (omega arith) refl, last_back (nat_le 312 0) (last_before ps 0), nothing_before ps, zero_bits)

pub bytes_are : (ps : List (List ℕ)) → 4 ≤ length ps
    → ((j : ℕ) → j < length (whole_groups ps) → get_or (whole_groups ps) j 0 < 256)
    → bytes_in (a53 ps) ≡ whole_groups ps
unfolding bytes_in levels
bytes_are ps l h = ap₂ (λ f y. bytes_back 0 f y) (first_bits_are ps l) (levels_are ps)
    ∙ bytes_come_back 0 (length ps / 4) zero_states (whole_groups ps) (length-whole ps) h
