-- The bytes of a field of a run, from the levels of its segments and the precoder bits before them.
use Rattle.std.proofs.Common.{◌≡◌, ℕ, ℤ, zero, suc, ◌+◌, ◌-◌, ◌*◌, ◌/◌, ◌<◌, ◌≤◌, List, [], ◌++◌, length, take, drop}
use Rattle.std.proofs.Common.{get_or, refl, sym, ap, ap₂, ◌∙◌, arith, pos, ◌%◌}
use Rattle.std.specs.List.{flat_map}
use Rattle.std.proofs.lemmas.List.{append-nil, drop_at, get_or-drop, length-drop, take_at, get_or-map}
use Rattle.dtx_lists.proofs.Range.{map-range_same}
use Rattle.dtx_trellis.specs.Trellis.{group_place}
use Rattle.dtx_slice.specs.Slicing.{sliced_data, sliced, sliced_last}
use Rattle.dtx_slice.specs.Unrolled.{bytes_back, precoder_bits_after, level_groups, precoder_bit, precoder_bits_of}
use Rattle.dtx_slice.specs.Unrolled.{symbol_place}
use Rattle.dtx_slice.proofs.JoinsLemmas.{bytes_append, groups_whole}
use Rattle.dtx_slice.proofs.PlacesLemmas.{precoder_bit_next}
use Rattle.dtx_receiver.specs.Bytes.{bytes_in, data_at, first_bits, groups_of, levels_from, levels_in}
use Rattle.dtx_receiver.proofs.SegmentsLemmas.{levels_parts}
use Rattle.dtx_rounds.specs.RunField.{rows_of, AreSegments}
use Rattle.dtx_rounds.proofs.FieldRounds.{length-rows, row_of}
use Rattle.dtx_rounds.proofs.GroupBytes.{flat_more, length_back}
use Rattle.dtx_rounds.proofs.RunLevels.{length-from, data_long, level_from}

-- ---- levels

data_in_field : (run : List (List ℤ)) (f i : ℕ) → i < 312
    → data_at run (312 * f + i) ≡ get_or (drop 1 (rows_of run f)) i []
unfolding data_at
data_in_field run f i l = ap (λ n. get_or run n []) (omega arith)
    ∙ sym (get_or-drop 1 (rows_of run f) i [] ∙ row_of run f (1 + i) (omega arith))

pub levels_rows : (run : List (List ℤ)) (f n : ℕ) → n ≤ length (drop 1 (rows_of run f))
    → levels_from run (312 * f) n ≡ flat_map sliced_data (take n (drop 1 (rows_of run f)))
unfolding levels_from
levels_rows run f zero l = refl
levels_rows run f (suc n) l =
    let more : suc n ≡ n + 1 = omega arith in
    let small : n < 312 = omega (arith, l, length-drop 1 (rows_of run f), length-rows run f) in
    ap (levels_from run (312 * f)) more ∙ levels_parts run (312 * f) n 1
    ∙ ap₂ (λ (xs ys : List ℕ). xs ++ ys) (levels_rows run f n (omega arith)) (grind (arith, append-nil, data_in_field))
    ∙ sym (ap (λ m. flat_map sliced_data (take m (drop 1 (rows_of run f)))) more
    ∙ flat_more sliced_data (drop 1 (rows_of run f)) n (omega arith))

-- ---- bytes

-- the precoder bits before field f
abbrev pub field_bits : List (List ℤ) → ℕ → List ℕ
field_bits run f = precoder_bits_after 0 (first_bits run) (levels_from run 0 (312 * f))

field_place : (f : ℕ) → group_place 0 (78 * f) ≡ 0
unfolding group_place
field_place f = omega arith

pub before_long : (run : List (List ℤ)) (f : ℕ) → AreSegments run → 312 * f ≤ 4 * groups_of run
    → length (levels_from run 0 (312 * f)) ≡ 3312 * (78 * f)
before_long run f h l = length-from run 0 (312 * f) h (omega (arith, l)) ∙ omega arith

-- all levels from a field on
levels_split : (run : List (List ℤ)) (a b c : ℕ) → a + (b + c) ≡ 4 * groups_of run
    → levels_in run ≡ levels_from run 0 a ++ (levels_from run a b ++ levels_from run (a + b) c)
unfolding levels_in
levels_split run a b c e = grind (arith, levels_parts)

pub bytes_in_field : (run : List (List ℤ)) (f g : ℕ) → AreSegments run → 312 * f + 4 * g ≤ 4 * groups_of run
    → take (828 * g) (drop (64584 * f) (bytes_in run))
    ≡ bytes_back 0 (field_bits run f) (levels_from run (312 * f) (4 * g))
unfolding bytes_in
bytes_in_field run f g h l =
    let rest : ℕ = 4 * groups_of run - (312 * f + 4 * g) in
    let before : List ℕ = levels_from run 0 (312 * f) in
    let own : List ℕ = levels_from run (312 * f) (4 * g) in
    let behind : List ℕ = levels_from run (312 * f + 4 * g) rest in
    let own_long : length own ≡ 3312 * g = length-from run (312 * f) (4 * g) h l ∙ omega arith in
    ap (λ ys. take (828 * g) (drop (64584 * f) (bytes_back 0 (first_bits run) ys))) (levels_split run (312 * f) (4 * g)
    rest (omega (arith, l))) ∙ ap (λ ys. take (828 * g) (drop (64584 * f) ys))
    (bytes_append 0 (78 * f) (first_bits run) before (own ++ behind) (before_long run f h (omega (arith, l))))
    ∙ ap (take (828 * g)) (drop_at (bytes_back 0 (first_bits run) before)
    (bytes_back (group_place 0 (78 * f)) (field_bits run f) (own ++ behind)) (64584 * f)
    (length_back 0 (78 * f) (first_bits run) before (before_long run f h (omega (arith, l))) ∙ omega arith))
    ∙ ap (λ s. take (828 * g) (bytes_back s (field_bits run f) (own ++ behind))) (field_place f)
    ∙ ap (take (828 * g)) (bytes_append 0 g (field_bits run f) own behind own_long)
    ∙ take_at (bytes_back 0 (field_bits run f) own) (bytes_back (group_place 0 g)
    (precoder_bits_after 0 (field_bits run f) own) behind) (828 * g) (length_back 0 g (field_bits run f) own own_long)

-- where the last symbol of coder e stands
last_place : (f e : ℕ) → e < 12 → symbol_place 0 (21528 * f + 21527) e ≡ 828 * (312 * f + 311) + (816 + (e + 4) % 12)
unfolding symbol_place
last_place f e l = omega arith

-- the level there
last_level : (segment : List ℤ) (q : ℕ) → length segment ≡ 832 → q < 12
    → get_or (sliced_last segment) q 0 ≡ sliced (get_or segment (4 + (816 + q)) (pos 0))
unfolding sliced_last
last_level segment q long l =
    get_or-map sliced (drop 820 segment) q (pos 0) 0 (omega (arith, l, long, length-drop 820 segment))
    ∙ ap sliced (get_or-drop 820 segment q (pos 0) ∙ ap (λ i. get_or segment i (pos 0)) (omega arith))

-- before field f + 1 they are those of the last segment of field f
pub last_bits : (run : List (List ℤ)) (f : ℕ) → AreSegments run → 312 * (f + 1) ≤ 4 * groups_of run
    → precoder_bits_of (sliced_last (data_at run (312 * f + 311))) ≡ field_bits run (f + 1)
unfolding precoder_bits_of precoder_bits_after
last_bits run f h l = map-range_same _ _ 0 12 (λ e a b. bit e (omega arith))
  where
    levels : List ℕ
    levels = levels_from run 0 (312 * (f + 1))

    bit : (e : ℕ) → e < 12 → get_or (sliced_last (data_at run (312 * f + 311))) ((e + 4) % 12) 0 / 4
        ≡ precoder_bit 0 (first_bits run) levels (276 * level_groups levels) e
    bit e m =
        let small : (e + 4) % 12 < 12 = omega arith in
        let there : 312 * f + 311 < 312 * (f + 1) = omega arith in
        ap (λ x. x / 4) (grind (arith, last_level, data_long, levels, last_place, level_from))
        ∙ sym (ap (λ g. precoder_bit 0 (first_bits run) levels (276 * g) e)
        (groups_whole (78 * (f + 1)) levels (before_long run (f + 1) h l))
        ∙ ap (λ r. precoder_bit 0 (first_bits run) levels r e) (omega arith)
        ∙ precoder_bit_next 0 (21528 * f + 21527) e (first_bits run) levels)
