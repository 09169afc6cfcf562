-- The groups of a longer list: the bytes and the precoder bits go on from those of the first groups.
use Rattle.std.proofs.Common.{◌≡◌, ℕ, zero, suc, ◌+◌, ◌-◌, ◌*◌, ◌/◌, ◌%◌, ◌<◌, ◌≤◌, List, ◌++◌, map, drop, length}
use Rattle.std.proofs.Common.{get_or, sym, ap, ap₂, ◌∙◌, arith}
use Rattle.std.specs.List.{range_with_len}
use Rattle.std.proofs.lemmas.List.{get_or_append_left, get_or-append_right, get_or-drop, length-append}
use Rattle.std.proofs.lemmas.List.FromFn.{get_or-map-range_with_len}
use Rattle.dtx_lists.proofs.Range.{map-range_same}
use Rattle.dtx_lists.proofs.RangeParts.{map-range_parts}
use Rattle.dtx_trellis.specs.Trellis.{group_place}
use Rattle.dtx_slice.specs.Unrolled.{symbol_place, precoder_bit, pair_from, pair_back, byte_back, coder_of}
use Rattle.dtx_slice.specs.Unrolled.{level_groups, bytes_back, precoder_bits_after, precoder_bits_of}
use Rattle.dtx_slice.proofs.PlacesLemmas.{precoder_bit_zero, precoder_bit_next}
use Rattle.dtx_slice.proofs.InverseLemmas.{place_within, coder_of_small}

pub groups_whole : (u : ℕ) (y : List ℕ) → length y ≡ 3312 * u → level_groups y ≡ u
unfolding level_groups
groups_whole u y h = let e : length y / 3312 ≡ u = omega arith in e

groups_append : (u : ℕ) (y z : List ℕ) → length y ≡ 3312 * u → level_groups (y ++ z) ≡ u + level_groups z
unfolding level_groups
groups_append u y z h = grind (arith, length-append)

-- within the first groups
symbol_before : (s u r e : ℕ) (y z : List ℕ) → length y ≡ 3312 * u → r < 276 * u
    → get_or (y ++ z) (symbol_place s r e) 0 ≡ get_or y (symbol_place s r e) 0
symbol_before s u r e y z h l = get_or_append_left y z 0 (symbol_place s r e) (omega (arith, place_within s r e u l))

precoder_bit_before : (s u r e : ℕ) (precoder_bits y z : List ℕ) → length y ≡ 3312 * u → r ≤ 276 * u
    → precoder_bit s precoder_bits (y ++ z) r e ≡ precoder_bit s precoder_bits y r e
precoder_bit_before s u zero e precoder_bits y z h l = grind (arith, precoder_bit_zero)
precoder_bit_before s u (suc r) e precoder_bits y z h l =
    ap (λ t. precoder_bit s precoder_bits (y ++ z) t e) (omega arith) ∙ precoder_bit_next s r e precoder_bits (y ++ z)
    ∙ ap (λ x. x / 4) (symbol_before s u r e y z h (omega arith))
    ∙ sym (ap (λ t. precoder_bit s precoder_bits y t e) (omega arith) ∙ precoder_bit_next s r e precoder_bits y)

pair_before : (s u r e : ℕ) (precoder_bits y z : List ℕ) → length y ≡ 3312 * u → r < 276 * u
    → pair_back s precoder_bits (y ++ z) r e ≡ pair_back s precoder_bits y r e
unfolding pair_back
pair_before s u r e precoder_bits y z h l =
    ap₂ pair_from (precoder_bit_before s u r e precoder_bits y z h (omega arith)) (symbol_before s u r e y z h l)

-- four pairs as a byte
abbrev of_pairs : (ℕ → ℕ) → ℕ → ℕ
of_pairs f r = 64 * f r + 16 * f (r + 1) + 4 * f (r + 2) + f (r + 3)

same_pairs : (f g : ℕ → ℕ) (r t : ℕ) → f r ≡ g t → f (r + 1) ≡ g (t + 1) → f (r + 2) ≡ g (t + 2) → f (r + 3) ≡ g (t + 3)
    → of_pairs f r ≡ of_pairs g t
same_pairs f g r t a b c d = grind arith

byte_before : (s u j : ℕ) (precoder_bits y z : List ℕ) → length y ≡ 3312 * u → j < 828 * u
    → byte_back s precoder_bits (y ++ z) j ≡ byte_back s precoder_bits y j
unfolding byte_back
byte_before s u j precoder_bits y z h l =
    let same : (i : ℕ) → 4 * (j / 12) + i < 276 * u
    → pair_back s precoder_bits (y ++ z) (4 * (j / 12) + i) (coder_of s j)
    ≡ pair_back s precoder_bits y (4 * (j / 12) + i) (coder_of s j) =
    λ i m. pair_before s u (4 * (j / 12) + i) (coder_of s j) precoder_bits y z h m in
    same_pairs (λ r. pair_back s precoder_bits (y ++ z) r (coder_of s j)) (λ r. pair_back s precoder_bits y r
    (coder_of s j)) (4 * (j / 12)) (4 * (j / 12)) (grind (arith, pair_before)) (same 1 (omega arith))
    (same 2 (omega arith)) (same 3 (omega arith))

-- behind them
place_on : (s u r e : ℕ) → symbol_place s (276 * u + r) e ≡ 3312 * u + symbol_place (group_place s u) r e
unfolding symbol_place group_place
place_on s u r e = grind arith

symbol_behind : (s u r e : ℕ) (y z : List ℕ) → length y ≡ 3312 * u
    → get_or (y ++ z) (symbol_place s (276 * u + r) e) 0 ≡ get_or z (symbol_place (group_place s u) r e) 0
symbol_behind s u r e y z h = grind (arith, place_on, get_or-append_right)

precoder_bit_behind : (s u r e : ℕ) (precoder_bits y z : List ℕ) → length y ≡ 3312 * u → e < 12
    → precoder_bit s precoder_bits (y ++ z) (276 * u + r) e ≡ precoder_bit (group_place s u)
    (precoder_bits_after s precoder_bits y) z r e
unfolding precoder_bits_after
precoder_bit_behind s u zero e precoder_bits y z h l = ap (λ t. precoder_bit s precoder_bits (y ++ z) t e) (omega arith)
    ∙ precoder_bit_before s u (276 * u) e precoder_bits y z h (omega arith)
    ∙ sym (precoder_bit_zero (group_place s u) e (map (precoder_bit s precoder_bits y (276 * level_groups y))
    (range_with_len 0 12)) z
    ∙ get_or-map-range_with_len (precoder_bit s precoder_bits y (276 * level_groups y)) 0 12 e e 0 l (omega arith)
    ∙ ap (λ g. precoder_bit s precoder_bits y (276 * g) e) (groups_whole u y h))
precoder_bit_behind s u (suc r) e precoder_bits y z h l =
    ap (λ t. precoder_bit s precoder_bits (y ++ z) t e) (omega arith)
    ∙ precoder_bit_next s (276 * u + r) e precoder_bits (y ++ z)
    ∙ ap (λ x. x / 4) (symbol_behind s u r e y z h)
    ∙ sym (ap (λ t. precoder_bit (group_place s u) (precoder_bits_after s precoder_bits y) z t e) (omega arith)
    ∙ precoder_bit_next (group_place s u) r e (precoder_bits_after s precoder_bits y) z)

pair_behind : (s u r e : ℕ) (precoder_bits y z : List ℕ) → length y ≡ 3312 * u → e < 12
    → pair_back s precoder_bits (y ++ z) (276 * u + r) e ≡ pair_back (group_place s u)
    (precoder_bits_after s precoder_bits y) z r e
unfolding pair_back
pair_behind s u r e precoder_bits y z h l = grind (arith, precoder_bit_behind, symbol_behind)

coder_on : (s u j : ℕ) → coder_of s (828 * u + j) ≡ coder_of (group_place s u) j
unfolding coder_of group_place
coder_on s u j = grind arith

byte_behind : (s u j : ℕ) (precoder_bits y z : List ℕ) → length y ≡ 3312 * u
    → byte_back s precoder_bits (y ++ z) (828 * u + j) ≡ byte_back (group_place s u)
    (precoder_bits_after s precoder_bits y) z j
unfolding byte_back
byte_behind s u j precoder_bits y z h =
    ap₂ (λ (r e : ℕ). of_pairs (λ t. pair_back s precoder_bits (y ++ z) t e) r) (omega arith) (coder_on s u j)
    ∙ same_pairs (λ t. pair_back s precoder_bits (y ++ z) t (coder_of (group_place s u) j))
    (λ t. pair_back (group_place s u) (precoder_bits_after s precoder_bits y) z t (coder_of (group_place s u) j))
    (276 * u + 4 * (j / 12)) (4 * (j / 12)) (same (4 * (j / 12))) (next 1) (next 2) (next 3)
  where
    same : (r : ℕ) → pair_back s precoder_bits (y ++ z) (276 * u + r) (coder_of (group_place s u) j)
        ≡ pair_back (group_place s u) (precoder_bits_after s precoder_bits y) z r (coder_of (group_place s u) j)
    same r = pair_behind s u r (coder_of (group_place s u) j) precoder_bits y z h (coder_of_small (group_place s u) j)

    next : (i : ℕ) → pair_back s precoder_bits (y ++ z) (276 * u + 4 * (j / 12) + i) (coder_of (group_place s u) j)
        ≡ pair_back (group_place s u) (precoder_bits_after s precoder_bits y) z (4 * (j / 12) + i) (coder_of
        (group_place s u) j)
    next i = ap (λ t. pair_back s precoder_bits (y ++ z) t (coder_of (group_place s u) j)) (omega arith)
        ∙ same (4 * (j / 12) + i)

pub bytes_append : (s u : ℕ) (precoder_bits y z : List ℕ) → length y ≡ 3312 * u
    → bytes_back s precoder_bits (y ++ z) ≡ bytes_back s precoder_bits y
    ++ bytes_back (group_place s u) (precoder_bits_after s precoder_bits y) z
unfolding bytes_back
bytes_append s u precoder_bits y z h =
    ap (λ n. map (byte_back s precoder_bits (y ++ z)) (range_with_len 0 n)) (ap (λ n. 828 * n) (groups_append u y z h)
    ∙ omega arith) ∙ map-range_parts (byte_back s precoder_bits (y ++ z)) (byte_back (group_place s u)
    (precoder_bits_after s precoder_bits y) z) (828 * u) (828 * level_groups z) (λ j _. grind (arith, byte_behind))
    ∙ ap (λ (xs : List ℕ). xs ++ map (byte_back (group_place s u) (precoder_bits_after s precoder_bits y) z)
    (range_with_len 0 (828 * level_groups z)))
    (map-range_same (byte_back s precoder_bits (y ++ z)) (byte_back s precoder_bits y) 0 (828 * u)
    (λ j _ l. byte_before s u j precoder_bits y z h (omega arith))
    ∙ ap (λ n. map (byte_back s precoder_bits y) (range_with_len 0 (828 * n))) (sym (groups_whole u y h)))

pub precoder_bits_append : (s u : ℕ) (precoder_bits y z : List ℕ) → length y ≡ 3312 * u
    → precoder_bits_after s precoder_bits (y ++ z) ≡ precoder_bits_after (group_place s u)
    (precoder_bits_after s precoder_bits y) z
unfolding precoder_bits_after
precoder_bits_append s u precoder_bits y z h =
    ap (λ n. map (precoder_bit s precoder_bits (y ++ z) n) (range_with_len 0 12)) (ap (λ n. 276 * n)
    (groups_append u y z h)
    ∙ omega arith)
    ∙ map-range_same (precoder_bit s precoder_bits (y ++ z) (276 * u + 276 * level_groups z))
    (precoder_bit (group_place s u) (precoder_bits_after s precoder_bits y) z (276 * level_groups z)) 0 12
    (λ e _ l. precoder_bit_behind s u (276 * level_groups z) e precoder_bits y z h l)

-- at a field's end
end_place : (s u e : ℕ) → 0 < u → group_place s u ≡ 0 → symbol_place s (276 * u - 1) e ≡ 3312 * u - 12 + (e + 4) % 12
unfolding symbol_place group_place
end_place s u e l h = grind arith

pub precoder_bits_repeated : (s u : ℕ) (precoder_bits levels : List ℕ) → length levels ≡ 3312 * u → 0 < u
    → group_place s u ≡ 0 → precoder_bits_of (drop (3312 * u - 12) levels) ≡ precoder_bits_after s precoder_bits levels
unfolding precoder_bits_of precoder_bits_after
precoder_bits_repeated s u precoder_bits levels h l m =
    map-range_same (λ e. get_or (drop (3312 * u - 12) levels) ((e + 4) % 12) 0 / 4)
    (precoder_bit s precoder_bits levels (276 * u)) 0 12
    (λ e _ _. ap (λ x. x / 4) (get_or-drop (3312 * u - 12) levels ((e + 4) % 12) 0
    ∙ ap (λ i. get_or levels i 0) (sym (end_place s u e l m))) ∙ sym (grind (arith, precoder_bit_next)))
    ∙ ap (λ g. map (precoder_bit s precoder_bits levels (276 * g)) (range_with_len 0 12)) (sym
    (groups_whole u levels h))
