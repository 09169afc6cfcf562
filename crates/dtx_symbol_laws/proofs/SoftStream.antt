-- What `soft` makes of the segments of a stream: each coder's symbols in a field are those of a path's own levels.
use Rattle.std.proofs.Common.{◌≡◌, ℕ, ℤ, pos, ◌+◌, ◌-◌, ◌*◌, ◌/◌, ◌<◌, ◌≤◌, ◌-ℤ◌, List, [], ◌++◌, length, map, take}
use Rattle.std.proofs.Common.{drop, get_or, min, sym, ap, ap₂, ◌∙◌, subst, arith}
use Rattle.std.specs.List.{range_with_len}
use Rattle.std.proofs.Math.Seq.{take-add}
use Rattle.std.proofs.lemmas.Simd.{map-map}
use Rattle.std.proofs.lemmas.List.{get_or-append_right, get_or-drop, get_or-map, get_or-take, length-drop}
use Rattle.std.proofs.lemmas.List.{length-take-le}
use Rattle.std.proofs.lemmas.List.FromFn.{fill_by_all, get_or-map-range_with_len, length-map-range_with_len}
use Rattle.dtx_trellis.specs.Trellis.{AreBits, State, level, state_after, state_of, symbol_of, groups, higher, lower}
use Rattle.dtx_trellis.specs.Groups.{level_at, levels_of}
use Rattle.dtx_trellis.proofs.CodersLemmas.{length_higher, length_lower}
use Rattle.dtx_trellis.proofs.GoesOnLemmas.{after_bits, level_goes_on, same_levels}
use Rattle.dtx_trellis.proofs.JoinsLemmas.{groups_whole}
use Rattle.dtx_trellis.proofs.RoundsLemmas.{bits_of}
use Rattle.dtx_slice.proofs.InverseLemmas.{lower_bit, place_coder, place_round, place_within}
use Rattle.dtx_slice.specs.Unrolled.{symbol_place}
use Rattle.dtx_frame.specs.Segments.{data_segment, segment_sync}
use Rattle.dtx_frame.proofs.SymbolsLemmas.{length_sync}
use Rattle.dtx_coder.proofs.BytesLemmas.{length-whole}
use Rattle.dtx_coder.specs.Stream.{whole_groups, a53, levels, segment, zero_states}
use Rattle.dtx_coder.proofs.CountsLemmas.{length-a53}
use Rattle.dtx_coder.proofs.LevelsLemmas.{length-levels}
use Rattle.dtx_coder.proofs.SegmentsLemmas.{segment_is}
use Rattle.dtx_chain.proofs.PlacesLemmas.{data_at_place}
use Rattle.dtx_soft.specs.Coders.{coder_symbols, data_symbol}
use Rattle.dtx_soft.specs.Paths.{IsPath, symbol_at}
use Rattle.dtx_soft.specs.Softened.{IsOwn}
use Rattle.dtx_recipes.specs.Soft.{in_groups}

-- ---- one coder

-- that a coder's levels are a path
abbrev pub TakesPaths : Type 0
TakesPaths = (q : State) (a b : List ℕ) → AreBits q → ((t : ℕ) → t < length a → get_or b t 0 < 2)
    → IsPath (2 * q.q1 + q.q0) (map (level q a b) (range_with_len 0 (length a)))

-- n entries from entry r on
abbrev part : {A : Type 0} → ℕ → ℕ → List A → List A
part r n xs = take n (drop r xs)

part_at : {A : Type 0} (r n i : ℕ) (xs : List A) (d : A) → i < n → get_or (part r n xs) i d ≡ get_or xs (r + i) d
part_at r n i xs d l = get_or-take n (drop r xs) i d l ∙ get_or-drop r xs i d

length-part : {A : Type 0} (r n : ℕ) (xs : List A) → r + n ≤ length xs → length (part r n xs) ≡ n
length-part r n xs l = length-take-le n (drop r xs) (omega (arith, length-drop r xs))

-- its levels from pair r on are those of the state that it is in then
part_level : (q : State) (a b : List ℕ) (r n t : ℕ) → AreBits q → length a ≡ length b → r + n ≤ length a → t < n
    → level q a b (r + t) ≡ level (state_after q (take r a) (take r b) r) (part r n a) (part r n b) t
part_level q a b r n t h e l m = same_levels q a b (take (r + n) a) (take (r + n) b) (r + t) h
    (grind (arith, length-take-le, get_or-take)) ∙ ap₂ (λ x y. level q x y (r + t)) (take-add r n a) (take-add r n b)
    ∙ ap (λ k. level q (take r a ++ part r n a) (take r b ++ part r n b) (k + t)) (sym front)
    ∙ level_goes_on q (take r a) (take r b) (part r n a) (part r n b) t h
    (front ∙ sym (length-take-le r b (omega (arith, e)))) (omega (arith, length-part r n a l))
    ∙ ap (λ k. level (state_after q (take r a) (take r b) k) (part r n a) (part r n b) t) front
  where
    front : length (take r a) ≡ r
    front = length-take-le r a (omega arith)

-- symbols that are those of a part of its levels are a path's own
part_own : TakesPaths → (q : State) (a b : List ℕ) (r n : ℕ) (symbols : List ℤ) → AreBits q → length a ≡ length b
    → r + n ≤ length a → ((t : ℕ) → t < length a → get_or b t 0 < 2) → length symbols ≡ n
    → ((t : ℕ) → t < n → get_or symbols t (pos 0) ≡ symbol_at 1 (level q a b (r + t))) → IsOwn 1 symbols
part_own takes q a b r n symbols h e l small long same = record {
  start = 2 * own.q1 + own.q0;
  levels = map (level own (part r n a) (part r n b)) (range_with_len 0 (length (part r n a)));
  begins = (let m = bits.q1 in let k = bits.q0 in omega arith);
  path = takes own (part r n a) (part r n b) bits (λ t m. small_part t (omega (arith, m, length-part r n a l)));
  same = by_symbol;
}
  where
    own : State
    own = state_after q (take r a) (take r b) r

    bits : AreBits (state_after q (take r a) (take r b) r)
    bits = after_bits q (take r a) (take r b) r h (omega (arith, length-take-le r a (omega (arith, l))))

    small_part : (t : ℕ) → t < n → get_or (part r n b) t 0 < 2
    small_part t m = subst (λ x. x < 2) (sym (part_at r n t b 0 m)) (small (r + t) (omega (arith, l, m)))

    by_symbol : symbols ≡ map (symbol_at 1)
        (map (level (state_after q (take r a) (take r b) r) (part r n a) (part r n b))
        (range_with_len 0 (length (part r n a))))
    by_symbol =
        fill_by_all (λ t. symbol_at 1 (level own (part r n a) (part r n b) t)) symbols (length (part r n a)) (pos 0)
        (long ∙ sym (length-part r n a l)) (λ t m. grind (arith, length-part, part_level))
        ∙ sym (map-map (symbol_at 1) (level own (part r n a) (part r n b)) (range_with_len 0 (length (part r n a))))

-- ---- the symbols of a field

-- a field's first pairs stand behind 312 segments of each field before it
place_further : (f t e : ℕ) → symbol_place 0 (21528 * f + t) e ≡ 828 * (312 * f) + symbol_place 0 t e
unfolding symbol_place
place_further f t e = grind arith

place_small : (t e n : ℕ) → t < 69 * n → symbol_place 0 t e < 828 * n
unfolding symbol_place
place_small t e n l = omega arith

groups_are : (ps : List (List ℕ)) → groups (whole_groups ps) ≡ length ps / 4
groups_are ps = groups_whole (length ps / 4) (whole_groups ps) (length-whole ps)

-- the level of coder e's pair r in a stream
stream_level : (ps : List (List ℕ)) (e r : ℕ) → e < 12 → r < 276 * (length ps / 4)
    → get_or (levels ps) (symbol_place 0 r e) 0
    ≡ level (state_of (get_or zero_states e 0)) (higher 0 (whole_groups ps) e) (lower 0 (whole_groups ps) e) r
unfolding levels levels_of level_at
stream_level ps e r l m =
    get_or-map-range_with_len (level_at 0 zero_states (whole_groups ps)) 0 (3312 * groups (whole_groups ps))
    (symbol_place 0 r e) (symbol_place 0 r e) 0
    (place_within 0 r e (groups (whole_groups ps)) (omega (arith, m, groups_are ps))) (omega arith)
    ∙ ap₂ (λ (c t : ℕ). level (state_of (get_or zero_states c 0)) (higher 0 (whole_groups ps) c)
    (lower 0 (whole_groups ps) c) t) (place_coder 0 r e l) (place_round 0 r e)

data_in : (zs : List ℕ) (k j : ℕ) → j < 828 → 828 * k + 828 ≤ length zs
    → get_or (segment zs k) (4 + j) (pos 0) ≡ symbol_at 1 (get_or zs (828 * k + j) 0)
unfolding data_segment symbol_of symbol_at
data_in zs k j l m = ap (λ (x : List ℤ). get_or x (4 + j) (pos 0)) (segment_is zs k)
    ∙ get_or-append_right segment_sync (map symbol_of (part (828 * k) 828 zs)) 4 (4 + j) (pos 0) length_sync
    (omega arith) ∙ ap (λ i. get_or (map symbol_of (part (828 * k) 828 zs)) i (pos 0)) (omega arith)
    ∙ get_or-map symbol_of (part (828 * k) 828 zs) j 0 (pos 0) (omega (arith, length-part (828 * k) 828 zs m))
    ∙ ap symbol_of (part_at (828 * k) 828 j zs 0 l) ∙ at_one (get_or zs (828 * k + j) 0)
  where
    at_one : (z : ℕ) → pos (2 * z) -ℤ pos 7 ≡ pos (1 * (2 * z)) -ℤ pos (1 * 7)
    at_one z = (let e : 2 * z ≡ 1 * (2 * z) = omega arith in ap (λ n. pos n -ℤ pos 7) e)

-- how many data segments of field f stand in whole groups
abbrev pub count : List (List ℕ) → ℕ → ℕ
count ps f = 4 * (min 312 (length (a53 ps) - (313 * f + 1)) / 4)

fits : (g f l : ℕ) → l ≡ 4 * g + (g + 77) / 78 → 313 * f + 1 ≤ l
    → 312 * f + 4 * (min 312 (l - (313 * f + 1)) / 4) ≤ 4 * g
fits g f l e m = omega arith

field_fits : (ps : List (List ℕ)) (f : ℕ) → 313 * f + 1 ≤ length (a53 ps) → 312 * f + count ps f ≤ 4 * (length ps / 4)
field_fits ps f l = fits (length ps / 4) f (length (a53 ps)) (length-a53 ps) l

pub length-field : (ps : List (List ℕ)) (f : ℕ) → 313 * f + 1 ≤ length (a53 ps)
    → length (in_groups (a53 ps) (313 * f + 1)) ≡ count ps f
unfolding in_groups
length-field ps f l = length-part (313 * f + 1) (count ps f) (a53 ps) (omega arith)

-- segment i of field f
pub field_at : (ps : List (List ℕ)) (f i : ℕ) → i < count ps f
    → get_or (in_groups (a53 ps) (313 * f + 1)) i [] ≡ get_or (a53 ps) (313 * f + 1 + i) []
unfolding in_groups
field_at ps f i l = part_at (313 * f + 1) (count ps f) i (a53 ps) [] l

field_data : (ps : List (List ℕ)) (f i : ℕ) → 313 * f + 1 ≤ length (a53 ps) → i < count ps f
    → get_or (in_groups (a53 ps) (313 * f + 1)) i [] ≡ segment (levels ps) (312 * f + i)
field_data ps f i l m =
    let fit = field_fits ps f l in
    field_at ps f i m ∙ ap (λ n. get_or (a53 ps) n []) (omega arith) ∙ data_at_place ps (312 * f + i) (omega arith)

field_symbol : (ps : List (List ℕ)) (f d : ℕ) → 313 * f + 1 ≤ length (a53 ps) → d < 828 * count ps f
    → data_symbol (in_groups (a53 ps) (313 * f + 1)) d ≡ symbol_at 1 (get_or (levels ps) (828 * (312 * f) + d) 0)
unfolding data_symbol
field_symbol ps f d l m = grind (arith, field_fits, field_data, data_in, length-levels)

-- each coder's symbols in whole groups of field f
pub field_own : TakesPaths → (ps : List (List ℕ)) (f e : ℕ) → 313 * f + 1 ≤ length (a53 ps) → e < 12
    → IsOwn 1 (coder_symbols (in_groups (a53 ps) (313 * f + 1)) e)
unfolding coder_symbols
field_own takes ps f e l m =
    part_own takes (state_of (get_or zero_states e 0)) (higher 0 (whole_groups ps) e) (lower 0 (whole_groups ps) e)
    (21528 * f) (69 * length (in_groups (a53 ps) (313 * f + 1))) (coder_symbols (in_groups (a53 ps) (313 * f + 1)) e)
    (bits_of (get_or zero_states e 0)) (length_higher 0 e (whole_groups ps) ∙ sym (length_lower 0 e (whole_groups ps)))
    (omega (arith, fit, long, length_higher 0 e (whole_groups ps), groups_are ps))
    (λ t k. lower_bit 0 t e (whole_groups ps) (omega (arith, k, length_higher 0 e (whole_groups ps))))
    (grind (arith, length-map-range_with_len)) by_pair
  where
    fit : 312 * f + count ps f ≤ 4 * (length ps / 4)
    fit = field_fits ps f l

    long : length (in_groups (a53 ps) (313 * f + 1)) ≡ count ps f
    long = length-field ps f l

    by_pair : (t : ℕ) → t < 69 * length (in_groups (a53 ps) (313 * f + 1))
        → get_or (coder_symbols (in_groups (a53 ps) (313 * f + 1)) e) t (pos 0)
        ≡ symbol_at 1 (level (state_of (get_or zero_states e 0)) (higher 0 (whole_groups ps) e)
        (lower 0 (whole_groups ps) e) (21528 * f + t))
    by_pair t k = get_or-map-range_with_len (λ t. data_symbol (in_groups (a53 ps) (313 * f + 1)) (symbol_place 0 t e)) 0
        (69 * length (in_groups (a53 ps) (313 * f + 1))) t t (pos 0) k (omega arith)
        ∙ field_symbol ps f (symbol_place 0 t e) l (place_small t e (count ps f) (omega (arith, k, long)))
        ∙ ap (symbol_at 1) (ap (λ n. get_or (levels ps) n 0) (sym (place_further f t e))
        ∙ stream_level ps e (21528 * f + t) m (omega (arith, k, long, fit)))
