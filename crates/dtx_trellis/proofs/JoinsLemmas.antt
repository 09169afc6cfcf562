-- The groups of a longer list: the pairs, the states and the levels go on from those of the first groups.
use Rattle.std.proofs.Common.{◌≡◌, ℕ, ◌+◌, ◌*◌, ◌/◌, ◌%◌, ◌<◌, ◌≤◌, List, ◌++◌, map, length, get_or, sym, ap, ap₂}
use Rattle.std.proofs.Common.{◌∙◌, arith}
use Rattle.std.specs.List.{range_with_len}
use Rattle.std.proofs.lemmas.List.{get_or_append_left, get_or-append_right, length-append}
use Rattle.std.proofs.lemmas.List.FromFn.{get_or-map-range_with_len}
use Rattle.dtx_lists.proofs.Range.{map-range_same}
use Rattle.dtx_lists.proofs.RangeParts.{map-range_parts}
use Rattle.dtx_trellis.specs.Trellis.{AreBits, State, level, state_after, state_of, number_of, groups, group_place}
use Rattle.dtx_trellis.specs.Trellis.{byte_place, pair_in, pair_at, coder_at, higher, lower}
use Rattle.dtx_trellis.specs.Groups.{coder_after, level_at, levels_of, states_after}
use Rattle.dtx_trellis.proofs.CodersLemmas.{coder_small, length_higher, length_lower}
use Rattle.dtx_trellis.proofs.RoundsLemmas.{bits_of, coder_bits}
use Rattle.dtx_trellis.proofs.GoesOnLemmas.{same_levels, state_goes_on, level_goes_on}

same_below : (f g : ℕ → ℕ) (n : ℕ) → ((k : ℕ) → k < n → f k ≡ g k)
    → map f (range_with_len 0 n) ≡ map g (range_with_len 0 n)
same_below f g n h = map-range_same f g 0 n (λ k _ l. h k (omega arith))

-- the place of a byte in its group is below 828
place_small : (s r e : ℕ) → r < 276 → byte_place s r e < 828
unfolding byte_place
place_small s r e l = omega arith

pub groups_whole : (u : ℕ) (y : List ℕ) → length y ≡ 828 * u → groups y ≡ u
unfolding groups
groups_whole u y h = let e : length y / 828 ≡ u = omega arith in e

pub groups_append : (u : ℕ) (y z : List ℕ) → length y ≡ 828 * u → groups (y ++ z) ≡ u + groups z
unfolding groups
groups_append u y z h = grind (arith, length-append)

pair_before : (s u e t : ℕ) (y z : List ℕ) → length y ≡ 828 * u → t < 276 * u → pair_at s (y ++ z) e t ≡ pair_at s y e t
unfolding pair_at
pair_before s u e t y z h l = grind (arith, place_small, get_or_append_left)

place_on : (s u v : ℕ) → group_place s (u + v) ≡ group_place (group_place s u) v
unfolding group_place
place_on s u v = omega arith

pair_behind : (s u e t : ℕ) (y z : List ℕ) → length y ≡ 828 * u
    → pair_at s (y ++ z) e (276 * u + t) ≡ pair_at (group_place s u) z e t
unfolding pair_at
pair_behind s u e t y z h =
    ap₂ (λ (v r : ℕ). pair_in (get_or (y ++ z) (828 * v + byte_place (group_place s v) r e) 0) r) (omega arith)
    (omega arith)
    ∙ ap (λ (q : ℕ). pair_in (get_or (y ++ z) (828 * (u + t / 276) + byte_place q (t % 276) e) 0) (t % 276))
    (place_on s u (t / 276)) ∙ ap (λ (b : ℕ). pair_in b (t % 276)) (grind (arith, byte))
  where
    byte : (p v : ℕ) → get_or (y ++ z) (828 * (u + v) + p) 0 ≡ get_or z (828 * v + p) 0
    byte p v = get_or-append_right y z (828 * u) (828 * (u + v) + p) 0 h (omega arith)
        ∙ ap (λ i. get_or z i 0) (omega arith)

bits_append : (f : ℕ → ℕ) (s u e : ℕ) (y z : List ℕ) → length y ≡ 828 * u
    → map (λ t. f (pair_at s (y ++ z) e t)) (range_with_len 0 (276 * groups (y ++ z)))
    ≡ map (λ t. f (pair_at s y e t)) (range_with_len 0 (276 * groups y))
    ++ map (λ t. f (pair_at (group_place s u) z e t)) (range_with_len 0 (276 * groups z))
bits_append f s u e y z h =
    ap (λ n. map (λ t. f (pair_at s (y ++ z) e t)) (range_with_len 0 n)) (ap (λ n. 276 * n) (groups_append u y z h)
    ∙ omega arith)
    ∙ map-range_parts (λ t. f (pair_at s (y ++ z) e t)) (λ t. f (pair_at (group_place s u) z e t)) (276 * u)
    (276 * groups z) (λ k l. ap f (pair_behind s u e k y z h))
    ∙ ap (λ (xs : List ℕ). xs ++ map (λ t. f (pair_at (group_place s u) z e t)) (range_with_len 0 (276 * groups z)))
    (same_below (λ t. f (pair_at s (y ++ z) e t)) (λ t. f (pair_at s y e t)) (276 * u)
    (λ k l. ap f (pair_before s u e k y z h l))
    ∙ ap (λ n. map (λ t. f (pair_at s y e t)) (range_with_len 0 (276 * n))) (sym (groups_whole u y h)))

pub higher_append : (s u e : ℕ) (y z : List ℕ) → length y ≡ 828 * u
    → higher s (y ++ z) e ≡ higher s y e ++ higher (group_place s u) z e
unfolding higher
higher_append s u e y z h = bits_append (λ x. x / 2) s u e y z h

pub lower_append : (s u e : ℕ) (y z : List ℕ) → length y ≡ 828 * u
    → lower s (y ++ z) e ≡ lower s y e ++ lower (group_place s u) z e
unfolding lower
lower_append s u e y z h = bits_append (λ x. x % 2) s u e y z h

number_bits : (q : State) → AreBits q → state_of (number_of q) ≡ q
number_bits q h = grind arith

-- the state that the first groups leave
left_state : (s u e : ℕ) (states y : List ℕ) → length y ≡ 828 * u → e < 12
    → state_of (get_or (states_after s states y) e 0)
    ≡ state_after (state_of (get_or states e 0)) (higher s y e) (lower s y e) (length (higher s y e))
unfolding states_after coder_after
left_state s u e states y h l =
    ap state_of (get_or-map-range_with_len (λ e. number_of (coder_after s states y (276 * groups y) e)) 0 12 e e 0 l
    (omega arith)) ∙ grind (arith, number_bits, coder_bits, length_higher)

pub coder_append : (s u e t : ℕ) (states y z : List ℕ) → length y ≡ 828 * u → e < 12 → t ≤ 276 * groups z
    → coder_after s states (y ++ z) (276 * u + t) e ≡ coder_after (group_place s u) (states_after s states y) z t e
unfolding coder_after
coder_append s u e t states y z h l m =
    let q : State = state_of (get_or states e 0) in
    let g : 276 * u ≡ length (higher s y e) = sym (length_higher s e y ∙ ap (λ n. 276 * n) (groups_whole u y h)) in
    ap₂ (λ (a b : List ℕ). state_after q a b (276 * u + t)) (higher_append s u e y z h) (lower_append s u e y z h)
    ∙ ap (λ n. state_after q (higher s y e ++ higher (group_place s u) z e) (lower s y e ++ lower (group_place s u) z e)
    (n + t)) g
    ∙ state_goes_on q (higher s y e) (lower s y e) (higher (group_place s u) z e) (lower (group_place s u) z e) t
    (bits_of (get_or states e 0)) (length_higher s e y ∙ sym (length_lower s e y)) (grind (arith, length_higher))
    ∙ ap (λ p. state_after p (higher (group_place s u) z e) (lower (group_place s u) z e) t)
    (sym (left_state s u e states y h l))

pub states_append : (s u : ℕ) (states y z : List ℕ) → length y ≡ 828 * u
    → states_after s states (y ++ z) ≡ states_after (group_place s u) (states_after s states y) z
unfolding states_after
states_append s u states y z h = same_below (λ e. number_of (coder_after s states (y ++ z) (276 * groups (y ++ z)) e))
    (λ e. number_of (coder_after (group_place s u) (states_after s states y) z (276 * groups z) e)) 12
    (λ e l. ap number_of (ap (λ n. coder_after s states (y ++ z) n e) (ap (λ n. 276 * n) (groups_append u y z h)
    ∙ omega arith) ∙ coder_append s u e (276 * groups z) states y z h l (omega arith)))

coder_on : (s u d : ℕ) → coder_at s (3312 * u + d) ≡ coder_at (group_place s u) d
unfolding coder_at group_place
coder_on s u d = grind arith

level_before : (s u d : ℕ) (states y z : List ℕ) → length y ≡ 828 * u → d < 3312 * u
    → level_at s states (y ++ z) d ≡ level_at s states y d
unfolding level_at
level_before s u d states y z h l = at (coder_at s d)
  where
    at : (e : ℕ) → level (state_of (get_or states e 0)) (higher s (y ++ z) e) (lower s (y ++ z) e) (d / 12)
        ≡ level (state_of (get_or states e 0)) (higher s y e) (lower s y e) (d / 12)
    at e =
        let g : length (higher s y e) ≡ 276 * u = length_higher s e y ∙ ap (λ n. 276 * n) (groups_whole u y h) in
        let k : length (lower s y e) ≡ 276 * u = length_lower s e y ∙ ap (λ n. 276 * n) (groups_whole u y h) in
        ap₂ (λ (a b : List ℕ). level (state_of (get_or states e 0)) a b (d / 12)) (higher_append s u e y z h)
        (lower_append s u e y z h)
        ∙ same_levels (state_of (get_or states e 0)) (higher s y e ++ higher (group_place s u) z e) (lower s y e
        ++ lower (group_place s u) z e) (higher s y e) (lower s y e) (d / 12) (bits_of (get_or states e 0))
        (grind (arith, length-append, get_or_append_left))

level_behind : (s u d : ℕ) (states y z : List ℕ) → length y ≡ 828 * u → d < 3312 * groups z
    → level_at s states (y ++ z) (3312 * u + d) ≡ level_at (group_place s u) (states_after s states y) z d
unfolding level_at
level_behind s u d states y z h l =
    rw (coder_on s u d, at (coder_at (group_place s u) d) (coder_small (group_place s u) d))
  where
    at : (e : ℕ) → e < 12
        → level (state_of (get_or states e 0)) (higher s (y ++ z) e) (lower s (y ++ z) e) ((3312 * u + d) / 12)
        ≡ level (state_of (get_or (states_after s states y) e 0)) (higher (group_place s u) z e)
        (lower (group_place s u) z e) (d / 12)
    at e m =
        let q : State = state_of (get_or states e 0) in
        let g : 276 * u ≡ length (higher s y e) = sym (length_higher s e y ∙ ap (λ n. 276 * n) (groups_whole u y h)) in
        ap₂ (λ (a b : List ℕ). level q a b ((3312 * u + d) / 12)) (higher_append s u e y z h) (lower_append s u e y z h)
        ∙ ap (level q (higher s y e ++ higher (group_place s u) z e) (lower s y e ++ lower (group_place s u) z e))
        (omega arith ∙ ap (λ n. n + d / 12) g)
        ∙ level_goes_on q (higher s y e) (lower s y e) (higher (group_place s u) z e) (lower (group_place s u) z e)
        (d / 12) (bits_of (get_or states e 0)) (length_higher s e y
        ∙ sym (length_lower s e y)) (omega (arith, length_higher (group_place s u) e z))
        ∙ ap (λ p. level p (higher (group_place s u) z e) (lower (group_place s u) z e) (d / 12))
        (sym (left_state s u e states y h m))

pub levels_append : (s u : ℕ) (states y z : List ℕ) → length y ≡ 828 * u
    → levels_of s states (y ++ z) ≡ levels_of s states y ++ levels_of (group_place s u) (states_after s states y) z
unfolding levels_of
levels_append s u states y z h =
    ap (λ n. map (level_at s states (y ++ z)) (range_with_len 0 n)) (ap (λ n. 3312 * n) (groups_append u y z h)
    ∙ omega arith)
    ∙ map-range_parts (level_at s states (y ++ z)) (level_at (group_place s u) (states_after s states y) z) (3312 * u)
    (3312 * groups z) (λ d l. level_behind s u d states y z h l)
    ∙ ap (λ (xs : List ℕ). xs ++ map (level_at (group_place s u) (states_after s states y) z)
    (range_with_len 0 (3312 * groups z)))
    (same_below (level_at s states (y ++ z)) (level_at s states y) (3312 * u) (λ d l. level_before s u d states y z h l)
    ∙ ap (λ n. map (level_at s states y) (range_with_len 0 (3312 * n))) (sym (groups_whole u y h)))
