-- The levels and states of a stream go on behind those of its first groups.
use Rattle.std.proofs.Common.{◌≡◌, ℕ, ◌+◌, ◌*◌, ◌/◌, ◌%◌, ◌≤◌, List, ◌++◌, length, take, drop, ap, subst, ◌∙◌, arith}
use Rattle.std.proofs.lemmas.List.{length-take-le, take-append-drop}
use Rattle.std.proofs.lemmas.List.FromFn.{length-map-range_with_len}
use Rattle.dtx_trellis.specs.Trellis.{groups, group_place}
use Rattle.dtx_trellis.specs.Groups.{level_at, levels_of, states_after}
use Rattle.dtx_trellis.proofs.JoinsLemmas.{states_append, levels_append, groups_whole}
use Rattle.dtx_coder.specs.Stream.{whole_groups, zero_states, levels, states}
use Rattle.dtx_coder.proofs.BytesLemmas.{bytes_behind, length-whole, whole_append, whole_next}

place_is : (u : ℕ) → group_place 0 u ≡ 4 * u % 312
unfolding group_place
place_is u = ap (λ (n : ℕ). n % 312) (let e : 0 + 4 * u ≡ 4 * u = omega arith in e)

long : (ps : List (List ℕ)) (u : ℕ) → length ps ≡ 4 * u → length (whole_groups ps) ≡ 828 * u
long ps u e = length-whole ps ∙ ap (λ (n : ℕ). 828 * n) (let d : length ps / 4 ≡ u = omega (arith, e) in d)

-- the levels of the bytes y behind the packets ps, and the states behind them
abbrev pub levels_behind : List (List ℕ) → ℕ → List ℕ → List ℕ
levels_behind ps u y = levels_of (4 * u % 312) (states ps) y

abbrev pub states_behind : List (List ℕ) → ℕ → List ℕ → List ℕ
states_behind ps u y = states_after (4 * u % 312) (states ps) y

levels_go_on : (ps qs : List (List ℕ)) (u : ℕ) (y : List ℕ) → length ps ≡ 4 * u
    → whole_groups (ps ++ qs) ≡ whole_groups ps ++ y → levels (ps ++ qs) ≡ levels ps ++ levels_behind ps u y
unfolding levels states
levels_go_on ps qs u y e h = rw (h, levels_append 0 u zero_states (whole_groups ps) y (long ps u e), place_is u)

states_go_on : (ps qs : List (List ℕ)) (u : ℕ) (y : List ℕ) → length ps ≡ 4 * u
    → whole_groups (ps ++ qs) ≡ whole_groups ps ++ y → states (ps ++ qs) ≡ states_behind ps u y
unfolding states
states_go_on ps qs u y e h = rw (h, states_append 0 u zero_states (whole_groups ps) y (long ps u e), place_is u)

pub length-levels_of : (s : ℕ) (q y : List ℕ) (n : ℕ) → length y ≡ 828 * n → length (levels_of s q y) ≡ 3312 * n
unfolding levels_of
length-levels_of s q y n e = rw (length-map-range_with_len (level_at s q y) 0 (3312 * groups y), groups_whole n y e)

pub length-levels : (ps : List (List ℕ)) → length (levels ps) ≡ 3312 * (length ps / 4)
unfolding levels
length-levels ps = length-levels_of 0 zero_states (whole_groups ps) (length ps / 4) (length-whole ps)

-- any packets behind whole groups
pub levels_more : (ps qs : List (List ℕ)) (u : ℕ) → length ps ≡ 4 * u
    → levels (ps ++ qs) ≡ levels ps ++ levels_behind ps u (drop (828 * u) (whole_groups (ps ++ qs)))
levels_more ps qs u e = levels_go_on ps qs u (drop (828 * u) (whole_groups (ps ++ qs))) e (whole_append ps qs u e)

pub states_more : (ps qs : List (List ℕ)) (u : ℕ) → length ps ≡ 4 * u
    → states (ps ++ qs) ≡ states_behind ps u (drop (828 * u) (whole_groups (ps ++ qs)))
states_more ps qs u e = states_go_on ps qs u (drop (828 * u) (whole_groups (ps ++ qs))) e (whole_append ps qs u e)

-- the next group
pub levels_next : (ps qs : List (List ℕ)) (u : ℕ) → length ps ≡ 4 * u → length qs ≡ 4
    → levels (ps ++ qs) ≡ levels ps ++ levels_behind ps u (bytes_behind ps qs)
levels_next ps qs u e f = levels_go_on ps qs u (bytes_behind ps qs) e (whole_next ps qs u e f)

pub states_next : (ps qs : List (List ℕ)) (u : ℕ) → length ps ≡ 4 * u → length qs ≡ 4
    → states (ps ++ qs) ≡ states_behind ps u (bytes_behind ps qs)
states_next ps qs u e f = states_go_on ps qs u (bytes_behind ps qs) e (whole_next ps qs u e f)

-- from group u on
pub levels_from : (packets : List (List ℕ)) (u : ℕ) → 4 * u ≤ length packets
    → levels packets ≡ levels (take (4 * u) packets)
    ++ levels_behind (take (4 * u) packets) u (drop (828 * u) (whole_groups packets))
levels_from packets u l = subst (λ (all : List (List ℕ)). levels all ≡ levels (take (4 * u) packets)
    ++ levels_behind (take (4 * u) packets) u (drop (828 * u) (whole_groups all))) (take-append-drop (4 * u) packets)
    (levels_more (take (4 * u) packets) (drop (4 * u) packets) u (length-take-le (4 * u) packets l))

pub states_from : (packets : List (List ℕ)) (u : ℕ) → 4 * u ≤ length packets
    → states packets ≡ states_behind (take (4 * u) packets) u (drop (828 * u) (whole_groups packets))
states_from packets u l = subst (λ (all : List (List ℕ)). states all ≡ states_behind (take (4 * u) packets) u
    (drop (828 * u) (whole_groups all))) (take-append-drop (4 * u) packets)
    (states_more (take (4 * u) packets) (drop (4 * u) packets) u (length-take-le (4 * u) packets l))
