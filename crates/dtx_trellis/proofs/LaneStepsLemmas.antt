-- Lane by lane: what the vectors' operations and the tables give.
use Rattle.std.proofs.Common.{◌≡◌, ℕ, ◌+◌, ◌*◌, ◌/◌, ◌%◌, ◌<◌, ◌==◌, ◌&&◌, ltb, true, ℤ, pos, List, [], ◌∷◌, ◌++◌, map}
use Rattle.std.proofs.Common.{replicate, length, get_or, refl, sym, ap, ap₂, ◌∙◌, arith, w8, to_z}
use Rattle.std.specs.Int.RustNames.{bit_and, bit_xor}
use Rattle.std.specs.List.{range_with_len}
use Rattle.std.proofs.lemmas.Bool.{eqb-true, ltb-true, and_parts}
use Rattle.std.proofs.lemmas.List.{get_or-map, get_or_append_left, length-map}
use Rattle.std.proofs.lemmas.List.FromFn.{get_or-map-range_with_len}
use Rattle.std.proofs.lemmas.Simd.{get_or-zip2, length-zip2, get_or-replicate, length-replicate, Each1-from_get_or}
use Rattle.std.proofs.lemmas.Simd.{swz_l, SwzOk, SwzOk-from_below, get_or-swz_l_below}
use lib.Lanes.{zip2}
use Rattle.dtx_lists.proofs.Below.{holds_below, at_below}
use Rattle.dtx_trellis.specs.declared.lanes.TheConstants.{BEHIND_PAIRS, BEHIND_LANES, DOUBLED}
use Rattle.dtx_trellis.specs.Trellis.{State, AreBits, level_of, next_of, number_of, state_of, symbol_of}
use Rattle.dtx_trellis.specs.Lanes.{AreNibbles, behind_both, lane_behind, level_told, turned_place}
use Rattle.dtx_trellis.proofs.RoundsLemmas.{bits_of}
use Rattle.dtx_trellis.proofs.GoesOnLemmas.{next_bits}

-- the lanes of the places four further on
abbrev pub positions : List ℕ
positions = 4 ∷ 5 ∷ 6 ∷ 7 ∷ 8 ∷ 9 ∷ 10 ∷ 11 ∷ 0 ∷ 1 ∷ 2 ∷ 3 ∷ 12 ∷ 13 ∷ 14 ∷ 15 ∷ []

position_test : holds_below (λ p. get_or positions p 0 == turned_place p && ltb (turned_place p) 16) 16 ≡ true
position_test = refl

position_is : (p : ℕ) → p < 16 → (get_or positions p 0 ≡ turned_place p) × (turned_place p < 16)
position_is p l = grind (arith, and_parts, at_below, position_test, eqb-true, ltb-true)

pub turned_small : (p : ℕ) → p < 16 → turned_place p < 16
turned_small p l = (position_is p l).1

pub turned_at : (v : List ℕ) (p : ℕ) → length v ≡ 16 → p < 16
    → get_or (map (λ k. get_or (v ++ v) k 0) positions) p 0 ≡ get_or v (turned_place p) 0
turned_at v p h l = get_or-map (λ k. get_or (v ++ v) k 0) positions p 0 0 (omega arith)
    ∙ grind (arith, position_is, get_or_append_left, turned_small)

-- an operation on two vectors, and on a vector and one number
pub long_zip : (f : ℕ → ℕ → ℕ) (xs ys : List ℕ) → length xs ≡ 16 → length ys ≡ 16 → length (zip2 f xs ys) ≡ 16
long_zip f xs ys h k = length-zip2 f xs ys (h ∙ sym k) ∙ h

pub long_splat : (f : ℕ → ℕ → ℕ) (xs : List ℕ) (v : ℕ) → length xs ≡ 16 → length (zip2 f xs (replicate 16 v)) ≡ 16
long_splat f xs v h = long_zip f xs (replicate 16 v) h (length-replicate {A = ℕ} 16 v)

pub at_zip : (f : ℕ → ℕ → ℕ) (xs ys : List ℕ) (p : ℕ) → length xs ≡ 16 → length ys ≡ 16 → p < 16
    → get_or (zip2 f xs ys) p 0 ≡ f (get_or xs p 0) (get_or ys p 0)
at_zip f xs ys p h k l = get_or-zip2 f xs ys p 0 0 0 (omega arith) (omega arith)

pub splat_at : (f : ℕ → ℕ → ℕ) (xs : List ℕ) (v p : ℕ) → length xs ≡ 16 → p < 16
    → get_or (zip2 f xs (replicate 16 v)) p 0 ≡ f (get_or xs p 0) v
splat_at f xs v p h l = grind (arith, at_zip, length-replicate, get_or-replicate)

-- the lower four bits of a byte
low_test : holds_below (λ x. bit_and x 15 == x % 16) 256 ≡ true
low_test = refl

pub low_bits : (x : ℕ) → x < 256 → bit_and x 15 ≡ x % 16
low_bits x l = eqb-true (bit_and x 15) (x % 16) (at_below (λ x. bit_and x 15 == x % 16) 256 x low_test l)

-- a look-up
pub look_up_ok : (lanes : List ℕ) → AreNibbles lanes → SwzOk w8 16 16 0 lanes
look_up_ok lanes h = SwzOk-from_below w8 16 1 16 0 lanes refl (omega (arith, h.long))
    (Each1-from_get_or (λ j. j < 16) lanes 0 (λ p l. h.small p (omega (arith, h.long))))

pub looked_up_at : (table lanes : List ℕ) (p : ℕ) → AreNibbles lanes → p < 16
    → get_or (swz_l w8 16 table 0 lanes) p 0 ≡ get_or table (get_or lanes p 0) 0
looked_up_at table lanes p h l = grind (arith, get_or-swz_l_below)

-- the tables
both_test : holds_below (λ i. bit_xor (get_or BEHIND_PAIRS (i / 16) 0) (get_or BEHIND_LANES (i % 16) 0)
    == behind_both (i % 16) (i / 16)) 256 ≡ true
unfolding behind_both lane_behind
both_test = refl

pub both_at : (k n : ℕ) → k < 16 → n < 16
    → bit_xor (get_or BEHIND_PAIRS n 0) (get_or BEHIND_LANES k 0) ≡ behind_both k n
both_at k n l m = sym (ap₂ (λ x y. bit_xor (get_or BEHIND_PAIRS x 0) (get_or BEHIND_LANES y 0)) upper lower)
    ∙ eqb-true (bit_xor (get_or BEHIND_PAIRS ((16 * n + k) / 16) 0) (get_or BEHIND_LANES ((16 * n + k) % 16) 0))
    (behind_both ((16 * n + k) % 16) ((16 * n + k) / 16))
    (at_below (λ i. bit_xor (get_or BEHIND_PAIRS (i / 16) 0) (get_or BEHIND_LANES (i % 16) 0)
    == behind_both (i % 16) (i / 16)) 256 (16 * n + k) both_test (omega arith))
    ∙ ap₂ (λ x y. behind_both y x) upper lower
  where
    upper : (16 * n + k) / 16 ≡ n
    upper = omega arith

    lower : (16 * n + k) % 16 ≡ k
    lower = omega arith

doubled_test : holds_below (λ n. get_or DOUBLED n 0 == 2 * level_told n) 16 ≡ true
unfolding level_told
doubled_test = refl

pub doubled_at : (n : ℕ) → n < 16 → get_or DOUBLED n 0 ≡ 2 * level_told n
doubled_at n l = eqb-true (get_or DOUBLED n 0) (2 * level_told n)
    (at_below (λ n. get_or DOUBLED n 0 == 2 * level_told n) 16 n doubled_test l)

pub level_small : (n : ℕ) → level_told n < 8
unfolding level_told
level_small n = omega arith

-- the symbols of sixteen lanes that hold twice a level, where g makes a byte signed and f subtracts
abbrev pub sent_lanes : (ℕ → ℕ → ℕ) → (ℕ → ℕ) → List ℕ → List ℤ
sent_lanes f g doubled = map (to_z w8) (zip2 f (map g doubled) (replicate 16 7))

pub long_sent : (f : ℕ → ℕ → ℕ) (g : ℕ → ℕ) (doubled : List ℕ) → length doubled ≡ 16
    → length (sent_lanes f g doubled) ≡ 16
long_sent f g doubled h = length-map (zip2 f (map g doubled) (replicate 16 7)) (to_z w8)
    ∙ long_splat f (map g doubled) 7 (length-map doubled g ∙ h)

pub sent_at : (f : ℕ → ℕ → ℕ) (g : ℕ → ℕ) (doubled : List ℕ) (p z : ℕ) → length doubled ≡ 16 → p < 16
    → get_or doubled p 0 ≡ 2 * z → z < 8
    → map (λ z. to_z w8 (f (g (2 * z)) 7)) (range_with_len 0 8) ≡ map symbol_of (range_with_len 0 8)
    → get_or (sent_lanes f g doubled) p (pos 0) ≡ symbol_of z
sent_at f g doubled p z h l e m all = get_or-map (to_z w8) (zip2 f (map g doubled) (replicate 16 7)) p 0 (pos 0)
    (omega (arith, long_splat f (map g doubled) 7 (length-map doubled g ∙ h)))
    ∙ ap (to_z w8) (splat_at f (map g doubled) 7 p (length-map doubled g ∙ h) l
    ∙ ap (λ x. f x 7) (get_or-map g doubled p 0 0 (omega (arith, h)) ∙ ap g e))
    ∙ sym (get_or-map-range_with_len (λ z. to_z w8 (f (g (2 * z)) 7)) 0 8 z z (pos 0) m (omega arith))
    ∙ ap (λ (xs : List ℤ). get_or xs z (pos 0)) all
    ∙ get_or-map-range_with_len symbol_of 0 8 z z (pos 0) m (omega arith)

pub lane_small : (q : State) (pair : ℕ) → AreBits q → lane_behind q pair < 16
unfolding lane_behind
lane_small q pair h = omega (arith, h.q1)

pub state_eq : (q r : State) → q.q2 ≡ r.q2 → q.q1 ≡ r.q1 → q.q0 ≡ r.q0 → q ≡ r
state_eq q r e f g = grind arith

number_back : (q : State) (b : ℕ) → AreBits q → state_of (8 * b + number_of q) ≡ q
number_back q b h = grind (arith, state_eq)

pub state_behind : (q : State) (pair : ℕ) → AreBits q → state_of (lane_behind q pair) ≡ next_of q (pair / 2) (pair % 2)
unfolding lane_behind
state_behind q pair h = number_back (next_of q (pair / 2) (pair % 2)) (pair % 2) (next_bits q (pair / 2) (pair % 2) h)

level_back : (q : State) (b : ℕ) → b < 2 → AreBits q → level_told (8 * b + number_of q) ≡ 4 * q.q2 + 2 * b + q.q0
unfolding level_told
level_back q b l h = grind arith

pub level_behind : (q : State) (pair : ℕ) → AreBits q
    → level_told (lane_behind q pair) ≡ level_of q (pair / 2) (pair % 2)
unfolding lane_behind
level_behind q pair h =
    level_back (next_of q (pair / 2) (pair % 2)) (pair % 2) (omega arith) (next_bits q (pair / 2) (pair % 2) h)

-- behind the first of two pairs, and behind the second
pub upper_both : (k n : ℕ) → behind_both k n / 16 ≡ lane_behind (state_of k) (n / 4)
unfolding behind_both
upper_both k n = grind (arith, lane_small, bits_of)

pub lower_both : (k n : ℕ) → behind_both k n % 16 ≡ lane_behind (next_of (state_of k) (n / 4 / 2) (n / 4 % 2)) (n % 4)
unfolding behind_both
lower_both k n = grind (arith, lane_small, bits_of, state_behind)
