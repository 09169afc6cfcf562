-- The bytes of whole groups come back from the levels that the coders give.
use Rattle.std.proofs.Common.{◌≡◌, ℕ, zero, suc, ◌+◌, ◌-◌, ◌*◌, ◌/◌, ◌%◌, ◌<◌, ◌≤◌, List, map, length, get_or, sym, ap}
use Rattle.std.proofs.Common.{ap₂, ◌∙◌, arith}
use Rattle.std.specs.List.{range_with_len}
use Rattle.std.proofs.lemmas.Bool.{cond-false, ne_eqb}
use Rattle.std.proofs.lemmas.List.FromFn.{fill_by_all, get_or-map-range_with_len, length-map-range_with_len}
use Rattle.dtx_lists.proofs.Range.{map-range_same}
use Rattle.dtx_trellis.specs.Trellis.{AreBits, State, z2, z0, level, state_after, state_of, number_of, groups}
use Rattle.dtx_trellis.specs.Trellis.{group_place, byte_place, pair_in, pair_at, coder_at, higher, lower}
use Rattle.dtx_trellis.specs.Groups.{level_at, levels_of, coder_after, states_after}
use Rattle.dtx_trellis.proofs.StepsLemmas.{z2_next, z2_first, after_zero}
use Rattle.dtx_trellis.proofs.CodersLemmas.{turn_back, coder_is, higher_at, lower_at, length_higher, pair_0, pair_1}
use Rattle.dtx_trellis.proofs.CodersLemmas.{pair_2, pair_3}
use Rattle.dtx_trellis.proofs.RoundsLemmas.{coder_bits}
use Rattle.dtx_trellis.proofs.JoinsLemmas.{groups_whole}
use Rattle.dtx_slice.specs.Unrolled.{symbol_place, precoder_bit, pair_back, byte_back, coder_of, level_groups}
use Rattle.dtx_slice.specs.Unrolled.{bytes_back, precoder_bits_after, precoder_bits_in}
use Rattle.dtx_slice.proofs.PlacesLemmas.{precoder_bit_zero, precoder_bit_next}

-- whose symbol that is, and in which round
pub place_coder : (s r e : ℕ) → e < 12 → coder_at s (symbol_place s r e) ≡ e
unfolding symbol_place
place_coder s r e l = grind (arith, coder_is, turn_back)

pub place_round : (s r e : ℕ) → symbol_place s r e / 12 ≡ r
unfolding symbol_place
place_round s r e = omega arith

pub place_within : (s r e n : ℕ) → r < 276 * n → symbol_place s r e < 3312 * n
unfolding symbol_place
place_within s r e n l = omega arith

-- the level there
at_place : (s r e : ℕ) (states bytes : List ℕ) → e < 12 → level_at s states bytes (symbol_place s r e)
    ≡ level (state_of (get_or states e 0)) (higher s bytes e) (lower s bytes e) r
unfolding level_at
at_place s r e states bytes l = grind (arith, place_coder, place_round)

level_z2 : (q : State) (a b : List ℕ) (t : ℕ) → get_or b t 0 < 2 → level q a b t / 4 ≡ z2 q a t
unfolding level z2 z0
level_z2 q a b t l = omega arith

pub level_z1 : (q : State) (a b : List ℕ) (t : ℕ) → get_or b t 0 < 2 → level q a b t / 2 % 2 ≡ get_or b t 0
unfolding level z2 z0
level_z1 q a b t l = omega arith

pub lower_bit : (s r e : ℕ) (bytes : List ℕ) → r < 276 * groups bytes → get_or (lower s bytes e) r 0 < 2
lower_bit s r e bytes l = let h = lower_at s e r bytes l in omega arith

pair_small : (s e t : ℕ) (bytes : List ℕ) → pair_at s bytes e t < 4
unfolding pair_at pair_in
pair_small s e t bytes = omega arith

higher_bit : (s r e : ℕ) (bytes : List ℕ) → r < 276 * groups bytes → get_or (higher s bytes e) r 0 < 2
higher_bit s r e bytes l = grind (arith, higher_at, pair_small)

-- the levels are those of the coders, from states in which the precoder bits are these
pub record Coded (s : ℕ) (states bytes precoder_bits levels : List ℕ) : Type 0 where
  pub at : (d : ℕ) → d < 3312 * groups bytes → get_or levels d 0 ≡ level_at s states bytes d
  pub from : (e : ℕ) → e < 12 → get_or precoder_bits e 0 ≡ (state_of (get_or states e 0)).q2

coded_at : (s r e : ℕ) (states bytes precoder_bits levels : List ℕ) → Coded s states bytes precoder_bits levels
    → r < 276 * groups bytes → e < 12
    → get_or levels (symbol_place s r e) 0 ≡ level (state_of (get_or states e 0)) (higher s bytes e) (lower s bytes e) r
coded_at s r e states bytes precoder_bits levels h l m = h.at (symbol_place s r e) (place_within s r e (groups bytes) l)
    ∙ at_place s r e states bytes m

coded_z2 : (s r e : ℕ) (states bytes precoder_bits levels : List ℕ) → Coded s states bytes precoder_bits levels
    → r < 276 * groups bytes → e < 12
    → get_or levels (symbol_place s r e) 0 / 4 ≡ z2 (state_of (get_or states e 0)) (higher s bytes e) r
coded_z2 s r e states bytes precoder_bits levels h l m = ap (λ x. x / 4) (grind (arith, coded_at))
    ∙ level_z2 (state_of (get_or states e 0)) (higher s bytes e) (lower s bytes e) r (lower_bit s r e bytes l)

coded_z1 : (s r e : ℕ) (states bytes precoder_bits levels : List ℕ) → Coded s states bytes precoder_bits levels
    → r < 276 * groups bytes → e < 12 → get_or levels (symbol_place s r e) 0 / 2 % 2 ≡ get_or (lower s bytes e) r 0
coded_z1 s r e states bytes precoder_bits levels h l m = ap (λ x. x / 2 % 2) (grind (arith, coded_at))
    ∙ level_z1 (state_of (get_or states e 0)) (higher s bytes e) (lower s bytes e) r (lower_bit s r e bytes l)

after_q2 : (q : State) (a b : List ℕ) (t : ℕ) → (state_after q a b (suc t)).q2 ≡ z2 q a t
unfolding state_after
after_q2 q a b t = grind (arith, cond-false, ne_eqb)

-- the precoder bit is the coder's q2
pub coded_bit : (s r e : ℕ) (states bytes precoder_bits levels : List ℕ) → Coded s states bytes precoder_bits levels
    → r ≤ 276 * groups bytes → e < 12 → precoder_bit s precoder_bits levels r e ≡ (coder_after s states bytes r e).q2
unfolding coder_after
coded_bit s zero e states bytes precoder_bits levels h l m = grind (arith, precoder_bit_zero, after_zero)
coded_bit s (suc r) e states bytes precoder_bits levels h l m =
    ap (λ t. precoder_bit s precoder_bits levels t e) (omega arith) ∙ precoder_bit_next s r e precoder_bits levels
    ∙ coded_z2 s r e states bytes precoder_bits levels h (omega arith) m ∙ sym (grind (arith, after_q2))

parts : (a b p : ℕ) → p < 4 → a ≡ p / 2 → b ≡ p % 2 → 2 * a + b ≡ p
parts a b p l e f = omega arith

-- Z2 less the precoder bit is X2
z2_back : (s r e : ℕ) (states bytes : List ℕ) → r < 276 * groups bytes
    → (z2 (state_of (get_or states e 0)) (higher s bytes e) r + (coder_after s states bytes r e).q2) % 2
    ≡ get_or (higher s bytes e) r 0
unfolding coder_after
z2_back s zero e states bytes l = grind (arith, higher_bit, after_zero, z2_first, length_higher)
z2_back s (suc t) e states bytes l =
    let n : suc t ≡ t + 1 = omega arith in
    first (z2 (state_of (get_or states e 0)) (higher s bytes e) t) (get_or (higher s bytes e) (suc t) 0)
    (z2 (state_of (get_or states e 0)) (higher s bytes e) (suc t))
    (state_after (state_of (get_or states e 0)) (higher s bytes e) (lower s bytes e) (suc t)).q2
    (higher_bit s (suc t) e bytes l) (after_q2 (state_of (get_or states e 0)) (higher s bytes e) (lower s bytes e) t)
    (rw n (z2_next (state_of (get_or states e 0)) (higher s bytes e) t (omega (arith, length_higher s e bytes))))
  where
    first : (q a z y : ℕ) → a < 2 → y ≡ q → z ≡ (q + a) % 2 → (z + y) % 2 ≡ a
    first q a z y l e f = omega arith

-- one pair
coded_pair : (s r e : ℕ) (states bytes precoder_bits levels : List ℕ) → Coded s states bytes precoder_bits levels
    → r < 276 * groups bytes → e < 12 → pair_back s precoder_bits levels r e ≡ pair_at s bytes e r
unfolding pair_back
coded_pair s r e states bytes precoder_bits levels h l m =
    parts ((get_or levels (symbol_place s r e) 0 / 4 + precoder_bit s precoder_bits levels r e) % 2)
    (get_or levels (symbol_place s r e) 0 / 2 % 2) (pair_at s bytes e r) (pair_small s e r bytes)
    (ap₂ (λ x y. (x + y) % 2) (coded_z2 s r e states bytes precoder_bits levels h l m) (grind (arith, coded_bit))
    ∙ z2_back s r e states bytes l ∙ higher_at s e r bytes l)
    (coded_z1 s r e states bytes precoder_bits levels h l m ∙ lower_at s e r bytes l)

-- the coder that works on byte j does so in four rounds
turn_to : (x k : ℕ) → x < 3 → k < 12 → ((k + 4 * x) % 12 + 12 - 4 * x) % 12 ≡ k
turn_to x k l m = omega arith

same_turn : (s m : ℕ) → ((s + 4 * (m / 69)) % 312 + 4 * (m % 69) / 69) % 3 ≡ (s + 4 * m / 69) % 3
same_turn s m = grind arith

group_byte : (s j : ℕ)
    → 828 * (j / 12 / 69) + byte_place (group_place s (j / 12 / 69)) (4 * (j / 12 % 69)) (coder_of s j) ≡ j
unfolding byte_place group_place coder_of
group_byte s j = ap (λ x. 828 * (j / 12 / 69) + (12 * x + ((j % 12 + 4 * ((s + 4 * (j / 12) / 69) % 3)) % 12 + 12 - 4 *
    (((s + 4 * (j / 12 / 69)) % 312 + 4 * x / 69) % 3)) % 12)) (omega arith)
    ∙ ap (λ x. 828 * (j / 12 / 69) + (12 * (j / 12 % 69) +
    ((j % 12 + 4 * ((s + 4 * (j / 12) / 69) % 3)) % 12 + 12 - 4 * x) % 12)) (same_turn s (j / 12))
    ∙ ap (λ x. 828 * (j / 12 / 69) + (12 * (j / 12 % 69) + x)) (grind (arith, turn_to)) ∙ whole j
  where
    whole : (j : ℕ) → 828 * (j / 12 / 69) + (12 * (j / 12 % 69) + j % 12) ≡ j
    whole j = omega arith

-- a round of a byte has the byte's place in its first round
same_byte : (q h i e : ℕ) → i < 4 → byte_place q (4 * h + i) e ≡ byte_place q (4 * h) e
unfolding byte_place
same_byte q h i e l = grind arith

pair_of_byte : (s j i : ℕ) (bytes : List ℕ) → i < 4
    → pair_at s bytes (coder_of s j) (4 * (j / 12) + i) ≡ pair_in (get_or bytes j 0) (4 * (j / 12 % 69) + i)
unfolding pair_at
pair_of_byte s j i bytes l =
    let r : (4 * (j / 12) + i) % 276 ≡ 4 * (j / 12 % 69) + i = omega arith in
    ap₂ (λ (x y : ℕ). pair_in (get_or bytes (828 * x + byte_place (group_place s x) y (coder_of s j)) 0) y)
    (omega arith) r ∙ ap (λ x. pair_in (get_or bytes (828 * (j / 12 / 69) + x) 0) (4 * (j / 12 % 69) + i))
    (grind (arith, same_byte)) ∙ ap (λ x. pair_in (get_or bytes x 0) (4 * (j / 12 % 69) + i)) (group_byte s j)

pub coder_of_small : (s j : ℕ) → coder_of s j < 12
unfolding coder_of
coder_of_small s j = omega arith

whole : (b : ℕ) → b < 256 → 64 * (b / 64 % 4) + 16 * (b / 16 % 4) + 4 * (b / 4 % 4) + b % 4 ≡ b
whole b l = omega arith

pair_back_is : (s j i : ℕ) (states bytes precoder_bits levels : List ℕ) → Coded s states bytes precoder_bits levels
    → j < 828 * groups bytes → i < 4 → pair_back s precoder_bits levels (4 * (j / 12) + i) (coder_of s j)
    ≡ pair_in (get_or bytes j 0) (4 * (j / 12 % 69) + i)
pair_back_is s j i states bytes precoder_bits levels h l m =
    coded_pair s (4 * (j / 12) + i) (coder_of s j) states bytes precoder_bits levels h (omega arith)
    (coder_of_small s j)
    ∙ pair_of_byte s j i bytes m

coded_byte : (s j : ℕ) (states bytes precoder_bits levels : List ℕ) → Coded s states bytes precoder_bits levels
    → j < 828 * groups bytes → get_or bytes j 0 < 256 → byte_back s precoder_bits levels j ≡ get_or bytes j 0
unfolding byte_back
coded_byte s j states bytes precoder_bits levels h l m =
    let z : 4 * (j / 12) ≡ 4 * (j / 12) + 0 = omega arith in
    let p0 : pair_back s precoder_bits levels (4 * (j / 12)) (coder_of s j) ≡ get_or bytes j 0 / 64 % 4 =
    ap (λ r. pair_back s precoder_bits levels r (coder_of s j)) z
    ∙ pair_back_is s j 0 states bytes precoder_bits levels h l (omega arith) ∙ sym (grind (arith, pair_0)) in
    let p1 : pair_back s precoder_bits levels (4 * (j / 12) + 1) (coder_of s j) ≡ get_or bytes j 0 / 16 % 4 =
    pair_back_is s j 1 states bytes precoder_bits levels h l (omega arith)
    ∙ sym (pair_1 (get_or bytes j 0) (4 * (j / 12 % 69) + 1) (omega arith)) in
    let p3 : pair_back s precoder_bits levels (4 * (j / 12) + 3) (coder_of s j) ≡ get_or bytes j 0 % 4 =
    pair_back_is s j 3 states bytes precoder_bits levels h l (omega arith)
    ∙ sym (pair_3 (get_or bytes j 0) (4 * (j / 12 % 69) + 3) (omega arith)) in
    ap₂ (λ x y. 64 * x + 16 * y + 4 * pair_back s precoder_bits levels (4 * (j / 12) + 2)
    (coder_of s j) + pair_back s precoder_bits levels (4 * (j / 12) + 3) (coder_of s j)) p0 p1
    ∙ ap₂ (λ x y. 64 * (get_or bytes j 0 / 64 % 4) + 16 * (get_or bytes j 0 / 16 % 4) + 4 * x + y)
    (pair_back_is s j 2 states bytes precoder_bits levels h l (omega arith)
    ∙ sym (pair_2 (get_or bytes j 0) (4 * (j / 12 % 69) + 2) (omega arith))) p3 ∙ whole (get_or bytes j 0) m

-- the coders' levels and the Z2 of their states
coded : (s : ℕ) (states bytes : List ℕ) → Coded s states bytes (precoder_bits_in states) (levels_of s states bytes)
unfolding levels_of precoder_bits_in
coded s states bytes = record {
  at = λ d l. get_or-map-range_with_len (level_at s states bytes) 0 (3312 * groups bytes) d d 0 l (omega arith);
  from = λ e l. get_or-map-range_with_len (λ e. get_or states e 0 / 4 % 2) 0 12 e e 0 l (omega arith);
}

level_groups_of : (s : ℕ) (states bytes : List ℕ) → level_groups (levels_of s states bytes) ≡ groups bytes
unfolding level_groups levels_of
level_groups_of s states bytes = grind (arith, length-map-range_with_len)

pub bytes_come_back : (s u : ℕ) (states bytes : List ℕ) → length bytes ≡ 828 * u
    → ((j : ℕ) → j < length bytes → get_or bytes j 0 < 256)
    → bytes_back s (precoder_bits_in states) (levels_of s states bytes) ≡ bytes
unfolding bytes_back
bytes_come_back s u states bytes h f =
    let n : groups bytes ≡ u = groups_whole u bytes h in
    ap (λ g. map (byte_back s (precoder_bits_in states) (levels_of s states bytes)) (range_with_len 0 (828 * g)))
    (level_groups_of s states bytes ∙ n)
    ∙ sym (fill_by_all (byte_back s (precoder_bits_in states) (levels_of s states bytes)) bytes (828 * u) 0 h
    (λ j l. sym (coded_byte s j states bytes (precoder_bits_in states) (levels_of s states bytes) (coded s states bytes)
    (omega arith) (f j (omega arith)))))

number_q2 : (q : State) → AreBits q → number_of q / 4 % 2 ≡ q.q2
number_q2 q h = omega (arith, h.q2, h.q1, h.q0)

pub precoder_bits_go_on : (s : ℕ) (states bytes : List ℕ)
    → precoder_bits_after s (precoder_bits_in states) (levels_of s states bytes)
    ≡ precoder_bits_in (states_after s states bytes)
unfolding precoder_bits_after precoder_bits_in states_after
precoder_bits_go_on s states bytes =
    ap (λ g. map (precoder_bit s (precoder_bits_in states) (levels_of s states bytes) (276 * g)) (range_with_len 0 12))
    (level_groups_of s states bytes)
    ∙ map-range_same (precoder_bit s (precoder_bits_in states) (levels_of s states bytes) (276 * groups bytes))
    (λ e. get_or (map (λ e. number_of (coder_after s states bytes (276 * groups bytes) e)) (range_with_len 0 12)) e
    0 / 4 % 2) 0 12
    (λ e _ l. coded_bit s (276 * groups bytes) e states bytes (precoder_bits_in states) (levels_of s states bytes)
    (coded s states bytes) (omega arith) l ∙ sym (ap (λ x. x / 4 % 2) (get_or-map-range_with_len
    (λ e. number_of (coder_after s states bytes (276 * groups bytes) e)) 0 12 e e 0 l (omega arith))
    ∙ number_q2 (coder_after s states bytes (276 * groups bytes) e) (grind (arith, coder_bits))))
