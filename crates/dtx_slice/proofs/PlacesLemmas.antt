-- Where the symbols of a coder stand, and its precoder bit.
use Rattle.std.proofs.Common.{◌≡◌, ℕ, ◌+◌, ◌-◌, ◌*◌, ◌/◌, ◌%◌, ◌<◌, ◌≤◌, inl, inr, List, get_or, refl, sym, ap, ap₂}
use Rattle.std.proofs.Common.{◌∙◌, subst, arith}
use Rattle.std.proofs.lemmas.Bool.{cases_lt, cond-false, ne_eqb}
use Rattle.dtx_trellis.specs.Lanes.{coder_turned, turn}
use Rattle.dtx_trellis.proofs.LaneRoundsLemmas.{first_coder, first_turn}
use Rattle.dtx_slice.specs.Unrolled.{symbol_place, precoder_bit, pair_from, pair_back, byte_back, coder_of, joined_byte}
use Rattle.dtx_slice.specs.Unrolled.{lane_byte, lane_level, lane_place, later_byte}

pub precoder_bit_zero : (s e : ℕ) (precoder_bits levels : List ℕ) → precoder_bit s precoder_bits levels 0 e
    ≡ get_or precoder_bits e 0
unfolding precoder_bit
precoder_bit_zero s e precoder_bits levels = refl

pub precoder_bit_next : (s r e : ℕ) (precoder_bits levels : List ℕ)
    → precoder_bit s precoder_bits levels (r + 1) e ≡ get_or levels (symbol_place s r e) 0 / 4
unfolding precoder_bit
precoder_bit_next s r e precoder_bits levels = grind (arith, cond-false, ne_eqb)

-- the coder at place p of the first round of byte h
abbrev pub lane_coder : ℕ → ℕ → ℕ → ℕ
lane_coder s h p = coder_turned (turn s (4 * h)) p

turned_place : (p x a d : ℕ) → p < 12 → d < 2 → ((p + 4 * ((x + a) % 3)) % 12 + 12 - 4 * ((x + (a + d)) % 3)) % 12
    ≡ (p + 12 - 4 * (a + d - a)) % 12
turned_place p x a d l m = omega arith

-- where that coder's symbol of the byte's round i stands
pub lane_symbol : (s h i p : ℕ) → i < 4 → p < 12 → symbol_place s (4 * h + i) (lane_coder s h p) ≡ lane_place h i p
unfolding symbol_place lane_place coder_turned turn
lane_symbol s h i p l m = grind (arith, turned_place)

pub lane_byte_coder : (s h p : ℕ) → p < 12 → coder_of s (12 * h + p) ≡ lane_coder s h p
unfolding coder_of coder_turned turn
lane_byte_coder s h p l = grind arith

-- the levels of two rounds of one byte, one behind the other
lane_pair : (s h i p : ℕ) (precoder_bits levels : List ℕ) → i < 3 → p < 12
    → pair_back s precoder_bits levels (4 * h + (i + 1)) (lane_coder s h p)
    ≡ pair_from (lane_level levels h i p / 4) (lane_level levels h (i + 1) p)
unfolding pair_back
lane_pair s h i p precoder_bits levels l m = ap₂ (λ x y. pair_from x (get_or levels y 0))
    (ap (λ r. precoder_bit s precoder_bits levels r (lane_coder s h p)) (omega arith)
    ∙ precoder_bit_next s (4 * h + i) (lane_coder s h p) precoder_bits levels
    ∙ ap (λ x. get_or levels x 0 / 4) (lane_symbol s h i p (omega arith) m)) (lane_symbol s h (i + 1) p (omega arith) m)

lane_first : (s h p b : ℕ) (precoder_bits levels : List ℕ) → p < 12
    → b ≡ precoder_bit s precoder_bits levels (4 * h) (lane_coder s h p)
    → pair_back s precoder_bits levels (4 * h) (lane_coder s h p) ≡ pair_from b (lane_level levels h 0 p)
unfolding pair_back
lane_first s h p b precoder_bits levels l e =
    ap₂ (λ x y. pair_from x (get_or levels y 0)) (sym e) (ap (λ r. symbol_place s r (lane_coder s h p)) (omega arith)
    ∙ lane_symbol s h 0 p (omega arith) l)

-- the lane's byte is the group's
pub lane_byte_is : (s h p b : ℕ) (precoder_bits levels : List ℕ) → p < 12
    → b ≡ precoder_bit s precoder_bits levels (4 * h) (lane_coder s h p)
    → lane_byte b levels h p ≡ byte_back s precoder_bits levels (12 * h + p)
unfolding lane_byte byte_back
lane_byte_is s h p b precoder_bits levels l e =
    sym (ap₂ (λ (x e : ℕ). 64 * pair_back s precoder_bits levels (4 * x) e + 16 * pair_back s precoder_bits levels
    (4 * x + 1) e + 4 * pair_back s precoder_bits levels (4 * x + 2) e + pair_back s precoder_bits levels (4 * x + 3) e)
    (omega arith) (lane_byte_coder s h p l)
    ∙ ap₂ (λ x y. 64 * x + 16 * y + 4 * pair_back s precoder_bits levels (4 * h + 2)
    (lane_coder s h p) + pair_back s precoder_bits levels (4 * h + 3) (lane_coder s h p))
    (lane_first s h p b precoder_bits levels l e) (lane_pair s h 0 p precoder_bits levels (omega arith) l)
    ∙ ap₂ (λ x y. 64 * pair_from b (lane_level levels h 0 p) + 16 * pair_from (lane_level levels h 0 p / 4)
    (lane_level levels h 1 p) + 4 * x + y)
    (lane_pair s h 1 p precoder_bits levels (omega arith) l) (lane_pair s h 2 p precoder_bits levels (omega arith) l))

-- the place of a coder in its own round
pub own_place : (s r p : ℕ) → p < 12 → symbol_place s r (coder_turned (turn s r) p) ≡ 12 * r + p
unfolding symbol_place coder_turned turn
own_place s r p l = ap (λ x. 12 * r + x) (omega arith)

-- a lane stands still within a segment, and four places back behind its end
pub lane_stays : (h i p : ℕ) → i < 4 → p < 12 → 4 * h % 69 + i < 69 → 12 * (4 * h + i) + p ≡ lane_place h i p
unfolding lane_place
lane_stays h i p l m n = grind arith

pub lane_moves : (h i p : ℕ) → i < 4 → p < 12 → 69 ≤ 4 * h % 69 + i → 12 * (4 * h + i) + (p + 8) % 12 ≡ lane_place h i p
unfolding lane_place
lane_moves h i p l m n = grind arith

-- Z2 before a group, laid out as bit 2
pub before_first : (s p x : ℕ) (precoder_bits levels : List ℕ) → get_or precoder_bits ((p + 4 * (s % 3)) % 12) 0 < 2
    → x ≡ 4 * get_or precoder_bits ((p + 4 * (s % 3)) % 12) 0
    → x / 4 % 2 ≡ precoder_bit s precoder_bits levels 0 (coder_turned (turn s 0) p)
before_first s p x precoder_bits levels l e = grind (arith, first_coder, precoder_bit_zero)

-- Z2 before a later byte is bit 2 of the levels of the round before
pub before_later : (s h p x : ℕ) (precoder_bits levels : List ℕ) → 0 < h → h < 69 → p < 12 → x < 8
    → x ≡ get_or levels (12 * (4 * h - 1) + p) 0
    → x / 4 % 2 ≡ precoder_bit s precoder_bits levels (4 * h) (lane_coder s h p)
before_later s h p x precoder_bits levels z l m n e = grind (arith, own_place, first_turn, precoder_bit_next)

-- and so the lane's byte is the group's
pub later_byte_is : (s h p : ℕ) (precoder_bits levels : List ℕ) → 0 < h → h < 69 → p < 12
    → get_or levels (12 * (4 * h - 1) + p) 0 < 8 → later_byte levels h p ≡ byte_back s precoder_bits levels (12 * h + p)
later_byte_is s h p precoder_bits levels z l m n = grind (arith, lane_byte_is, before_later)

last_symbol : (s e : ℕ) → 3300 + (e + 12 - 4 * (s % 3)) % 12 ≡ symbol_place s 275 e
unfolding symbol_place
last_symbol s e = omega arith

-- Z2 behind the last round
pub precoder_bit_last : (s e : ℕ) (precoder_bits levels : List ℕ)
    → get_or levels (3300 + (e + 12 - 4 * (s % 3)) % 12) 0 / 4 ≡ precoder_bit s precoder_bits levels 276 e
precoder_bit_last s e precoder_bits levels = rw (last_symbol s e, ← precoder_bit_next s 275 e precoder_bits levels)

-- the byte of four levels
pub lane_joined : (h p b x0 x1 x2 x3 : ℕ) (levels : List ℕ) → x0 ≡ lane_level levels h 0 p
    → x1 ≡ lane_level levels h 1 p → x2 ≡ lane_level levels h 2 p → x3 ≡ lane_level levels h 3 p
    → joined_byte b x0 x1 x2 x3 ≡ lane_byte b levels h p
unfolding lane_byte
lane_joined h p b x0 x1 x2 x3 levels e0 e1 e2 e3 = grind arith

-- bytes from number h on, twelve for each of n numbers
pub bytes_over : (h n : ℕ) (P : ℕ → Type 0) → ((j : ℕ) → j < 12 * h → P j)
    → ((i p : ℕ) → h ≤ i → i < h + n → p < 12 → P (12 * i + p)) → (j : ℕ) → j < 12 * (h + n) → P j
bytes_over h n P f g j l = elim (cases_lt j (12 * h)) [
  | inl k ↦ f j k
  | inr k ↦ subst P (omega arith) (g (j / 12) (j % 12) (omega arith) (omega arith) (omega arith))
]

-- twelve bytes more
pub bytes_more : (h : ℕ) (P : ℕ → Type 0) → ((j : ℕ) → j < 12 * h → P j) → ((p : ℕ) → p < 12 → P (12 * h + p)) → (j : ℕ)
    → j < 12 * (h + 1) → P j
bytes_more h P f g j l = elim (cases_lt j (12 * h)) [
  | inl k ↦ f j k
  | inr k ↦ subst P (omega arith) (g (j - 12 * h) (omega arith))
]
