-- Where the symbols stand on which a byte of a run hangs, and how far apart those of two bytes are.
use Rattle.std.proofs.Common.{◌≡◌, ℕ, zero, suc, ◌+◌, ◌-◌, ◌*◌, ◌/◌, ◌%◌, ◌<◌, ◌≤◌, ◌==◌, ◌⊎◌, inl, inr, cond, refl, ap}
use Rattle.std.proofs.Common.{◌∙◌, arith}
use Rattle.std.proofs.lemmas.Bool.{cases_lt, cond-false, ne_eqb}
use Rattle.dtx_slice.specs.Unrolled.{lane_place, symbol_place, coder_of}
use Rattle.dtx_slice.proofs.PlacesLemmas.{lane_symbol, lane_byte_coder}

-- the place of a run's data symbol d among all of its symbols
abbrev pub position : ℕ → ℕ
position d = 832 * (d / 828 + d / 828 / 312 + 1) + 4 + d % 828

-- The places of a byte's symbols rise: that of its coder's symbol before them comes first, which is one of the first
-- field sync's last twelve where none comes before, and that of its last pair comes last.
unfoldable pub position_of : ℕ → ℕ → ℕ
position_of r e = cond (r == 0) (820 + (e + 4) % 12) (position (symbol_place 0 (r - 1) e))

pub position_rises : (c d : ℕ) → c ≤ d → position c ≤ position d
position_rises c d l = omega (arith, l)

pub place_rises : (r e : ℕ) → symbol_place 0 r e ≤ symbol_place 0 (r + 1) e
unfolding symbol_place
place_rises r e = omega arith

-- ---- two bytes

-- the symbol before byte 12 * h + p, and that of its last pair
abbrev first_data : ℕ → ℕ → ℕ
first_data h p = 12 * (4 * h - 1) + (p + 4 * (4 * h / 69 - (4 * h - 1) / 69)) % 12

abbrev last_data : ℕ → ℕ → ℕ
last_data h p = 12 * (4 * h + 3) + (p + 12 - 4 * ((4 * h + 3) / 69 - 4 * h / 69)) % 12

turned_back : (h p : ℕ) → p < 12 → 0 < h
    → ((p + 4 * ((0 + 4 * h / 69) % 3)) % 12 + 12 - 4 * ((0 + (4 * h - 1) / 69) % 3)) % 12
    ≡ (p + 4 * (4 * h / 69 - (4 * h - 1) / 69)) % 12
turned_back h p l s = omega (arith, l, s)

first_is : (h p : ℕ) → p < 12 → 0 < h → symbol_place 0 (4 * h - 1) (coder_of 0 (12 * h + p)) ≡ first_data h p
unfolding symbol_place coder_of
first_is h p l s = grind (arith, turned_back)

last_is : (h p : ℕ) → p < 12 → symbol_place 0 (4 * h + 3) (coder_of 0 (12 * h + p)) ≡ last_data h p
unfolding lane_place
last_is h p l = ap (symbol_place 0 (4 * h + 3)) (lane_byte_coder 0 h p l) ∙ lane_symbol 0 h 3 p (omega arith) l

-- of a byte, in whichever twelve it stands
twelve : (y : ℕ) → 12 * (y / 12) + y % 12 ≡ y
twelve y = omega arith

-- the places of a byte's first and last symbol
abbrev pub begin_of : ℕ → ℕ
begin_of y = position_of (4 * (y / 12)) (coder_of 0 y)

abbrev pub end_of : ℕ → ℕ
end_of y = position_of (4 * (y / 12) + 4) (coder_of 0 y)

-- each comes behind the one before
pub first_position : (e : ℕ) → position_of 0 e ≡ 820 + (e + 4) % 12
unfolding position_of
first_position e = refl

pub next_position : (r e : ℕ) → position_of (r + 1) e ≡ position (symbol_place 0 r e)
unfolding position_of
next_position r e = grind (arith, cond-false, ne_eqb)

pub of_rises : (r e : ℕ) → position_of r e ≤ position_of (r + 1) e
of_rises zero e = omega (arith, first_position e, next_position 0 e)
of_rises (suc r) e =
    let a : r + 1 ≡ suc r = omega arith in
    rw (← a) (grind (arith, next_position, position_rises, place_rises))

begin_is : (y : ℕ) → 0 < y / 12 → begin_of y ≡ position (first_data (y / 12) (y % 12))
begin_is y s = grind (arith, next_position, twelve, first_is)

end_is : (y : ℕ) → end_of y ≡ position (last_data (y / 12) (y % 12))
end_is y = ap (λ r. position_of r (coder_of 0 y)) (omega arith) ∙ next_position (4 * (y / 12) + 3) (coder_of 0 y)
    ∙ ap position (grind (arith, twelve, last_is))

-- ---- ten bytes of a word lie between them

data_apart_ten : (h p g q : ℕ) → p < 12 → q < 12 → 12 * h + p + 522 ≤ 12 * g + q → last_data h p + 2014 ≤ first_data g q
data_apart_ten h p g q l m a = omega (arith, l, m, a)

position_apart_ten : (c d : ℕ) → c + 2014 ≤ d → position c + 2022 ≤ position d
position_apart_ten c d l = omega (arith, l)

pub apart_ten : (y z : ℕ) → y + 522 ≤ z → end_of y + 2022 ≤ begin_of z
apart_ten y z l = grind (arith, end_is, begin_is, position_apart_ten, data_apart_ten)

-- ---- twenty bytes of a word lie between them

-- So many places apart are bytes of one word: those of one ramp, 1,045 or 1,046, or further ones.
abbrev pub AreTwenty : ℕ → ℕ → Type 0
AreTwenty y z = ((y + 1045 ≤ z) × (z ≤ y + 1046)) ⊎ (y + 1097 ≤ z)

data_apart_twenty : (h p g q : ℕ) → p < 12 → q < 12 → AreTwenty (12 * h + p) (12 * g + q)
    → last_data h p + 4121 ≤ first_data g q
data_apart_twenty h p g q l m (inl (a, b)) = omega (arith, l, m, a, b)
data_apart_twenty h p g q l m (inr a) = omega (arith, l, m, a)

-- a little more near a segment's begin
data_apart_early : (h p g q : ℕ) → p < 12 → q < 12 → AreTwenty (12 * h + p) (12 * g + q) → last_data h p % 828 < 19
    → last_data h p + 4125 ≤ first_data g q
data_apart_early h p g q l m (inl (a, b)) s = omega (arith, l, m, a, b, s)
data_apart_early h p g q l m (inr a) s = omega (arith, l, m, a)

position_apart_twenty : (c d : ℕ) → c + 4121 ≤ d → (19 ≤ c % 828) ⊎ (c + 4125 ≤ d) → position c + 4141 ≤ position d
position_apart_twenty c d l (inl s) = omega (arith, l, s)
position_apart_twenty c d l (inr m) = omega (arith, m)

pub apart_twenty : (y z : ℕ) → AreTwenty y z → end_of y + 4141 ≤ begin_of z
apart_twenty y z a =
    grind (arith, end_is, begin_is, cases_lt, twelve, position_apart_twenty, data_apart_twenty, data_apart_early)
