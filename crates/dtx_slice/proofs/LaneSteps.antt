-- Lane by lane: what the vectors' operations give.
use Rattle.std.proofs.Common.{◌≡◌, ℕ, ◌+◌, ◌-◌, ◌*◌, ◌/◌, ◌%◌, ◌<◌, ◌≤◌, ◌==◌, ◌⊎◌, inl, inr, true, List, [], ◌∷◌, ◌++◌}
use Rattle.std.proofs.Common.{map, length, get_or, w8, refl, sym, ap, ap₂, ◌∙◌, subst, arith}
use Rattle.std.specs.Int.RustNames.{bit_xor}
use Rattle.std.proofs.lemmas.Bool.{cases_lt, eqb-true}
use Rattle.std.proofs.lemmas.List.{get_or-map, get_or_append_left, get_or-append_right, get_or_past, length-map}
use Rattle.std.proofs.lemmas.Simd.{swz_l, length-swz_l}
use lib.Lanes.{zip2}
use Rattle.dtx_lists.proofs.Below.{holds_below, at_below}
use Rattle.dtx_trellis.specs.Lanes.{AreNibbles}
use Rattle.dtx_trellis.proofs.LaneStepsLemmas.{at_zip, long_zip}
use Rattle.dtx_slice.specs.Unrolled.{joined_byte}
use Rattle.dtx_slice.proofs.Slices.{AreSmall}
use Rattle.dtx_slice.specs.declared.walk.TheConstants.{FIRST, SECOND, THIRD, FOURTH, BEFORE}

-- the lanes of the places four back
abbrev pub positions : List ℕ
positions = 8 ∷ 9 ∷ 10 ∷ 11 ∷ 0 ∷ 1 ∷ 2 ∷ 3 ∷ 4 ∷ 5 ∷ 6 ∷ 7 ∷ 12 ∷ 13 ∷ 14 ∷ 15 ∷ []

position_test : holds_below (λ p. get_or positions p 0 == (p + 8) % 12) 12 ≡ true
position_test = refl

pub turned_at : (v : List ℕ) (p : ℕ) → length v ≡ 16 → p < 12
    → get_or (map (λ k. get_or (v ++ v) k 0) positions) p 0 ≡ get_or v ((p + 8) % 12) 0
turned_at v p h l = get_or-map (λ k. get_or (v ++ v) k 0) positions p 0 0 (omega arith) ∙ ap (λ k. get_or (v ++ v) k 0)
    (grind (arith, eqb-true, at_below, position_test)) ∙ get_or_append_left v v 0 ((p + 8) % 12) (omega arith)

-- levels that are picked from a vector
pub picked_small : (v places : List ℕ) → AreSmall v → AreSmall (map (λ k. get_or (v ++ v) k 0) places)
picked_small v places f p l = subst (λ x. x < 8) (sym (get_or-map (λ k. get_or (v ++ v) k 0) places p 0 0
    (grind (arith, length-map)))) (twice (get_or places p 0) (cases_lt (get_or places p 0) (length v)))
  where
    once : (k : ℕ) → (k < length v) ⊎ (length v ≤ k) → get_or v k 0 < 8
    once k (inl m) = f k m
    once k (inr m) = subst (λ x. x < 8) (sym (get_or_past v k 0 m)) (omega arith)

    twice : (k : ℕ) → (k < length v) ⊎ (length v ≤ k) → get_or (v ++ v) k 0 < 8
    twice k (inl m) = subst (λ x. x < 8) (sym (get_or_append_left v v 0 k m)) (f k m)
    twice k (inr m) = subst (λ x. x < 8) (sym (get_or-append_right v v (length v) k 0 refl m))
        (once (k - length v) (cases_lt (k - length v) (length v)))

-- levels as places of a table
pub levels_asked : (v : List ℕ) → length v ≡ 16 → AreSmall v → AreNibbles v
levels_asked v h f = record { long = h; small = λ p l. let m = f p (omega arith) in omega arith }

pub long_shares : (table v : List ℕ) → length v ≡ 16 → length (swz_l w8 16 table 0 v) ≡ 16
long_shares table v h = length-swz_l w8 16 table 0 v ∙ h

-- the byte of one lane, from the shares of five levels
abbrev byte_of : ℕ → ℕ → ℕ → ℕ → ℕ → ℕ
byte_of e a b c d = bit_xor (bit_xor e (bit_xor a b)) (bit_xor c d)

abbrev byte_lane : ℕ → ℕ → ℕ → ℕ → ℕ → ℕ
byte_lane e a b c d = byte_of e (get_or FIRST a 0) (get_or SECOND b 0) (get_or THIRD c 0) (get_or FOURTH d 0)

before_test : holds_below (λ n. get_or BEFORE n 0 == 128 * (n / 4 % 2)) 8 ≡ true
before_test = refl

byte_test : holds_below (λ n. byte_lane (128 * (n / 4096)) (n / 512 % 8) (n / 64 % 8) (n / 8 % 8) (n % 8)
    == joined_byte (n / 4096) (n / 512 % 8) (n / 64 % 8) (n / 8 % 8) (n % 8)) 8192 ≡ true
byte_test = refl

byte_is : (z a b c d : ℕ) → z < 2 → a < 8 → b < 8 → c < 8 → d < 8 → byte_lane (128 * z) a b c d ≡ joined_byte z a b c d
byte_is z a b c d k l m n o = at (4096 * z + 512 * a + 64 * b + 8 * c + d) (omega arith)
    (omega arith) (omega arith) (omega arith) (omega arith) (omega arith)
  where
    at : (n : ℕ) → n < 8192 → n / 4096 ≡ z → n / 512 % 8 ≡ a → n / 64 % 8 ≡ b → n / 8 % 8 ≡ c → n % 8 ≡ d
        → byte_lane (128 * z) a b c d ≡ joined_byte z a b c d
    at n p e f g h i = sym (grind arith)
        ∙ (eqb-true (byte_lane (128 * (n / 4096)) (n / 512 % 8) (n / 64 % 8) (n / 8 % 8) (n % 8))
        (joined_byte (n / 4096) (n / 512 % 8) (n / 64 % 8) (n / 8 % 8) (n % 8))
        (at_below (λ n. byte_lane (128 * (n / 4096)) (n / 512 % 8) (n / 64 % 8) (n / 8 % 8) (n % 8) == joined_byte
        (n / 4096) (n / 512 % 8) (n / 64 % 8) (n / 8 % 8) (n % 8)) 8192 n byte_test p))
        ∙ ap₂ (λ x y. joined_byte x y (n / 64 % 8) (n / 8 % 8) (n % 8)) e f
        ∙ ap₂ (λ x y. joined_byte z a x y (n % 8)) g h ∙ ap (joined_byte z a b c) i

-- the shares of five vectors
pub record AreShares (e a b c d : List ℕ) : Type 0 where
  pub before : length e ≡ 16
  pub first : length a ≡ 16
  pub second : length b ≡ 16
  pub third : length c ≡ 16
  pub fourth : length d ≡ 16

abbrev pub joined_lanes : List ℕ → List ℕ → List ℕ → List ℕ → List ℕ → List ℕ
joined_lanes e a b c d = zip2 bit_xor (zip2 bit_xor e (zip2 bit_xor a b)) (zip2 bit_xor c d)

pub long_joined : (e a b c d : List ℕ) → AreShares e a b c d → length (joined_lanes e a b c d) ≡ 16
long_joined e a b c d h = grind (arith, long_zip)

joined_shares : (e a b c d : List ℕ) (p : ℕ) → AreShares e a b c d → p < 12 → get_or (joined_lanes e a b c d) p 0
    ≡ byte_of (get_or e p 0) (get_or a p 0) (get_or b p 0) (get_or c p 0) (get_or d p 0)
joined_shares e a b c d p h l = grind (arith, at_zip, long_zip)

-- the shares of one lane
pub record HasShares (p y0 x0 x1 x2 x3 : ℕ) (e a b c d : List ℕ) : Type 0 where
  pub before : get_or e p 0 ≡ get_or BEFORE y0 0
  pub first : get_or a p 0 ≡ get_or FIRST x0 0
  pub second : get_or b p 0 ≡ get_or SECOND x1 0
  pub third : get_or c p 0 ≡ get_or THIRD x2 0
  pub fourth : get_or d p 0 ≡ get_or FOURTH x3 0

pub joined_at : (p y0 x0 x1 x2 x3 : ℕ) (e a b c d : List ℕ) → AreShares e a b c d → p < 12
    → HasShares p y0 x0 x1 x2 x3 e a b c d → y0 < 8 → x0 < 8 → x1 < 8 → x2 < 8 → x3 < 8
    → get_or (joined_lanes e a b c d) p 0 ≡ joined_byte (y0 / 4 % 2) x0 x1 x2 x3
joined_at p y0 x0 x1 x2 x3 e a b c d long l h k m n o q = joined_shares e a b c d p long l
    ∙ ap₂ (λ x y. byte_of x y (get_or b p 0) (get_or c p 0) (get_or d p 0))
    (h.before ∙ eqb-true (get_or BEFORE y0 0) (128 * (y0 / 4 % 2))
    (at_below (λ n. get_or BEFORE n 0 == 128 * (n / 4 % 2)) 8 y0 before_test k)) h.first
    ∙ ap₂ (λ x y. byte_of (128 * (y0 / 4 % 2)) (get_or FIRST x0 0) x y (get_or d p 0)) h.second h.third
    ∙ ap (byte_of (128 * (y0 / 4 % 2)) (get_or FIRST x0 0) (get_or SECOND x1 0) (get_or THIRD x2 0)) h.fourth
    ∙ byte_is (y0 / 4 % 2) x0 x1 x2 x3 (omega arith) m n o q
