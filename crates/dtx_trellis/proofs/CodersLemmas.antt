-- Which coder stands where.
use Rattle.std.proofs.Common.{◌≡◌, ℕ, ◌+◌, ◌-◌, ◌*◌, ◌/◌, ◌%◌, ◌^◌, ◌<◌, List, length, get_or, sym, ap, ◌∙◌, arith}
use Rattle.std.proofs.lemmas.List.FromFn.{get_or-map-range_with_len, length-map-range_with_len}
use Rattle.dtx_trellis.specs.Trellis.{groups, group_place, byte_place, pair_in, pair_at, coder_at, higher, lower}

pub coder_is : (s r p : ℕ) → p < 12 → coder_at s (12 * r + p) ≡ (p + 4 * ((s + r / 69) % 3)) % 12
unfolding coder_at
coder_is s r p l = grind arith

pub coder_small : (s d : ℕ) → coder_at s d < 12
unfolding coder_at
coder_small s d = omega arith

pub turn_back : (x e : ℕ) → x < 3 → e < 12 → ((e + 12 - 4 * x) % 12 + 4 * x) % 12 ≡ e
turn_back x e l m = omega arith

-- a pair by its number in the byte
pub pair_0 : (b r : ℕ) → r % 4 ≡ 0 → b / 64 % 4 ≡ pair_in b r
unfolding pair_in
pair_0 b r e = ap (λ x. b / 4 ^ (3 - x) % 4) (sym e)

pub pair_1 : (b r : ℕ) → r % 4 ≡ 1 → b / 16 % 4 ≡ pair_in b r
unfolding pair_in
pair_1 b r e = ap (λ x. b / 4 ^ (3 - x) % 4) (sym e)

pub pair_2 : (b r : ℕ) → r % 4 ≡ 2 → b / 4 % 4 ≡ pair_in b r
unfolding pair_in
pair_2 b r e = ap (λ x. b / 4 ^ (3 - x) % 4) (sym e)

pub pair_3 : (b r : ℕ) → r % 4 ≡ 3 → b % 4 ≡ pair_in b r
unfolding pair_in
pair_3 b r e = omega arith ∙ ap (λ x. b / 4 ^ (3 - x) % 4) (sym e)

-- the pairs of a list of groups, by their numbers
pub higher_at : (s e t : ℕ) (bytes : List ℕ) → t < 276 * groups bytes
    → get_or (higher s bytes e) t 0 ≡ pair_at s bytes e t / 2
unfolding higher
higher_at s e t bytes l = grind (arith, get_or-map-range_with_len)

pub lower_at : (s e t : ℕ) (bytes : List ℕ) → t < 276 * groups bytes
    → get_or (lower s bytes e) t 0 ≡ pair_at s bytes e t % 2
unfolding lower
lower_at s e t bytes l = grind (arith, get_or-map-range_with_len)

pub length_higher : (s e : ℕ) (bytes : List ℕ) → length (higher s bytes e) ≡ 276 * groups bytes
unfolding higher
length_higher s e bytes = length-map-range_with_len (λ t. pair_at s bytes e t / 2) 0 (276 * groups bytes)

pub length_lower : (s e : ℕ) (bytes : List ℕ) → length (lower s bytes e) ≡ 276 * groups bytes
unfolding lower
length_lower s e bytes = length-map-range_with_len (λ t. pair_at s bytes e t % 2) 0 (276 * groups bytes)

-- of one group alone
pub one_group : (bytes : List ℕ) → length bytes ≡ 828 → groups bytes ≡ 1
unfolding groups
one_group bytes h = ap (λ n. n / 828) h

-- the pairs of the first group are those of its rounds
pub pair_of_round : (s e r : ℕ) (bytes : List ℕ) → s < 312 → r < 276
    → pair_at s bytes e r ≡ pair_in (get_or bytes (byte_place s r e) 0) r
unfolding pair_at group_place
pair_of_round s e r bytes h l = grind arith
