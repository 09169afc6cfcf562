-- A round of the twelve coders, by the sums.
use Rattle.std.proofs.Common.{◌≡◌, ℕ, ◌+◌, ◌*◌, ◌/◌, ◌%◌, ◌<◌, ◌≤◌, List, length, get_or, refl, arith}
use Rattle.dtx_trellis.specs.Trellis.{AreBits, state_after, level_of, next_of, state_of, groups, byte_place, pair_in}
use Rattle.dtx_trellis.specs.Trellis.{coder_at, higher, lower}
use Rattle.dtx_trellis.specs.Groups.{level_at, coder_after}
use Rattle.dtx_trellis.proofs.StepsLemmas.{state_step, level_step}
use Rattle.dtx_trellis.proofs.GoesOnLemmas.{after_bits}
use Rattle.dtx_trellis.proofs.CodersLemmas.{higher_at, lower_at, length_higher, one_group, pair_of_round}

pub bits_of : (n : ℕ) → AreBits (state_of n)
bits_of n = record { q2 = omega arith; q1 = omega arith; q0 = omega arith }

pub coder_bits : (s e t : ℕ) (states y : List ℕ) → t ≤ 276 * groups y → AreBits (coder_after s states y t e)
unfolding coder_after
coder_bits s e t states y l = grind (arith, after_bits, bits_of, length_higher)

-- what coder e of a group at place s takes in round r
abbrev pub byte_of : ℕ → List ℕ → ℕ → ℕ → ℕ
byte_of s bytes r e = get_or bytes (byte_place s r e) 0

-- one group, at place s
pub record IsGroup (s : ℕ) (bytes : List ℕ) : Type 0 where
  pub place : s < 312
  pub long : length bytes ≡ 828

higher_bit : (s r e : ℕ) (bytes : List ℕ) → IsGroup s bytes → r < 276
    → get_or (higher s bytes e) r 0 ≡ pair_in (byte_of s bytes r e) r / 2
higher_bit s r e bytes g l = grind (arith, higher_at, one_group, pair_of_round)

lower_bit : (s r e : ℕ) (bytes : List ℕ) → IsGroup s bytes → r < 276
    → get_or (lower s bytes e) r 0 ≡ pair_in (byte_of s bytes r e) r % 2
lower_bit s r e bytes g l = grind (arith, lower_at, one_group, pair_of_round)

pub coder_next : (s r e : ℕ) (states bytes : List ℕ) → IsGroup s bytes → r < 276
    → coder_after s states bytes (r + 1) e ≡ next_of (coder_after s states bytes r e)
    (pair_in (byte_of s bytes r e) r / 2) (pair_in (byte_of s bytes r e) r % 2)
unfolding coder_after
coder_next s r e states bytes g l = grind (arith, state_step, bits_of, length_higher, one_group, higher_bit, lower_bit)

pub level_next : (s r p : ℕ) (states bytes : List ℕ) → IsGroup s bytes → r < 276 → p < 12
    → level_at s states bytes (12 * r + p) ≡ level_of (coder_after s states bytes r (coder_at s (12 * r + p)))
    (pair_in (byte_of s bytes r (coder_at s (12 * r + p))) r / 2)
    (pair_in (byte_of s bytes r (coder_at s (12 * r + p))) r % 2)
unfolding coder_after level_at
level_next s r p states bytes g l m =
    grind (arith, level_step, bits_of, length_higher, one_group, higher_bit, lower_bit)

pub first_state : (s e : ℕ) (states bytes : List ℕ) → state_of (get_or states e 0) ≡ coder_after s states bytes 0 e
unfolding coder_after state_after
first_state s e states bytes = refl
