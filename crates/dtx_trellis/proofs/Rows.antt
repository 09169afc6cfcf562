-- The definitions at worked places: the tables of the coder, of its bytes and its bits.
use Rattle.std.proofs.Common.{◌≡◌, ℕ, ◌+◌, ◌*◌, ◌/◌, ◌%◌, [], ◌∷◌, map, replicate, refl, ap, arith}
use Rattle.dtx_trellis.specs.Trellis.{level, z2, z0, alternate, level_of, next_of, state_after, state_of, number_of}
use Rattle.dtx_trellis.specs.Trellis.{groups, group_place, byte_place, coder_at, pair_in, pair_at, higher, lower}
use Rattle.dtx_trellis.specs.Groups.{coder_after, level_at}

-- the first symbols of segments 0 to 3 of a group at place 0, and of one at place 4
pub coders : coder_at 0 0 ∷ coder_at 0 828 ∷ coder_at 0 1656 ∷ coder_at 0 2484 ∷ coder_at (group_place 0 1) 0 ∷ []
    ≡ 0 ∷ 4 ∷ 8 ∷ 0 ∷ 4 ∷ []
unfolding coder_at group_place
coders = refl

pub places : byte_place 0 0 0 ∷ byte_place 0 69 4 ∷ byte_place 0 138 8 ∷ byte_place 0 207 0 ∷
    (828 + byte_place (group_place 0 1) 0 4) ∷ [] ≡ 0 ∷ 208 ∷ 412 ∷ 616 ∷ 828 ∷ []
unfolding byte_place group_place
places = refl

pub bits : (b : ℕ) → pair_in b 0 ∷ pair_in b 69 ∷ pair_in b 138 ∷ pair_in b 207 ∷ pair_in b 276 ∷ []
    ≡ b / 64 % 4 ∷ b / 16 % 4 ∷ b / 4 % 4 ∷ b % 4 ∷ b / 64 % 4 ∷ []
unfolding pair_in
bits b = ap (λ x. b / 64 % 4 ∷ b / 16 % 4 ∷ b / 4 % 4 ∷ x % 4 ∷ b / 64 % 4 ∷ []) (omega arith)

-- the level and the next state of each state of q1 and q0, for X1 = 0 and for X1 = 1
pub levels_without : map (λ n. level_of (state_of n) 0 0) (0 ∷ 1 ∷ 2 ∷ 3 ∷ []) ≡ 0 ∷ 0 ∷ 1 ∷ 1 ∷ []
levels_without = refl

pub levels_with : map (λ n. level_of (state_of n) 0 1) (0 ∷ 1 ∷ 2 ∷ 3 ∷ []) ≡ 2 ∷ 2 ∷ 3 ∷ 3 ∷ []
levels_with = refl

pub nexts_without : map (λ n. number_of (next_of (state_of n) 0 0)) (0 ∷ 1 ∷ 2 ∷ 3 ∷ []) ≡ 0 ∷ 2 ∷ 1 ∷ 3 ∷ []
nexts_without = refl

pub nexts_with : map (λ n. number_of (next_of (state_of n) 0 1)) (0 ∷ 1 ∷ 2 ∷ 3 ∷ []) ≡ 2 ∷ 0 ∷ 3 ∷ 1 ∷ []
nexts_with = refl

-- coder 0 of a group whose first byte alone isn't 0
pub levels_of_byte : map (λ r. level_at 0 (replicate 12 0) (0x40 ∷ replicate 827 0) (12 * r)) (0 ∷ 1 ∷ 2 ∷ 3 ∷ 4 ∷ [])
    ≡ 2 ∷ 1 ∷ 0 ∷ 1 ∷ 0 ∷ []
unfolding level_at level z2 z0 alternate coder_at higher lower groups group_place pair_at byte_place pair_in
levels_of_byte = refl

pub state_of_byte : coder_after 0 (replicate 12 0) (0x40 ∷ replicate 827 0) 1 0 ≡ record { q2 = 0; q1 = 1; q0 = 0 }
unfolding coder_after state_after z2 z0 alternate higher lower groups group_place pair_at byte_place pair_in
state_of_byte = refl
