-- From the levels of whole groups, 3312 each, back to their bytes: the inverse of the twelve trellis coders (ATSC A/53
-- Part 2, trellis coding). The first group is at place s of its field, and each further one four places on. Z2 is a
-- level's highest bit, and Z1 the one below. A coder's precoder bit is Z2 of its symbol before. A list gives the bit
-- before each coder's first symbol: number e is for coder e. Rounds are counted from 0, 276 in a group. In a round each
-- coder has one symbol.
use Rattle.std.specs.Prelude.{ℕ, ◌+◌, ◌-◌, ◌*◌, ◌/◌, ◌%◌, ◌==◌, if◌then◌else◌, List, length, map, slice_index}
use Rattle.std.specs.List.{range_with_len}

-- The place of coder e's symbol of round r. The coders move on by four from segment to segment, of 69 rounds each.
unfoldable pub symbol_place : ℕ → ℕ → ℕ → ℕ
symbol_place s r e = 12 * r + (e + 12 - 4 * ((s + r / 69) % 3)) % 12

-- the precoder bit of coder e before round r
unfoldable pub precoder_bit : ℕ → List ℕ → List ℕ → ℕ → ℕ → ℕ
precoder_bit s precoder_bits levels r e =
    if r == 0 then slice_index precoder_bits e else slice_index levels (symbol_place s (r - 1) e) / 4

-- the pair of a level: X2 = Z2 + the precoder bit, X1 = Z1
abbrev pub pair_from : ℕ → ℕ → ℕ
pair_from before level = 2 * ((level / 4 + before) % 2) + level / 2 % 2

-- coder e's pair of round r
unfoldable pub pair_back : ℕ → List ℕ → List ℕ → ℕ → ℕ → ℕ
pair_back s precoder_bits levels r e = pair_from (precoder_bit s precoder_bits levels r e) (slice_index levels
    (symbol_place s r e))

-- the coder that works on byte j, in rounds 4 * (j / 12) to 4 * (j / 12) + 3
unfoldable pub coder_of : ℕ → ℕ → ℕ
coder_of s j = (j % 12 + 4 * ((s + 4 * (j / 12) / 69) % 3)) % 12

-- byte j, from four pairs of its coder: the first is bits 7 and 6
unfoldable pub byte_back : ℕ → List ℕ → List ℕ → ℕ → ℕ
byte_back s precoder_bits levels j =
    let r : ℕ = 4 * (j / 12) in
    let e : ℕ = coder_of s j in
    64 * pair_back s precoder_bits levels r e + 16 * pair_back s precoder_bits levels
    (r + 1) e + 4 * pair_back s precoder_bits levels
    (r + 2) e + pair_back s precoder_bits levels (r + 3) e

-- how many whole groups there are
unfoldable pub level_groups : List ℕ → ℕ
level_groups levels = length levels / 3312

-- all bytes, 828 of each group
unfoldable pub bytes_back : ℕ → List ℕ → List ℕ → List ℕ
bytes_back s precoder_bits levels = map (byte_back s precoder_bits levels) (range_with_len 0
    (828 * level_groups levels))

-- the precoder bits of coders 0 to 11 after all groups
unfoldable pub precoder_bits_after : ℕ → List ℕ → List ℕ → List ℕ
precoder_bits_after s precoder_bits levels = map (precoder_bit s precoder_bits levels (276 * level_groups levels))
    (range_with_len 0 12)

-- The precoder bits of coders 0 to 11, from the levels of the last twelve symbols of a field sync. These repeat the
-- last symbols of a field. So number q of them is of coder (q + 8) mod 12.
unfoldable pub precoder_bits_of : List ℕ → List ℕ
precoder_bits_of last = map (λ e. slice_index last ((e + 4) % 12) / 4) (range_with_len 0 12)

-- the precoder bits of coders 0 to 11 in these states
unfoldable pub precoder_bits_in : List ℕ → List ℕ
precoder_bits_in states = map (λ e. slice_index states e / 4 % 2) (range_with_len 0 12)

-- the place of the lane's symbol in round i of the four: if a segment has ended among them, it stands four places back
unfoldable pub lane_place : ℕ → ℕ → ℕ → ℕ
lane_place h i p = 12 * (4 * h + i) + (p + 12 - 4 * ((4 * h + i) / 69 - 4 * h / 69)) % 12

-- the level of that symbol
abbrev pub lane_level : List ℕ → ℕ → ℕ → ℕ → ℕ
lane_level levels h i p = slice_index levels (lane_place h i p)

-- the byte of four levels, from Z2 before them
abbrev pub joined_byte : ℕ → ℕ → ℕ → ℕ → ℕ → ℕ
joined_byte before first second third fourth =
    64 * pair_from before first + 16 * pair_from (first / 4) second + 4 * pair_from (second / 4) third
    + pair_from (third / 4) fourth

-- the lane's byte, from Z2 before the four rounds
unfoldable pub lane_byte : ℕ → List ℕ → ℕ → ℕ → ℕ
lane_byte before levels h p =
    joined_byte before (lane_level levels h 0 p) (lane_level levels h 1 p) (lane_level levels h 2 p)
    (lane_level levels h 3 p)

-- the lane's byte where it isn't the first of the group
abbrev pub later_byte : List ℕ → ℕ → ℕ → ℕ
later_byte levels h p = lane_byte (slice_index levels (12 * (4 * h - 1) + p) / 4 % 2) levels h p
