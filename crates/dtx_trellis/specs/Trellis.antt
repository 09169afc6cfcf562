-- One trellis coder (ATSC A/53 Part 2, trellis coding): its bits as sums modulo 2 over all of its pairs, counted from
-- 0. The list a has the higher bits of the pairs, X2, and b the lower ones, X1.
use Rattle.std.specs.Prelude.{ℕ, ◌<◌, ◌+◌, ◌*◌, ◌-◌, ◌/◌, ◌%◌, ◌==◌, ℤ, pos, ◌-ℤ◌, if◌then◌else◌, List, map, take, sum}
use Rattle.std.specs.Prelude.{slice_index, ◌^◌, length}
use Rattle.std.specs.List.{range_with_len}
use Rattle.dtx_sizes.specs.declared.fields.TheConstants.{FIELD_PACKETS}
use Rattle.dtx_sizes.specs.declared.segments.TheConstants.{CODERS, GROUP_BYTES, ROUNDS, SEGMENT_LEVELS, SEGMENT_ROUNDS}

-- the three delay elements of a coder
pub record State : Type 0 where
  pub q2 : ℕ
  pub q1 : ℕ
  pub q0 : ℕ

-- each of the three numbers is a bit
pub record AreBits (q : State) : Type 0 where
  pub q2 : q.q2 < 2
  pub q1 : q.q1 < 2
  pub q0 : q.q0 < 2

-- Z2[t] = q2 + a[0] + .. + a[t]
unfoldable pub z2 : State → List ℕ → ℕ → ℕ
z2 q a t = (q.q2 + sum (take (t + 1) a)) % 2

-- b[t - 1] + b[t - 3] + ..: the b[j] before t at an odd distance from it
unfoldable pub alternate : List ℕ → ℕ → ℕ
alternate b t = sum (map (λ j. if (t + j) % 2 == 1 then slice_index b j else 0) (range_with_len 0 t))

-- Z0[t] = q1 + b[t - 1] + b[t - 3] + .. + b[1] where t is even, and q0 + b[t - 1] + b[t - 3] + .. + b[0] where it is
-- odd
unfoldable pub z0 : State → List ℕ → ℕ → ℕ
z0 q b t = ((if t % 2 == 0 then q.q1 else q.q0) + alternate b t) % 2

-- the level of pair t: 4 Z2 + 2 Z1 + Z0, where Z1[t] = b[t]
unfoldable pub level : State → List ℕ → List ℕ → ℕ → ℕ
level q a b t = 4 * z2 q a t + 2 * slice_index b t + z0 q b t

-- the state after t pairs: Z2[t - 1], Z0[t], Z0[t - 1]
unfoldable pub state_after : State → List ℕ → List ℕ → ℕ → State
state_after q a b t = if t == 0 then q else record { q2 = z2 q a (t - 1); q1 = z0 q b t; q0 = z0 q b (t - 1) }

-- a level's symbol: twice the level less 7
unfoldable pub symbol_of : ℕ → ℤ
symbol_of z = pos (2 * z) -ℤ pos 7

-- one step, for one pair X2, X1: its level, 4 (X2 + q2) + 2 X1 + q1
abbrev pub level_of : State → ℕ → ℕ → ℕ
level_of q x2 x1 = 4 * ((x2 + q.q2) % 2) + 2 * x1 + q.q1

-- the state behind one step: the new q2 is X2 + q2, the new q1 is X1 + q0, and q0 is the old q1
abbrev pub next_of : State → ℕ → ℕ → State
next_of q x2 x1 = record { q2 = (x2 + q.q2) % 2; q1 = (x1 + q.q0) % 2; q0 = q.q1 }

-- a state's number
abbrev pub number_of : State → ℕ
number_of q = 4 * q.q2 + 2 * q.q1 + q.q0

-- the state of a number: q2 is its bit 2, q1 its bit 1 and q0 its bit 0
abbrev pub state_of : ℕ → State
state_of n = record { q2 = n / 4 % 2; q1 = n / 2 % 2; q0 = n % 2 }

-- how many whole groups there are
unfoldable pub groups : List ℕ → ℕ
groups bytes = length bytes / GROUP_BYTES

-- the place in its field of group u
unfoldable pub group_place : ℕ → ℕ → ℕ
group_place s u = (s + 4 * u) % FIELD_PACKETS

-- The byte of a group at place s on which coder e works in round r. The coder keeps to a byte for four rounds. The
-- coders move on by four from segment to segment.
unfoldable pub byte_place : ℕ → ℕ → ℕ → ℕ
byte_place s r e = CODERS * (r / 4) + (e + CODERS - 4 * ((s + 4 * (r / 4) / SEGMENT_ROUNDS) % 3)) % CODERS

-- the pair of a byte for round r: bits 7 and 6 come first, then 5 and 4, 3 and 2, 1 and 0
unfoldable pub pair_in : ℕ → ℕ → ℕ
pair_in byte r = byte / 4 ^ (3 - r % 4) % 4

-- pair number t of coder e: that of round t mod 276 of group t div 276
unfoldable pub pair_at : ℕ → List ℕ → ℕ → ℕ → ℕ
pair_at s bytes e t =
    let u : ℕ = t / ROUNDS in
    let r : ℕ = t % ROUNDS in
    pair_in (slice_index bytes (GROUP_BYTES * u + byte_place (group_place s u) r e)) r

-- all higher bits of coder e's pairs, X2
unfoldable pub higher : ℕ → List ℕ → ℕ → List ℕ
higher s bytes e = map (λ t. pair_at s bytes e t / 2) (range_with_len 0 (ROUNDS * groups bytes))

-- all lower bits of coder e's pairs, X1
unfoldable pub lower : ℕ → List ℕ → ℕ → List ℕ
lower s bytes e = map (λ t. pair_at s bytes e t % 2) (range_with_len 0 (ROUNDS * groups bytes))

-- The coder of data symbol d, which stands in the segment d div 828 further on than the first. The coders move on by
-- four from segment to segment, by the segment's place in its field. Since 3 divides 312, a field's end changes
-- nothing.
unfoldable pub coder_at : ℕ → ℕ → ℕ
coder_at s d = (d % CODERS + 4 * ((s + d / SEGMENT_LEVELS) % 3)) % CODERS
