-- Twelve coders side by side: lane p is of the coder at place p of a round. The segment has moved the coders on by 4 *
-- x. A lane has four bits, which give its coder after a pair.
use Rattle.std.specs.Prelude.{ℕ, ℤ, ◌≡◌, ◌↔◌, ◌<◌, ◌+◌, ◌-◌, ◌*◌, ◌/◌, ◌%◌, if◌then◌else◌, ltb, Bool, IsTrue, List}
use Rattle.std.specs.Prelude.{length, slice_index}
use Rattle.dtx_sizes.specs.declared.fields.TheConstants.{FIELD_PACKETS}
use Rattle.dtx_sizes.specs.declared.segments.TheConstants.{CODERS, GROUP_BYTES, ROUNDS, SEGMENT_ROUNDS, SEGMENT_SYNC}
use Rattle.dtx_trellis.specs.declared.lanes.TheConstants.{LANES}
use Rattle.dtx_trellis.specs.Trellis.{State, next_of, number_of, state_of, byte_place, pair_in}
use Rattle.dtx_trellis.specs.Groups.{AreSent, coder_after, sent_place}

-- the coder at place p
unfoldable pub coder_turned : ℕ → ℕ → ℕ
coder_turned x p = (p + 4 * x) % CODERS

-- how far the coders are moved on in round r of the group at place s
unfoldable pub turn : ℕ → ℕ → ℕ
turn s r = (s + r / SEGMENT_ROUNDS) % 3

-- sixteen lanes of four bits
pub record AreNibbles (lanes : List ℕ) : Type 0 where
  pub long : length lanes ≡ LANES
  pub small : (p : ℕ) → p < LANES → slice_index lanes p < 16

-- the lane of a coder behind a pair: bit 3 is the pair's X1, and bits 2 to 0 are the number of the new state
unfoldable pub lane_behind : State → ℕ → ℕ
lane_behind q pair = 8 * (pair % 2) + number_of (next_of q (pair / 2) (pair % 2))

-- the level that a lane after a pair stands for, 4 Z2 + 2 Z1 + Z0: Z2 is the new q2, Z1 is X1, and Z0 is the new q0
unfoldable pub level_told : ℕ → ℕ
level_told n = 4 * (n / 4 % 2) + 2 * (n / 8 % 2) + n % 2

-- the lanes after the first and after the second of two pairs, from lane k; the pairs are the bits of n
unfoldable pub behind_both : ℕ → ℕ → ℕ
behind_both k n =
    let first : ℕ = lane_behind (state_of k) (n / 4) in
    16 * first + lane_behind (state_of first) (n % 4)

-- the pair that coder e takes in round r
abbrev pub pair_taken : ℕ → List ℕ → ℕ → ℕ → ℕ
pair_taken s bytes r e = pair_in (slice_index bytes (byte_place s r e)) r

-- the states after t pairs
pub record HoldsStates (s : ℕ) (states bytes : List ℕ) (t x : ℕ) (lanes : List ℕ) : Type 0 where
  pub nibbles : AreNibbles lanes
  pub at : (p : ℕ) → p < CODERS → state_of (slice_index lanes p) ≡ coder_after s states bytes t (coder_turned x p)

-- before byte h of each coder: the states, and the symbols that are sent
pub record StandsAt (s : ℕ) (states bytes : List ℕ) (h : ℕ) (lanes : List ℕ) (symbols : List ℤ) : Type 0 where
  pub held : HoldsStates s states bytes (4 * h) (turn s (4 * h - 1)) lanes
  pub sent : AreSent s states bytes (CODERS * (4 * h)) symbols

-- the pairs of rounds r and r + 1, as bits 3 and 2 and bits 1 and 0
pub record HoldsPairs (s : ℕ) (bytes : List ℕ) (r x : ℕ) (lanes : List ℕ) : Type 0 where
  pub nibbles : AreNibbles lanes
  pub first : (p : ℕ) → p < CODERS → slice_index lanes p / 4 ≡ pair_taken s bytes r (coder_turned x p)
  pub second : (p : ℕ) → p < CODERS → slice_index lanes p % 4 ≡ pair_taken s bytes (r + 1) (coder_turned x p)

-- the place four further on
abbrev pub turned_place : ℕ → ℕ
turned_place p = if ltb p CODERS then (p + 4) % CODERS else p

-- the place from which place p gets its coder: where a segment begins, coders move on by four places
abbrev pub came_from : Bool → ℕ → ℕ
came_from begins p = if begins then turned_place p else p

-- the lanes of a round, which may begin a segment, from those of the round before it
pub record IsMovedOn (begins : Bool) (before lanes : List ℕ) : Type 0 where
  pub long : length lanes ≡ LANES
  pub at : (p : ℕ) → p < LANES → slice_index lanes p ≡ slice_index before (came_from begins p)

-- where the symbols of the next round begin: behind those from `place` on, and behind a sync where a segment begins
abbrev pub place_behind : ℕ → Bool → ℕ
place_behind place begins = place + CODERS + (if begins then SEGMENT_SYNC else 0)

-- Rounds r and r + 1 can be coded. Symbols of the first begin at `place`, and a segment may begin between the two.
pub record AreReady (s : ℕ) (states bytes : List ℕ) (r : ℕ) (begins : Bool) (place : ℕ) (lanes pairs : List ℕ)
    (symbols : List ℤ) : Type 0 where
  pub first : s < FIELD_PACKETS
  pub long : length bytes ≡ GROUP_BYTES
  pub round : r + 1 < ROUNDS
  pub between : IsTrue begins ↔ ((r + 1) % SEGMENT_ROUNDS ≡ 0)
  pub at : place ≡ sent_place (CODERS * r)
  pub held : HoldsStates s states bytes r (turn s r) lanes
  pub taken : HoldsPairs s bytes r (turn s r) pairs
  pub sent : AreSent s states bytes (CODERS * r) symbols
