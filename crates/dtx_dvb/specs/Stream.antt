-- A stream of packets as it is sent (EN 300 429). A packet is its list of 188 bytes. Packets are counted from 0, and
-- packet 0 is the first of a group of eight.
use Rattle.std.specs.Prelude.{ℕ, ◌+◌, ◌*◌, ◌%◌, List, map, slice_index, ◌≡◌}
use Rattle.std.specs.List.{range_with_len, enumerate_from, flat_map}
use Rattle.std.specs.Int.RustNames.{bit_xor}
use Rattle.dtx_laws.specs.Branches.{Branching, spreading, zeroed, after_all}
use Rattle.dtx_laws.specs.Words.{codeword}
use Rattle.dtx_laws.specs.Interleaving.{interleaved}
use Rattle.dtx_dvb.specs.Randomizer.{randomizer_byte}
use Rattle.dtx_outer.specs.Inner.{Kept, StandsFor}

-- packet k with the randomizer's bytes from 188 * (k mod 8) on added bit by bit to all of its bytes (7.1)
unfoldable pub randomized : ℕ → List ℕ → List ℕ
randomized k packet =
    map (λ j. bit_xor (slice_index packet j) (randomizer_byte (188 * (k % 8) + j))) (range_with_len 0 188)

-- the block of packet k: the codeword of 204 bytes that begins with the randomized packet (7.2)
abbrev pub block_of : ℕ → List ℕ → List ℕ
block_of k packet = codeword 204 188 (randomized k packet)

-- the blocks of packets that follow each other, one behind the other; the first is packet k
unfoldable pub blocks_from : ℕ → List (List ℕ) → List ℕ
blocks_from k packets = flat_map (λ p. block_of p.0 p.1) (enumerate_from k packets)

-- the blocks of a stream
abbrev pub blocks : List (List ℕ) → List ℕ
blocks packets = blocks_from 0 packets

-- a stream as it is sent: byte n is byte n - 204 * (n mod 12) of the blocks, and 0 where that place is before the first
-- (7.3)
unfoldable pub dvb : List (List ℕ) → List ℕ
dvb packets = interleaved 12 17 (blocks packets)

-- the interleaver with zeros in every branch
abbrev pub zero_branches : Branching
zero_branches = zeroed 12 (spreading 17)

-- The branches hold what the blocks of these packets leave, from zeros in every branch on.
pub record HasSent (packets : List (List ℕ)) (held : Branching) : Type 0 where
  pub branches : held ≡ after_all 12 zero_branches (blocks packets)

-- What a reader keeps is what these bytes of a stream leave, which are whole blocks.
abbrev pub HasRead : List ℕ → Kept → Type 0
HasRead bytes kept = StandsFor 204 188 12 17 kept bytes
