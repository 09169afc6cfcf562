-- Damage of a stream's bytes, and how much of it is put right (EN 300 429, 7.2: eight bytes of a block).
use Rattle.std.specs.Prelude.{ℕ, ◌≡◌, ◌+◌, ◌*◌, ◌<◌, ◌≤◌, ◌⊎◌, List, [], length, slice_index, slice_index_or}
use Rattle.std.specs.List.{AllByRecursion}
use Rattle.dtx_galois.specs.Field.{AreBytes}
use Rattle.dtx_laws.specs.Codeword.{distance}
use Rattle.dtx_outer.specs.Inner.{word_at}
use Rattle.dtx_outer.specs.declared.inner.Taken.TheVariants.{Good}
use Rattle.dtx_dvb.specs.Read.{Read}
use Rattle.dtx_dvb.specs.Stream.{block_of, dvb}

-- each packet has 188 bytes, and its byte 0 is 0x47
abbrev pub ArePackets : List (List ℕ) → Type 0
ArePackets packets = AllByRecursion (λ p. (length p ≡ 188) × AreBytes p × (slice_index p 0 ≡ 0x47)) packets

-- the block of packet k of a stream
unfoldable pub block_in : List (List ℕ) → ℕ → List ℕ
block_in packets k = block_of k (slice_index_or packets k [])

-- in how many places the word gathered for packet k differs from the packet's block
unfoldable pub wrong_in : List (List ℕ) → List ℕ → ℕ → ℕ
wrong_in packets bytes k = distance (word_at 204 12 17 bytes k) (block_in packets k)

-- There are as many bytes as were sent, and each word gathered from them differs from its block in at most eight
-- places.
pub record IsSlight (packets : List (List ℕ)) (bytes : List ℕ) : Type 0 where
  pub as_many : length bytes ≡ 204 * length packets
  pub near : (k : ℕ) → k + 11 < length packets → wrong_in packets bytes k ≤ 8

-- The bytes are those that were sent, except at most 96 in a row from place `from` on, which may be any numbers.
pub record IsBurst (packets : List (List ℕ)) (bytes : List ℕ) (from : ℕ) : Type 0 where
  pub as_many : length bytes ≡ 204 * length packets
  pub others : (n : ℕ) → n < length bytes → (n < from) ⊎ (from + 96 ≤ n)
      → slice_index bytes n ≡ slice_index (dvb packets) n

-- packet k, read `Good`: the bytes put right are those in which the word differs from its block
unfoldable pub as_corrected : List (List ℕ) → List ℕ → ℕ → Read
as_corrected packets bytes k = record {
  taken = Good (wrong_in packets bytes k);
  packet = slice_index_or packets k [];
}

-- a packet that was read as it was sent, with no byte put right
abbrev pub as_sent : List ℕ → Read
as_sent packet = record { taken = Good 0; packet = packet }
