-- The packets that are read from the bytes of a stream (EN 300 429, the way back). The first byte is that of a block
-- that begins a group of eight.
use Rattle.std.specs.Prelude.{ℕ, ◌-◌, ◌*◌, ◌/◌, ◌%◌, Option, Some, None, List, length, map, take, slice_set}
use Rattle.std.specs.List.{range_with_len}
use Rattle.dtx_laws.specs.Codeword.{distance}
use Rattle.dtx_laws.specs.Whitening.{whitened}
use Rattle.dtx_laws.specs.Words.{correction}
use Rattle.dtx_outer.specs.Inner.{word_at}
use Rattle.dtx_outer.specs.declared.inner.Taken.TheVariants.{Good, Bad}
use Rattle.dtx_packets.specs.Packets.{with_error}
use Rattle.dtx_dvb.specs.Randomizer.{randomizer_bytes}
use Rattle.dtx_dvb.specs.Read.{Read}

-- the packet with 0x47 as its sync byte
abbrev pub with_sync : List ℕ → List ℕ
with_sync packet = slice_set packet 0 0x47

-- The packet of a word, by the word's correction. Where it has none, the packet has the word's own bytes and the error
-- indicator.
abbrev pub read_by : ℕ → List ℕ → Option (List ℕ) → Read
read_by from word (Some code) = record {
  taken = Good (distance word code);
  packet = with_sync (whitened randomizer_bytes from (take 188 code));
}
read_by from word None = record {
  taken = Bad;
  packet = with_sync (with_error (whitened randomizer_bytes from (take 188 word)));
}

-- packet k: its word is bytes m + 204 * (m mod 12), for m from 204 * k to 204 * k + 203
unfoldable pub read_at : List ℕ → ℕ → Read
read_at bytes k =
    read_by (188 * (k % 8)) (word_at 204 12 17 bytes k) (correction 204 188 (word_at 204 12 17 bytes k))

-- the packets of all blocks but the last eleven
unfoldable pub read_dvb : List ℕ → List Read
read_dvb bytes = map (read_at bytes) (range_with_len 0 (length bytes / 204 - 11))
