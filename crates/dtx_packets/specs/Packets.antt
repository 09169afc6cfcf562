-- The packets of a file, and the fields of a packet's header (ISO/IEC 13818-1, 2.4.3.2).
use Rattle.std.specs.Prelude.{ℕ, ◌*◌, ◌/◌, List, length, take, drop, map, ◌+◌, ◌%◌, IsBitSet, slice_index, slice_set}
use Rattle.std.specs.List.{range_with_len}

-- how many packets a stream has at most: those of 1,000,000 frames of 624 packets (the profile's own limit)
abbrev pub most_packets : ℕ
most_packets = 624000000

-- packet k of a file, of 188 bytes (ISO/IEC 13818-1, 2.4.3.2)
abbrev pub packet_at : List ℕ → ℕ → List ℕ
packet_at file k = take 188 (drop (188 * k) file)

-- how many whole packets a file has
abbrev pub whole_packets : List ℕ → ℕ
whole_packets file = length file / 188

-- `count` packets of a file, from packet `first` on
abbrev pub packets_from : List ℕ → ℕ → ℕ → List (List ℕ)
packets_from file first count = map (packet_at file) (range_with_len first count)

-- the whole packets of a file
abbrev pub packets_of : List ℕ → List (List ℕ)
packets_of file = packets_from file 0 (whole_packets file)

-- the sync byte is byte 0
abbrev pub sync_of : List ℕ → ℕ
sync_of packet = slice_index packet 0

-- the packet identifier is the low five bits of byte 1, followed by byte 2
abbrev pub pid_of : List ℕ → ℕ
pid_of packet = slice_index packet 1 % 32 * 256 + slice_index packet 2

-- the transport error indicator is bit 7 of byte 1
abbrev pub HasError : List ℕ → Type 0
HasError packet = IsBitSet (slice_index packet 1) 7

-- the continuity counter is the low four bits of byte 3
abbrev pub counter_of : List ℕ → ℕ
counter_of packet = slice_index packet 3 % 16

-- the packet with the transport error indicator set, and all else as it is
abbrev pub with_error : List ℕ → List ℕ
with_error packet = slice_set packet 1 (128 + slice_index packet 1 % 128)
