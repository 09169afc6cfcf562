-- The segments of a stream of packets (ATSC A/53 Part 2). Packets are counted from 0, and packet 0 begins a first
-- field. Only whole groups of four packets are sent.
use Rattle.std.specs.Prelude.{ℕ, ℤ, negsuc, ◌+◌, ◌-◌, ◌*◌, ◌/◌, ◌%◌, ◌==◌, nat_le, if◌then◌else◌, List, [], ◌∷◌, ◌++◌}
use Rattle.std.specs.Prelude.{length, map, drop, replicate, slice_range, take}
use Rattle.std.specs.List.{range_with_len, flat_map, enumerate_from}
use Rattle.dtx_frame.specs.Segments.{data_segment, field_sync}
use Rattle.dtx_trellis.specs.Groups.{levels_of, states_after}
use Rattle.dtx_laws.specs.Words.{codeword}
use Rattle.dtx_laws.specs.Interleaving.{interleaved}
use Rattle.dtx_whiten.specs.Randomizer.{randomized}

-- The codewords, one after another, of packets that follow each other in a stream, from packet k on. Each is that of
-- the randomized packet (data randomizer and Reed-Solomon encoder).
unfoldable pub coded_from : ℕ → List (List ℕ) → List ℕ
coded_from k packets = flat_map (λ p. codeword 207 187 (randomized p.0 p.1)) (enumerate_from k packets)

-- the codewords of a stream
abbrev pub coded : List (List ℕ) → List ℕ
coded packets = coded_from 0 packets

-- the stream's bytes as the interleaver gives them (interleaving)
unfoldable pub spread : List (List ℕ) → List ℕ
spread packets = interleaved 52 4 (coded packets)

-- those of the whole groups of four packets, 828 for each
unfoldable pub whole_groups : List (List ℕ) → List ℕ
whole_groups packets = take (828 * (length packets / 4)) (spread packets)

-- all coders in state 0
unfoldable pub zero_states : List ℕ
zero_states = replicate 12 0

-- the levels of all data symbols, where all coders begin in state 0 (trellis coding)
unfoldable pub levels : List (List ℕ) → List ℕ
levels packets = levels_of 0 zero_states (whole_groups packets)

-- the states of the coders after the whole groups
unfoldable pub states : List (List ℕ) → List ℕ
states packets = states_after 0 zero_states (whole_groups packets)

-- data segment n of some levels is that of levels 828 * n to 828 * n + 827 (data segment)
unfoldable pub segment : List ℕ → ℕ → List ℤ
segment zs n = data_segment (slice_range zs (828 * n) (828 * n + 828))

-- a group's four data segments, from segment n on
unfoldable pub four_segments : List ℕ → ℕ → List (List ℤ)
four_segments zs n = map (segment zs) (range_with_len n 4)

-- the last twelve symbols of a segment
unfoldable pub last_of : List ℤ → List ℤ
last_of symbols = drop 820 symbols

-- the last twelve symbols before the first segment of all: -7, twelve times (the profile's own)
unfoldable pub no_last : List ℤ
no_last = replicate 12 (negsuc 6)

-- the last twelve symbols before group u: those of the data segment before it
unfoldable pub last_before : List (List ℕ) → ℕ → List ℤ
last_before packets u = if u == 0 then no_last else last_of (segment (levels packets) (4 * u - 1))

-- The field sync before group u, where the group begins a field. It is that of a second field where packet 4 * u stands
-- in the second half of its 624 (data field sync).
unfoldable pub sync_before : List (List ℕ) → ℕ → List (List ℤ)
sync_before packets u =
    if 4 * u % 312 == 0 then field_sync (nat_le 312 (4 * u % 624)) (last_before packets u) ∷ [] else []

-- the segments of group u
unfoldable pub group_segments : List (List ℕ) → ℕ → List (List ℤ)
group_segments packets u = sync_before packets u ++ four_segments (levels packets) (4 * u)

-- the segments of a stream
unfoldable pub a53 : List (List ℕ) → List (List ℤ)
a53 packets = flat_map (group_segments packets) (range_with_len 0 (length packets / 4))

-- the symbols of segments, one after another
abbrev pub symbols_of : List (List ℤ) → List ℤ
symbols_of segments = flat_map (λ s. s) segments

-- the symbols of a stream, one after another
unfoldable pub a53_symbols : List (List ℕ) → List ℤ
a53_symbols packets = symbols_of (a53 packets)
