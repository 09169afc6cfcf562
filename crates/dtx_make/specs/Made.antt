-- The bytes of made streams (the profile's own).
use Rattle.std.specs.Prelude.{ℕ, zero, suc, ◌+◌, ◌*◌, ◌/◌, ◌%◌, ◌^◌, ◌==◌, if◌then◌else◌, List, [], ◌∷◌, ◌++◌, map}
use Rattle.std.specs.Prelude.{replicate, flat_map}
use Rattle.std.specs.List.{range_with_len}

-- the generator's first number for a packet
abbrev pub first_number : ℕ → ℕ → ℕ
first_number seed index = ((seed + 1) * 6364136223846793005 + index * 1442695040888963407) % 2 ^ 64

-- the next number of the generator, which is a linear congruential one modulo 2 ^ 64
abbrev pub next_number : ℕ → ℕ
next_number number = (number * 6364136223846793005 + 1442695040888963407) % 2 ^ 64

-- number j of a packet
unfoldable pub number_at : ℕ → ℕ → ℕ → ℕ
number_at seed index zero = first_number seed index
number_at seed index (suc j) = next_number (number_at seed index j)

-- the payload: byte j is the highest byte of number j + 1
unfoldable pub made_payload : ℕ → ℕ → List ℕ
made_payload seed index = map (λ j. number_at seed index (j + 1) / 2 ^ 56) (range_with_len 0 184)

-- Packet `index` (ISO/IEC 13818-1, 2.4.3.2). In each field of 312 packets packet 100 is a placeholder of packet
-- identifier 0x1FFA, with zeros. The others have the packet identifier 0x31, and their index modulo 16 as continuity
-- counter.
unfoldable pub made_packet : ℕ → ℕ → List ℕ
made_packet seed index =
    if index % 312 == 100
    then (0x47 ∷ 0x1F ∷ 0xFA ∷ 0x10 ∷ []) ++ replicate 184 0
    else (0x47 ∷ 0x00 ∷ 0x31 ∷ (0x10 + index % 16) ∷ []) ++ made_payload seed index

-- the stream of `count` packets
unfoldable pub made_stream : ℕ → ℕ → List ℕ
made_stream seed count = flat_map (made_packet seed) (range_with_len 0 count)
