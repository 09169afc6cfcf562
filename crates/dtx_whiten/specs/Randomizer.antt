-- The bytes of the data randomizer, and packets with them added (ATSC A/53 Part 2, data randomizer).
use Rattle.std.specs.Prelude.{ℕ, ◌+◌, ◌*◌, ◌^◌, List, map, ◌%◌, slice_index}
use Rattle.std.specs.List.{range_with_len, enumerate_from}
use Rattle.std.specs.Int.{bit_at}
use Rattle.dtx_galois.specs.Field.{remainder}
use Rattle.std.specs.Int.RustNames.{bit_xor}

-- the generator polynomial, X^16 + X^13 + X^12 + X^11 + X^7 + X^6 + X^3 + X + 1
unfoldable pub polynomial : ℕ
polynomial = 2 ^ 16 + 2 ^ 13 + 2 ^ 12 + 2 ^ 11 + 2 ^ 7 + 2 ^ 6 + 2 ^ 3 + 2 ^ 1 + 2 ^ 0

-- The preload, X^15 + X^14 + X^13 + X^12 + X^8 + X^7. The register's X1 to X16 stand for X^0 to X^15. Those in the
-- preload are set before the first byte of a data field.
unfoldable pub preload : ℕ
preload = 2 ^ 15 + 2 ^ 14 + 2 ^ 13 + 2 ^ 12 + 2 ^ 8 + 2 ^ 7

-- what the register holds after t shifts: the remainder of X^t times the preload modulo the generator polynomial
unfoldable pub register : ℕ → ℕ
register t = remainder 16 polynomial t (preload * 2 ^ t)

-- the byte whose bits 0 to 7 are the coefficients of X^0, X^2, X^3, X^6, X^10, X^11, X^12 and X^13
unfoldable pub tapped : ℕ → ℕ
tapped p = bit_at p 0 + 2 * bit_at p 2 + 4 * bit_at p 3 + 8 * bit_at p 6 + 16 * bit_at p 10 + 32 * bit_at p
    11 + 64 * bit_at p 12 + 128 * bit_at p 13

-- byte t of a data field's randomizer
unfoldable pub randomizer_byte : ℕ → ℕ
randomizer_byte t = tapped (register t)

-- all bytes for the 312 packets of a data field, 187 for each
unfoldable pub randomizer_bytes : List ℕ
randomizer_bytes = map randomizer_byte (range_with_len 0 (187 * 312))

-- What packet k of a stream is sent as, where packet 0 begins a data field. For each j below 187 it is byte 1 + j of
-- the packet, plus bit by bit the randomizer's byte 187 * (k mod 312) + j. The sync byte isn't sent.
unfoldable pub randomized : ℕ → List ℕ → List ℕ
randomized k packet =
    map (λ j. bit_xor (slice_index packet (1 + j)) (randomizer_byte (187 * (k % 312) + j))) (range_with_len 0 187)

-- all packets of a stream
unfoldable pub randomized_stream : List (List ℕ) → List (List ℕ)
randomized_stream packets = map (λ p. randomized p.0 p.1) (enumerate_from 0 packets)
