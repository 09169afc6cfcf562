-- The randomizer's bytes (EN 300 429, 7.1). Bits are 0 and 1, and a sum of bits is bit_xor.
use Rattle.std.specs.Prelude.{ℕ, ◌+◌, ◌-◌, ◌*◌, ◌%◌, ◌==◌, if◌then◌else◌, List, [], ◌∷◌, ◌++◌, length, map}
use Rattle.std.specs.Prelude.{slice_index}
use Rattle.std.proofs.Common.{zero, suc}
use Rattle.std.specs.List.{range_with_len}
use Rattle.std.specs.Int.RustNames.{bit_xor}

-- the bits that the sequence is loaded with, o[-15] to o[-1]
unfoldable pub loaded : List ℕ
loaded = 0 ∷ 0 ∷ 0 ∷ 0 ∷ 0 ∷ 0 ∷ 0 ∷ 1 ∷ 0 ∷ 1 ∷ 0 ∷ 1 ∷ 0 ∷ 0 ∷ 1 ∷ []

-- a sequence with one bit more, by the rule o[t] = o[t - 14] + o[t - 15]
abbrev pub with_next : List ℕ → List ℕ
with_next s = s ++ (bit_xor (slice_index s (length s - 14)) (slice_index s (length s - 15))) ∷ []

-- the bits o[-15] to o[n - 1]
unfoldable pub sequence : ℕ → List ℕ
sequence zero = loaded
sequence (suc n) = with_next (sequence n)

-- bit o[t] of the sequence
unfoldable pub randomizer_bit : ℕ → ℕ
randomizer_bit t = slice_index (sequence (suc t)) (15 + t)

-- the byte whose bits, the highest first, are these
abbrev pub eight_bits : (ℕ → ℕ) → ℕ
eight_bits o = 128 * o 0 + 64 * o 1 + 32 * o 2 + 16 * o 3 + 8 * o 4 + 4 * o 5 + 2 * o 6 + o 7

-- Byte t: 255 for the first sync byte of eight packets, and 0 for each other one, while the sequence runs on. Else it
-- is o[8 * (t - 1)] to o[8 * (t - 1) + 7].
unfoldable pub randomizer_byte : ℕ → ℕ
randomizer_byte t =
    if t == 0 then 0xff else (if t % 188 == 0 then 0 else eight_bits (λ i. randomizer_bit (8 * (t - 1) + i)))

-- the bytes of a period, 188 for each of eight packets
unfoldable pub randomizer_bytes : List ℕ
randomizer_bytes = map randomizer_byte (range_with_len 0 (188 * 8))
