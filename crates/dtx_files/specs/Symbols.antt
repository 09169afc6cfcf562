-- Symbols as the bytes of a file (the profile's own).
use Rattle.std.specs.Prelude.{ℕ, ℤ, pos, negsuc, suc, ◌-◌, List, map}
use Rattle.dtx_coder.specs.Stream.{symbols_of}

-- a symbol as a byte of a file, in two's complement
abbrev pub byte_of_symbol : ℤ → ℕ
byte_of_symbol (pos n) = n
byte_of_symbol (negsuc n) = 256 - suc n

-- the symbol file of segments: one byte for each symbol
abbrev pub segment_bytes : List (List ℤ) → List ℕ
segment_bytes segments = map byte_of_symbol (symbols_of segments)
