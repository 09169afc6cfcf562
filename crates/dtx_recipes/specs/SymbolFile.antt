-- The segments of a symbol file, and the file of a stream's symbols. It has one byte for each symbol, in two's
-- complement. Segments are counted from byte 0 (the profile's own).
use Rattle.std.specs.Prelude.{ℕ, ℤ, ◌*◌, ◌/◌, List, length, map, take, drop}
use Rattle.std.specs.Int.{w8, cast_signed}
use Rattle.std.specs.List.{range_with_len}
use Rattle.dtx_coder.specs.Stream.{a53_symbols}
use Rattle.dtx_files.specs.Symbols.{byte_of_symbol}

-- the symbol of a byte
abbrev pub symbol_of_byte : ℕ → ℤ
symbol_of_byte byte = cast_signed w8 byte

-- the symbols of bytes
abbrev pub symbols : List ℕ → List ℤ
symbols bytes = map symbol_of_byte bytes

-- segment n of a file, of 832 symbols
abbrev pub segment_at : List ℕ → ℕ → List ℤ
segment_at file n = symbols (take 832 (drop (832 * n) file))

-- how many whole segments a file has
abbrev pub whole_segments : List ℕ → ℕ
whole_segments file = length file / 832

-- `count` segments of a file, from segment `first` on
abbrev pub segments_from : List ℕ → ℕ → ℕ → List (List ℤ)
segments_from file first count = map (segment_at file) (range_with_len first count)

-- the whole segments of a file
abbrev pub file_segments : List ℕ → List (List ℤ)
file_segments file = segments_from file 0 (whole_segments file)

-- the symbol file of a stream of packets: one byte for each symbol
abbrev pub symbol_bytes : List (List ℕ) → List ℕ
symbol_bytes packets = map byte_of_symbol (a53_symbols packets)

-- how many of these packets stand in whole groups of four
abbrev pub in_groups : List (List ℕ) → ℕ
in_groups packets = 4 * (length packets / 4)
