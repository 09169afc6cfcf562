-- Adding a whitener's bytes (ATSC A/53 Part 2, data randomizer).
use Rattle.std.specs.Prelude.{ℕ, ◌+◌, List, map, length, slice_index}
use Rattle.std.specs.List.{range_with_len}
use Rattle.std.specs.Int.RustNames.{bit_xor}

-- the data with the whitener's bytes from a place on added, each bit by bit
unfoldable pub whitened : List ℕ → ℕ → List ℕ → List ℕ
whitened white from head =
    map (λ j. bit_xor (slice_index head j) (slice_index white (from + j))) (range_with_len 0 (length head))
