-- Segments of 832 symbols (ATSC A/53 Part 2, data segment sync and data field sync).
use Rattle.std.specs.Prelude.{ℕ, ℤ, pos, negsuc, ◌-◌, ◌==◌, Bool, if◌then◌else◌, List, [], ◌∷◌, ◌++◌, map, take, ◌+◌}
use Rattle.std.specs.Prelude.{◌%◌, length, slice_index}
use Rattle.dtx_trellis.specs.Trellis.{symbol_of}
use Rattle.std.proofs.Common.{zero, suc}

-- a sequence that begins with s, and n bits more, each by the rule from those before it
unfoldable pub extended : (List ℕ → ℕ) → ℕ → List ℕ → List ℕ
extended rule zero s = s
extended rule (suc n) s = extended rule n (s ++ (rule s % 2) ∷ [])

-- the bit k places before the next one
abbrev pub back : List ℕ → ℕ → ℕ
back s k = slice_index s (length s - k)

-- 511 bits: s[n + 9] = s[n + 7] + s[n + 6] + s[n + 4] + s[n + 3] + s[n + 1] + s[n]
unfoldable pub pn511 : List ℕ
pn511 = extended (λ s. back s 2 + back s 3 + back s 5 + back s 6 + back s 8 + back s 9) 502
    (0 ∷ 0 ∷ 0 ∷ 0 ∷ 0 ∷ 0 ∷ 0 ∷ 1 ∷ 0 ∷ [])

-- 63 bits: s[n + 6] = s[n + 1] + s[n]
unfoldable pub pn63 : List ℕ
pn63 = extended (λ s. back s 5 + back s 6) 57 (1 ∷ 1 ∷ 1 ∷ 0 ∷ 0 ∷ 1 ∷ [])

-- a bit in a sync: 1 is +5 and 0 is -5
unfoldable pub bit_symbol : ℕ → ℤ
bit_symbol b = if b == 1 then pos 5 else negsuc 4

-- the four symbols in front of each segment
unfoldable pub segment_sync : List ℤ
segment_sync = map bit_symbol (1 ∷ 0 ∷ 0 ∷ 1 ∷ [])

unfoldable pub data_segment : List ℕ → List ℤ
data_segment levels = segment_sync ++ map symbol_of levels

-- the bits, each inverted
abbrev pub inverted : List ℕ → List ℕ
inverted bits = map (λ b. 1 - b) bits

-- the mode, 8-VSB, and the reserved symbols: the profile's own choice
abbrev pub mode_bits : List ℕ
mode_bits =
    0 ∷ 0 ∷ 0 ∷ 0 ∷ 1 ∷ 1 ∷ 1 ∷ 1 ∷ 0 ∷ 0 ∷ 0 ∷ 0 ∷ 1 ∷ 1 ∷ 1 ∷ 1 ∷ 0 ∷ 1 ∷ 0 ∷ 1 ∷ 1 ∷ 0 ∷ 1 ∷ 0 ∷ []

abbrev pub reserved_bits : List ℕ
reserved_bits = pn63 ++ take 29 pn63

-- the first 820 symbols of a field sync. In a second field the middle one of the three short sequences is inverted.
unfoldable pub sync_symbols : Bool → List ℤ
sync_symbols second =
    segment_sync ++ map bit_symbol (pn511 ++ pn63 ++ (if second then inverted pn63 else pn63) ++ pn63 ++ mode_bits
    ++ reserved_bits)

-- a field sync, which ends with the last twelve symbols of the segment before
unfoldable pub field_sync : Bool → List ℤ → List ℤ
field_sync second last = sync_symbols second ++ last
