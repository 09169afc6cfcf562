-- Every symbol of a data segment and of a field sync is the symbol of its byte in a symbol file, so the segments of a
-- stream are read back from its file.
use Rattle.std.proofs.Common.{◌≡◌, ℕ, zero, suc, ℤ, negsuc, ◌+◌, ◌-◌, ◌*◌, ◌/◌, ◌%◌, ◌<◌, ◌==◌, Bool, true, false, cond}
use Rattle.std.proofs.Common.{List, [], ◌∷◌, length, map, take, drop, replicate, refl, ◌∙◌, arith}
use Rattle.std.specs.Prelude.{nat_le}
use Rattle.std.specs.List.{range_with_len, AllByRecursion}
use Rattle.std.proofs.lemmas.List.{length-map}
use Rattle.dtx_trellis.specs.Trellis.{symbol_of, groups}
use Rattle.dtx_trellis.specs.Groups.{level_at, levels_of}
use Rattle.dtx_frame.specs.Segments.{bit_symbol, segment_sync, data_segment, sync_symbols, field_sync}
use Rattle.dtx_frame.proofs.RuleLemmas.{level_at_small}
use Rattle.dtx_coder.specs.Stream.{whole_groups, a53, a53_symbols, four_segments, group_segments, last_before, last_of}
use Rattle.dtx_coder.specs.Stream.{levels, no_last, segment, sync_before, zero_states}
use Rattle.dtx_coder.proofs.CountsLemmas.{a53_segment, length-a53_symbols}
use Rattle.dtx_files.specs.Symbols.{byte_of_symbol}
use Rattle.dtx_recipes.specs.SymbolFile.{file_segments, symbol_bytes}
use Rattle.dtx_jobs.proofs.SymbolsBackLemmas.{AreBack, EachBack, IsBack, each_append, each_drop, each_flat, each_map}
use Rattle.dtx_jobs.proofs.SymbolsBackLemmas.{each_of, each_range, each_take, level_back, segments_read_back}

-- ---- symbols

bit_back : (b : ℕ) → IsBack (bit_symbol b)
unfolding bit_symbol
bit_back b = grind arith

bits_back : (bits : List ℕ) → AreBack (map bit_symbol bits)
bits_back [] = tt
bits_back (b ∷ bs) = (bit_back b, bits_back bs)

front_back : AreBack segment_sync
unfolding segment_sync
front_back = bits_back (1 ∷ 0 ∷ 0 ∷ 1 ∷ [])

-- ---- segments

pub levels_small : (s : ℕ) (q bytes : List ℕ) → AllByRecursion (λ z. z < 8) (levels_of s q bytes)
unfolding levels_of
levels_small s q bytes = each_range (λ z. z < 8) (level_at s q bytes) 0 (3312 * groups bytes)
    (λ d l m. level_at_small s d q bytes (omega (arith, m)))

pub segment_back : (zs : List ℕ) (n : ℕ) → AllByRecursion (λ z. z < 8) zs → AreBack (segment zs n)
unfolding segment data_segment
segment_back zs n small =
    let piece : List ℕ = take (828 * n + 828 - 828 * n) (drop (828 * n) zs) in
    each_append IsBack segment_sync (map symbol_of piece) front_back
    (each_map (λ z. z < 8) IsBack symbol_of piece level_back
    (each_take (λ z. z < 8) (828 * n + 828 - 828 * n) (drop (828 * n) zs) (each_drop (λ z. z < 8) (828 * n) zs small)))

pub sync_back : (second : Bool) (last : List ℤ) → AreBack last → AreBack (field_sync second last)
unfolding field_sync sync_symbols
sync_back second last back = grind (arith, each_append, front_back, bits_back)

-- ---- a stream

data_back : (packets : List (List ℕ)) (n : ℕ) → AreBack (segment (levels packets) n)
unfolding levels
data_back packets n = segment_back (levels packets) n (levels_small 0 zero_states (whole_groups packets))

lowest_back : (n : ℕ) → AreBack (replicate n (negsuc 6))
lowest_back zero = tt
lowest_back (suc n) = (refl, lowest_back n)

last_back : (packets : List (List ℕ)) (u : ℕ) → AreBack (last_before packets u)
unfolding last_before last_of no_last
last_back packets u = by_test (u == 0)
  where
    by_test : (t : Bool) → AreBack (cond t (replicate 12 (negsuc 6)) (drop 820 (segment (levels packets) (4 * u - 1))))
    by_test true = lowest_back 12
    by_test false = each_drop IsBack 820 (segment (levels packets) (4 * u - 1)) (data_back packets (4 * u - 1))

before_back : (packets : List (List ℕ)) (u : ℕ) → EachBack (sync_before packets u)
unfolding sync_before
before_back packets u = by_test (4 * u % 312 == 0)
  where
    second : Bool
    second = nat_le 312 (4 * u % 624)

    by_test : (t : Bool) → EachBack (cond t (field_sync second (last_before packets u) ∷ []) [])
    by_test true = (sync_back second (last_before packets u) (last_back packets u), tt)
    by_test false = tt

group_back : (packets : List (List ℕ)) (u : ℕ) → EachBack (group_segments packets u)
unfolding group_segments four_segments
group_back packets u =
    each_append AreBack (sync_before packets u) (map (segment (levels packets)) (range_with_len (4 * u) 4))
    (before_back packets u) (each_range AreBack (segment (levels packets)) (4 * u) 4 (λ n l m. data_back packets n))

stream_back : (packets : List (List ℕ)) → EachBack (a53 packets)
unfolding a53
stream_back packets =
    each_flat AreBack (group_segments packets) (range_with_len 0 (length packets / 4)) (group_back packets)

-- ---- its file

pub length-symbol_bytes : (packets : List (List ℕ)) → length (symbol_bytes packets) ≡ 832 * length (a53 packets)
length-symbol_bytes packets = length-map (a53_symbols packets) byte_of_symbol ∙ length-a53_symbols packets

pub stream_read_back : (packets : List (List ℕ)) → file_segments (symbol_bytes packets) ≡ a53 packets
unfolding a53_symbols
stream_read_back packets =
    segments_read_back (a53 packets) (each_of (λ s. length s ≡ 832) (a53 packets) [] (a53_segment packets))
    (stream_back packets)
