-- No symbol of a stream is missing: none is -128.
use Rattle.std.proofs.Common.{◌≡◌, ℕ, ℤ, zero, suc, negsuc, ◌+◌, ◌-◌, ◌*◌, ◌/◌, ◌<◌, ◌==◌, Bool, true, false, cond}
use Rattle.std.proofs.Common.{List, [], ◌∷◌, length, map, take, drop, replicate, refl, arith}
use Rattle.std.specs.List.{range_with_len, AllByRecursion}
use Rattle.dtx_bursts.specs.Burst.{symbol_at}
use Rattle.dtx_coder.specs.Stream.{whole_groups, a53, four_segments, group_segments, last_before, last_of, levels}
use Rattle.dtx_coder.specs.Stream.{no_last, segment, sync_before, zero_states}
use Rattle.dtx_erase.specs.Marks.{AllThere, AreThere, is_missing}
use Rattle.dtx_frame.specs.Segments.{bit_symbol, segment_sync, data_segment, sync_symbols, field_sync}
use Rattle.dtx_trellis.specs.Trellis.{symbol_of}
use Rattle.dtx_jobs.proofs.StreamBackLemmas.{levels_small}
use Rattle.dtx_jobs.proofs.SymbolsBackLemmas.{each_append, each_at, each_drop, each_flat, each_map, each_range}
use Rattle.dtx_jobs.proofs.SymbolsBackLemmas.{each_take}

-- the symbol isn't missing
abbrev IsThere : ℤ → Type 0
IsThere symbol = is_missing symbol ≡ false

level_there : (z : ℕ) → z < 8 → IsThere (symbol_of z)
unfolding symbol_of
level_there zero l = refl
level_there (suc zero) l = refl
level_there (suc (suc zero)) l = refl
level_there (suc (suc (suc zero))) l = refl
level_there (suc (suc (suc (suc zero)))) l = refl
level_there (suc (suc (suc (suc (suc zero))))) l = refl
level_there (suc (suc (suc (suc (suc (suc zero)))))) l = refl
level_there (suc (suc (suc (suc (suc (suc (suc zero))))))) l = refl
level_there (suc (suc (suc (suc (suc (suc (suc (suc z)))))))) l = absurd (omega arith)

bit_there : (b : ℕ) → IsThere (bit_symbol b)
unfolding bit_symbol
bit_there b = grind arith

bits_there : (bits : List ℕ) → AreThere (map bit_symbol bits)
bits_there [] = tt
bits_there (b ∷ bs) = (bit_there b, bits_there bs)

front_there : AreThere segment_sync
unfolding segment_sync
front_there = bits_there (1 ∷ 0 ∷ 0 ∷ 1 ∷ [])

segment_there : (zs : List ℕ) (n : ℕ) → AllByRecursion (λ z. z < 8) zs → AreThere (segment zs n)
unfolding segment data_segment
segment_there zs n small =
    let piece : List ℕ = take (828 * n + 828 - 828 * n) (drop (828 * n) zs) in
    each_append IsThere segment_sync (map symbol_of piece) front_there
    (each_map (λ z. z < 8) IsThere symbol_of piece level_there
    (each_take (λ z. z < 8) (828 * n + 828 - 828 * n) (drop (828 * n) zs) (each_drop (λ z. z < 8) (828 * n) zs small)))

sync_there : (second : Bool) (last : List ℤ) → AreThere last → AreThere (field_sync second last)
unfolding field_sync sync_symbols
sync_there second last there = grind (arith, each_append, front_there, bits_there)

data_there : (packets : List (List ℕ)) (n : ℕ) → AreThere (segment (levels packets) n)
unfolding levels
data_there packets n = segment_there (levels packets) n (levels_small 0 zero_states (whole_groups packets))

lowest_there : (n : ℕ) → AreThere (replicate n (negsuc 6))
lowest_there zero = tt
lowest_there (suc n) = (refl, lowest_there n)

last_there : (packets : List (List ℕ)) (u : ℕ) → AreThere (last_before packets u)
unfolding last_before last_of no_last
last_there packets u = by_test (u == 0)
  where
    by_test : (t : Bool) → AreThere (cond t (replicate 12 (negsuc 6)) (drop 820 (segment (levels packets) (4 * u - 1))))
    by_test true = lowest_there 12
    by_test false = each_drop IsThere 820 (segment (levels packets) (4 * u - 1)) (data_there packets (4 * u - 1))

before_there : (packets : List (List ℕ)) (u : ℕ) → AllThere (sync_before packets u)
unfolding sync_before
before_there packets u = grind (arith, sync_there, last_there)

group_there : (packets : List (List ℕ)) (u : ℕ) → AllThere (group_segments packets u)
unfolding group_segments four_segments
group_there packets u = grind (arith, each_append, before_there, each_range, data_there)

stream_there : (packets : List (List ℕ)) → AllThere (a53 packets)
unfolding a53
stream_there packets =
    each_flat AreThere (group_segments packets) (range_with_len 0 (length packets / 4)) (group_there packets)

pub symbol_there : (packets : List (List ℕ)) (n : ℕ) → is_missing (symbol_at (a53 packets) n) ≡ false
symbol_there packets n = grind (arith, each_at, stream_there)
