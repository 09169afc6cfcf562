-- Lemmas of the segments of a symbol file that is read piece by piece.
use Rattle.std.proofs.Common.{◌≡◌, ℕ, ◌+◌, ◌-◌, ◌*◌, ◌/◌, ◌%◌, ◌<◌, ◌≤◌, List, [], ◌++◌, length, take, drop, get_or}
use Rattle.std.proofs.Common.{sym, ap, ◌∙◌, arith}
use Rattle.std.specs.Simd.{first_chunks}
use Rattle.std.proofs.lemmas.List.{ext_get_or, get_or-drop, get_or-map, get_or-take, length-drop}
use Rattle.std.proofs.lemmas.List.{length-map, length-take-le, take_at}
use Rattle.std.proofs.lemmas.List.FromFn.{get_or-map-range_with_len, length-map-range_with_len}
use Rattle.dtx_packets.proofs.ChunksLemmas.{get_or-first_chunks}
use Rattle.dtx_receiver.specs.Bytes.{symbols_in}
use Rattle.dtx_recipes.specs.SymbolFile.{symbols, segment_at, segments_from, file_segments, whole_segments}
use Rattle.dtx_recipes.proofs.SymbolFileLemmas.{file_segments-append, segments_from-append, segments_from-piece}

-- how many segments bytes have
pub length-segments_of : (file : List ℕ) → length (file_segments file) ≡ whole_segments file
length-segments_of file = length-map-range_with_len (segment_at file) 0 (whole_segments file)

-- where all whole segments were read, the bytes behind them are in none
pub file_segments-whole : (file : List ℕ) → file_segments (take (832 * whole_segments file) file) ≡ file_segments file
file_segments-whole file = grind (arith, length-take-le, segments_from-piece)

-- the first segments of a file
pub first_segments : (file : List ℕ) (n : ℕ) → n ≤ whole_segments file
    → file_segments (take (832 * n) file) ≡ take n (file_segments file)
first_segments file n within =
    let long : length (take (832 * n) file) ≡ 832 * n = length-take-le (832 * n) file (omega (arith, within)) in
    let many : whole_segments (take (832 * n) file) ≡ n = omega (arith, long) in
    let all : whole_segments file ≡ n + (whole_segments file - n) = omega (arith, within) in
    ap (segments_from (take (832 * n) file) 0) many ∙ segments_from-piece file 0 n
    ∙ sym (grind (arith, segments_from-append, take_at, length-map-range_with_len))

-- some of a piece's chunks
pub segments_of_chunks : (bytes : List ℕ) (chunks first n : ℕ) → first + n ≤ chunks
    → length (first_chunks 832 chunks bytes) ≡ chunks
    → symbols_in (take n (drop first (first_chunks 832 chunks bytes))) ≡ segments_from bytes first n
segments_of_chunks bytes chunks first n fits all = ext_get_or [] (symbols_in some) (segments_from bytes first n)
    (length-map some symbols ∙ long ∙ sym (length-map-range_with_len (segment_at bytes) first n))
    (λ k l. place k (omega (arith, l, length-map some symbols, long)))
  where
    some : List (List ℕ)
    some = take n (drop first (first_chunks 832 chunks bytes))

    long : length some ≡ n
    long = length-take-le n (drop first (first_chunks 832 chunks bytes))
        (omega (arith, fits, all, length-drop first (first_chunks 832 chunks bytes)))

    place : (k : ℕ) → k < n → get_or (symbols_in some) k [] ≡ get_or (segments_from bytes first n) k []
    place k l = get_or-map symbols some k [] [] (omega (arith, l, long))
        ∙ grind (arith, get_or-take, get_or-drop, get_or-first_chunks, get_or-map-range_with_len)

-- segments that are taken behind whole ones: the first chunks of some bytes
pub chunks_on : (given bytes : List ℕ) (n : ℕ) (chunks : List (List ℕ)) → length given % 832 ≡ 0
    → chunks ≡ first_chunks 832 (length bytes / 832) bytes → length chunks ≡ length bytes / 832 → n ≤ length bytes / 832
    → file_segments (given ++ take (832 * n) bytes) ≡ file_segments given ++ symbols_in (take n chunks)
chunks_on given bytes n chunks whole is long fits =
    let part = take (832 * n) bytes in
    let many : whole_segments part ≡ n = omega (arith, length-take-le (832 * n) bytes (omega (arith, fits))) in
    file_segments-append given part whole
    ∙ ap (λ z. file_segments given ++ z) (ap (segments_from part 0) many ∙ segments_from-piece bytes 0 n
    ∙ sym (ap (λ xs. symbols_in (take n xs)) is
    ∙ segments_of_chunks bytes (length bytes / 832) 0 n (omega (arith, fits)) (sym (ap length is) ∙ long)))
