-- What `soft` writes is read back as its segments.
use Rattle.std.proofs.Common.{◌≡◌, ℕ, ℤ, pos, ◌+◌, ◌-◌, ◌*◌, ◌/◌, ◌<◌, nat_lt, cond, All, Bool, true, false, Option}
use Rattle.std.proofs.Common.{Some, None, List, [], ◌∷◌, length, map, take, drop, get_or, refl, ap, arith}
use Rattle.std.proofs.lemmas.List.Elements.{All-get_or}
use Rattle.dtx_trellis.specs.Trellis.{symbol_of, coder_at}
use Rattle.dtx_coder.proofs.CountsLemmas.{AreSegments, segments_map}
use Rattle.dtx_soft.specs.Coders.{coder_symbols}
use Rattle.dtx_soft.specs.Least.{least_levels, least_start}
use Rattle.dtx_soft.proofs.LeastPathLemmas.{least_path_found}
use Rattle.dtx_soft.specs.Paths.{IsPath, next_state, symbol_at}
use Rattle.dtx_soft.specs.Softened.{least_symbols, softened, softened_segment, softened_symbol}
use Rattle.dtx_files.specs.Symbols.{segment_bytes}
use Rattle.dtx_recipes.specs.Soft.{in_groups, place_at, soft_at, soft_from, soft_symbols}
use Rattle.dtx_recipes.specs.SymbolFile.{file_segments, segment_at, symbol_of_byte, whole_segments}
use Rattle.dtx_jobs.proofs.SymbolsBackLemmas.{AreBack, EachBack, IsBack, each_at, each_drop, each_map, each_of}
use Rattle.dtx_jobs.proofs.SymbolsBackLemmas.{each_range, each_take, level_back, segments_read_back}
use Rattle.dtx_symbol_laws.proofs.SoftFiles.{byte_back}
use Rattle.dtx_symbol_laws.proofs.SoftMoved.{HasRows, file_rows, softened_row}

path_level : (z : ℕ) → z < 8 → IsBack (symbol_at 1 z)
unfolding symbol_at symbol_of
path_level z l = grind (arith, level_back)

path_back : (state : ℕ) (levels : List ℕ) → IsPath state levels → AreBack (map (symbol_at 1) levels)
path_back state [] h = tt
path_back state (z ∷ levels) h = (path_level z h.0, path_back (next_state state z) levels h.2)

softened_back : (g : List (List ℤ)) → EachBack g → EachBack (softened 1 g)
unfolding softened softened_segment softened_symbol least_symbols
softened_back g back = each_range AreBack (softened_segment 1 g) 0 (length g) (λ i a b.
    each_range IsBack (λ k. cond (nat_lt k 4) (get_or (get_or g i []) k (pos 0))
    (softened_symbol 1 g (828 * i + (k - 4)))) 0 832 (λ k c d. symbol i k (nat_lt k 4)))
  where
    symbol : (i k : ℕ) (b : Bool)
        → IsBack (cond b (get_or (get_or g i []) k (pos 0)) (softened_symbol 1 g (828 * i + (k - 4))))
    symbol i k true = each_at IsBack (get_or g i []) k (pos 0) (each_at AreBack g i [] back tt) refl
    symbol i k false =
        let d = 828 * i + (k - 4) in
        let e = coder_at 0 d in
        each_at IsBack (map (symbol_at 1) (least_levels 1 (coder_symbols g e))) (d / 12) (pos 0)
        (path_back (least_start 1 (coder_symbols g e)) (least_levels 1 (coder_symbols g e))
        (least_path_found 1 (coder_symbols g e)).path) refl

soft_back : (s : List (List ℤ)) → EachBack s → EachBack (soft_symbols s)
unfolding soft_symbols soft_at in_groups
soft_back s back = each_range AreBack (soft_at s) 0 (length s) (λ i a b. at i (place_at s i))
  where
    at : (i : ℕ) (o : Option ℕ) → AreBack (soft_from s i o)
    at i None = each_at AreBack s i [] back tt
    at i (Some place) = grind (arith, each_at, softened_back, each_take, each_drop)

soft_long : (s : List (List ℤ)) → HasRows s → AreSegments (soft_symbols s)
unfolding soft_symbols soft_at softened
soft_long s rows = grind (arith, segments_map, each_at, each_range, softened_row)

-- the symbols of bytes
file_back : (file : List ℕ) → All (λ b. b < 256) file → EachBack (file_segments file)
file_back file h = each_range AreBack (segment_at file) 0 (whole_segments file) (λ i a b.
    each_map (λ b. b < 256) IsBack symbol_of_byte (take 832 (drop (832 * i) file))
    (λ b l. ap symbol_of_byte (byte_back b l)) (each_take (λ b. b < 256) 832 (drop (832 * i) file)
    (each_drop (λ b. b < 256) (832 * i) file
    (each_of (λ b. b < 256) file 0 (λ k l. All-get_or (λ b. b < 256) file k 0 l h)))))

pub soft_read_back : (file : List ℕ) → All (λ b. b < 256) file
    → file_segments (segment_bytes (soft_symbols (file_segments file))) ≡ soft_symbols (file_segments file)
soft_read_back file h = grind (arith, segments_read_back, soft_long, file_rows, soft_back, file_back)
