-- Segments are read back from the bytes of their symbols, where each symbol is one that a byte has.
use Rattle.std.proofs.Common.{◌≡◌, ℕ, zero, suc, ℤ, ◌+◌, ◌*◌, ◌<◌, ◌≤◌, List, [], ◌∷◌, ◌++◌, length, map, take, drop}
use Rattle.std.proofs.Common.{get_or, refl, sym, ap, ap₂, ◌∙◌, arith}
use Rattle.std.specs.List.{AllByRecursion, flat_map, range_with_len}
use Rattle.std.proofs.lemmas.List.{drop-drop, length-append, length-map, map-append}
use Rattle.std.proofs.Math.Seq.{take-append_seam, drop-append_seam}
use Rattle.dtx_coder.specs.Stream.{symbols_of}
use Rattle.dtx_coder.proofs.CountsLemmas.{AreSegments}
use Rattle.dtx_trellis.specs.Trellis.{symbol_of}
use Rattle.dtx_files.specs.Symbols.{byte_of_symbol, segment_bytes}
use Rattle.dtx_recipes.specs.SymbolFile.{file_segments, segments_from, symbol_of_byte, symbols, whole_segments}

-- the symbol comes back from its byte
abbrev pub IsBack : ℤ → Type 0
IsBack symbol = symbol_of_byte (byte_of_symbol symbol) ≡ symbol

-- each of the symbols does
abbrev pub AreBack : List ℤ → Type 0
AreBack symbols = AllByRecursion IsBack symbols

-- each symbol of each of the segments does
abbrev pub EachBack : List (List ℤ) → Type 0
EachBack segments = AllByRecursion AreBack segments

-- the symbol of a level
pub level_back : (z : ℕ) → z < 8 → IsBack (symbol_of z)
unfolding symbol_of
level_back zero l = refl
level_back (suc zero) l = refl
level_back (suc (suc zero)) l = refl
level_back (suc (suc (suc zero))) l = refl
level_back (suc (suc (suc (suc zero)))) l = refl
level_back (suc (suc (suc (suc (suc zero))))) l = refl
level_back (suc (suc (suc (suc (suc (suc zero)))))) l = refl
level_back (suc (suc (suc (suc (suc (suc (suc zero))))))) l = refl
level_back (suc (suc (suc (suc (suc (suc (suc (suc z)))))))) l = absurd (omega arith)

-- ---- what holds of each element of a list

pub each_append : {X : Type 0} (P : X → Type 0) (xs ys : List X) → AllByRecursion P xs → AllByRecursion P ys
    → AllByRecursion P (xs ++ ys)
each_append P [] ys h g = g
each_append P (x ∷ xs) ys h g = (h.0, each_append P xs ys h.1 g)

pub each_take : {X : Type 0} (P : X → Type 0) (n : ℕ) (xs : List X) → AllByRecursion P xs → AllByRecursion P (take n xs)
each_take P zero xs h = tt
each_take P (suc n) [] h = tt
each_take P (suc n) (x ∷ xs) h = (h.0, each_take P n xs h.1)

pub each_drop : {X : Type 0} (P : X → Type 0) (n : ℕ) (xs : List X) → AllByRecursion P xs → AllByRecursion P (drop n xs)
each_drop P zero xs h = h
each_drop P (suc n) [] h = tt
each_drop P (suc n) (x ∷ xs) h = each_drop P n xs h.1

pub each_map : {X Y : Type 0} (P : X → Type 0) (Q : Y → Type 0) (f : X → Y) (xs : List X)
    → ((x : X) → P x → Q (f x)) → AllByRecursion P xs → AllByRecursion Q (map f xs)
each_map P Q f [] gives h = tt
each_map P Q f (x ∷ xs) gives h = (gives x h.0, each_map P Q f xs gives h.1)

pub each_range : {X : Type 0} (P : X → Type 0) (f : ℕ → X) (a n : ℕ) → ((i : ℕ) → a ≤ i → i < a + n → P (f i))
    → AllByRecursion P (map f (range_with_len a n))
each_range P f a zero at = tt
each_range P f a (suc n) at = (at a (omega arith) (omega arith), each_range P f (a + 1) n (λ i l m. grind arith))

pub each_flat : {X Y : Type 0} (P : Y → Type 0) (f : X → List Y) (xs : List X) → ((x : X) → AllByRecursion P (f x))
    → AllByRecursion P (flat_map f xs)
each_flat P f [] each = tt
each_flat P f (x ∷ xs) each = each_append P (f x) (flat_map f xs) (each x) (each_flat P f xs each)

pub each_of : {X : Type 0} (P : X → Type 0) (xs : List X) (d : X) → ((i : ℕ) → i < length xs → P (get_or xs i d))
    → AllByRecursion P xs
each_of P [] d each = tt
each_of P (x ∷ xs) d each = (each 0 (omega arith), each_of P xs d (λ i l. each (suc i) (omega (arith, l))))

pub each_at : {X : Type 0} (P : X → Type 0) (xs : List X) (i : ℕ) (d : X) → AllByRecursion P xs → P d
    → P (get_or xs i d)
each_at P [] i d h own = own
each_at P (x ∷ xs) zero d h own = h.0
each_at P (x ∷ xs) (suc i) d h own = each_at P xs i d h.1 own

-- ---- segments

-- the bytes of symbols
abbrev bytes : List ℤ → List ℕ
bytes symbols = map byte_of_symbol symbols

symbols_back : (xs : List ℤ) → AreBack xs → symbols (bytes xs) ≡ xs
symbols_back [] back = refl
symbols_back (x ∷ xs) back = ap₂ ◌∷◌ back.0 (symbols_back xs back.1)

-- the first segment, and what comes behind it
first_back : (s : List ℤ) (ss : List (List ℤ)) → length s ≡ 832 → take 832 (segment_bytes (s ∷ ss)) ≡ bytes s
first_back s ss long = ap₂ (λ n xs. take n xs) (sym (length-map s byte_of_symbol ∙ long)) (grind (arith, map-append))
    ∙ take-append_seam (bytes s) (segment_bytes ss)

behind : (s : List ℤ) (ss : List (List ℤ)) → length s ≡ 832 → drop 832 (segment_bytes (s ∷ ss)) ≡ segment_bytes ss
behind s ss long =
    ap₂ (λ n xs. drop n xs) (sym (length-map s byte_of_symbol ∙ long)) (map-append byte_of_symbol s (symbols_of ss))
    ∙ drop-append_seam (bytes s) (segment_bytes ss)

-- the segments from one on, where the file goes on with them
from_back : (bs : List ℕ) (n : ℕ) (ss : List (List ℤ)) → AreSegments ss → EachBack ss
    → drop (832 * n) bs ≡ segment_bytes ss → segments_from bs n (length ss) ≡ ss
from_back bs n [] long back here = refl
from_back bs n (s ∷ ss) long back here = ap₂ ◌∷◌ (grind (arith, first_back, symbols_back))
    (from_back bs (n + 1) ss long.1 back.1 (cc (more n, drop-drop 832 (832 * n) bs, here, behind s ss long.0)))
  where
    more : (n : ℕ) → 832 * (n + 1) ≡ 832 * n + 832
    more n = omega arith

pub length-segment_bytes : (ss : List (List ℤ)) → AreSegments ss → length (segment_bytes ss) ≡ 832 * length ss
length-segment_bytes [] h = refl
length-segment_bytes (s ∷ ss) h = ap length (map-append byte_of_symbol s (symbols_of ss))
    ∙ length-append (bytes s) (segment_bytes ss)
    ∙ ap₂ (λ (m n : ℕ). m + n) (length-map s byte_of_symbol ∙ h.0) (length-segment_bytes ss h.1) ∙ (omega arith)

pub whole_segments_back : (ss : List (List ℤ)) → AreSegments ss → whole_segments (segment_bytes ss) ≡ length ss
whole_segments_back ss long = grind (arith, length-segment_bytes)

pub segments_read_back : (ss : List (List ℤ)) → AreSegments ss → EachBack ss → file_segments (segment_bytes ss) ≡ ss
segments_read_back ss long back = cc (whole_segments_back ss long, from_back (segment_bytes ss) 0 ss long back refl)
