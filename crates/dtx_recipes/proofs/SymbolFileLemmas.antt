-- Laws of the segments of a symbol file that is read piece by piece.
use Rattle.std.proofs.Common.{◌≡◌, ℕ, ◌+◌, ◌-◌, ◌*◌, ◌%◌, ◌<◌, List, [], ◌++◌, length, take, drop, refl, sym, ap, ◌∙◌}
use Rattle.std.proofs.Common.{arith}
use Rattle.std.proofs.lemmas.List.{drop-drop, drop-take, take-take, map-append, length-append}
use Rattle.std.proofs.lemmas.List.FromFn.{get_or-map-range_with_len, length-map-range_with_len, fill_by_all}
use Rattle.std.proofs.Math.Seq.{take-append_seam, drop-append_seam}
use Rattle.dtx_lists.proofs.Range.{range_with_len-parts}
use Rattle.dtx_recipes.specs.SymbolFile.{symbols, segment_at, segments_from, file_segments, whole_segments}

-- the segments of two pieces, one behind the other
pub segments_from-append : (file : List ℕ) (first m n : ℕ)
    → segments_from file first (m + n) ≡ segments_from file first m ++ segments_from file (first + m) n
segments_from-append file first m n = grind (arith, range_with_len-parts, map-append)

-- segment k of a piece
segment_at-piece : (file : List ℕ) (first n k : ℕ) → k < n
    → segment_at (take (832 * n) (drop (832 * first) file)) k ≡ segment_at file (first + k)
segment_at-piece file first n k within =
    let place : 832 * first + 832 * k ≡ 832 * (first + k) = omega arith in
    ap symbols (
    ap (λ m. take 832 (drop (832 * k) (take m (drop (832 * first) file)))) (omega arith)
    ∙ ap (take 832) (drop-take (832 * k) (832 * n - 832 * k) (drop (832 * first) file))
    ∙ take-take 832 (832 * n - 832 * k) (drop (832 * k) (drop (832 * first) file)) (omega arith)
    ∙ ap (take 832) (drop-drop (832 * k) (832 * first) file ∙ ap (λ m. drop m file) place))

-- the segments of a piece of a file
pub segments_from-piece : (file : List ℕ) (first n : ℕ)
    → segments_from (take (832 * n) (drop (832 * first) file)) 0 n ≡ segments_from file first n
segments_from-piece file first n =
    let piece = take (832 * n) (drop (832 * first) file) in
    sym (fill_by_all (segment_at piece) (segments_from file first n) n [] (grind (arith, length-map-range_with_len))
    (λ k less. get_or-map-range_with_len (segment_at file) first n k (first + k) [] less refl
    ∙ sym (segment_at-piece file first n k less)))

-- the segments of bytes behind whole segments
pub file_segments-append : (a b : List ℕ) → length a % 832 ≡ 0
    → file_segments (a ++ b) ≡ file_segments a ++ file_segments b
file_segments-append a b whole =
    let m = whole_segments a in
    let n = whole_segments b in
    let long : 832 * m ≡ length a = omega (arith, whole) in
    let both : whole_segments (a ++ b) ≡ m + n = omega (arith, whole, length-append a b) in
    let front : take (832 * m) (a ++ b) ≡ a = ap (λ k. take k (a ++ b)) long ∙ take-append_seam a b in
    let behind : drop (832 * m) (a ++ b) ≡ b = ap (λ k. drop k (a ++ b)) long ∙ drop-append_seam a b in
    let place : 0 + m ≡ m = omega arith in
    let first : segments_from (a ++ b) 0 m ≡ file_segments a =
    sym (segments_from-piece (a ++ b) 0 m) ∙ ap (λ z. segments_from z 0 m) front in
    let more : n ≡ n = refl in
    let second : segments_from (a ++ b) (0 + m) n ≡ file_segments b = grind (arith, segments_from-piece) in
    ap (segments_from (a ++ b) 0) both ∙ segments_from-append (a ++ b) 0 m n
    ∙ ap (λ z. z ++ segments_from (a ++ b) (0 + m) n) first ∙ ap (λ z. file_segments a ++ z) second
