-- What a group is sent as, symbol by symbol.
use Rattle.std.proofs.Common.{◌≡◌, ℕ, zero, suc, ◌+◌, ◌-◌, ◌*◌, ◌<◌, cond, Bool, true, false, ℤ, List, [], ◌∷◌, ◌++◌}
use Rattle.std.proofs.Common.{length, map, take, drop, refl, sym, ap, ap₂, ◌∙◌, arith}
use Rattle.std.specs.List.{range_with_len}
use Rattle.std.proofs.Math.Seq.{take-add}
use Rattle.std.proofs.lemmas.List.{append-nil, append_assoc, drop-drop, drop_at, length-append, length-drop, take_all}
use Rattle.std.proofs.lemmas.List.FromFn.{length-map-range_with_len, map-range_with_len_more}
use Rattle.std.proofs.lemmas.Grind.{flat_map-append}
use Rattle.dtx_trellis.specs.Groups.{states_after}
use Rattle.dtx_trellis.specs.Trellis.{symbol_of}
use Rattle.dtx_frame.specs.Segments.{data_segment, field_sync, segment_sync}
use Rattle.dtx_coder.specs.Stream.{segment, four_segments, last_of, symbols_of}
use Rattle.dtx_coder.specs.Groups.{Coding}
use Rattle.dtx_coder.specs.Batches.{InterleavedGroup, IsSent, after_bytes, levels_of_bytes, segments_of_bytes}
use Rattle.dtx_coder.proofs.LevelsLemmas.{length-levels_of}
use Rattle.dtx_coder.proofs.SegmentsLemmas.{length-segment, segment_is}
use Rattle.dtx_coder.proofs.NextLemmas.{same_coding}

-- one segment more
symbols_more : (zs : List ℕ) (n : ℕ) → symbols_of (map (segment zs) (range_with_len 0 (n + 1)))
    ≡ symbols_of (map (segment zs) (range_with_len 0 n)) ++ segment zs n
symbols_more zs n = ap symbols_of (map-range_with_len_more (segment zs) 0 n n (let e : 0 + n ≡ n = omega arith in e))
    ∙ grind (arith, flat_map-append, append-nil)

-- the first n segments of some levels, where they are the pieces of a list
segments_joined : (zs : List ℕ) (xs : List ℤ) (n : ℕ) → ((s : ℕ) → s < n → take 832 (drop (832 * s) xs) ≡ segment zs s)
    → take (832 * n) xs ≡ symbols_of (map (segment zs) (range_with_len 0 n))
segments_joined zs xs zero h = refl
segments_joined zs xs (suc n) h = ap (λ k. take k xs) (grind arith) ∙ take-add (832 * n) 832 xs
    ∙ ap₂ (λ x y. x ++ y) (segments_joined zs xs n (λ s l. h s (omega (arith, l)))) (h n (omega arith))
    ∙ sym (symbols_more zs n)
    ∙ ap (λ k. symbols_of (map (segment zs) (range_with_len 0 k))) (let e : n + 1 ≡ suc n = omega arith in e)

-- a group's segments, piece by piece
pub four_written : (zs : List ℕ) (xs : List ℤ) → length xs ≡ 3328
    → ((s : ℕ) → s < 4 → take 832 (drop (832 * s) xs) ≡ segment_sync ++ map symbol_of (take 828 (drop (828 * s) zs)))
    → xs ≡ symbols_of (four_segments zs 0)
unfolding four_segments data_segment
four_written zs xs long h = sym (take_all (832 * 4) xs (omega (arith, long)))
    ∙ segments_joined zs xs 4 (λ s l. h s l ∙ sym (segment_is zs s))

-- the last twelve symbols of a list that ends with a segment
last_twelve : (xs s : List ℤ) (n : ℕ) → length (xs ++ s) ≡ n → length s ≡ 832 → drop (n - 12) (xs ++ s) ≡ last_of s
unfolding last_of
last_twelve xs s n e l = ap (λ a. drop a (xs ++ s)) (grind (arith, length-append))
    ∙ sym (drop-drop 820 (length xs) (xs ++ s)) ∙ ap (drop 820) (drop_at xs s (length xs) refl)

-- a group's segments end with the last one
four_end : (zs : List ℕ) → symbols_of (four_segments zs 0) ≡ symbols_of (map (segment zs) (range_with_len 0 3))
    ++ segment zs 3
unfolding four_segments
four_end zs = symbols_more zs 3

length_sent : (b : Bool) (s : List ℤ) (ss : List (List ℤ)) → length ss ≡ 4
    → cond b 1 0 + 4 ≡ length (cond b (s ∷ []) [] ++ ss)
length_sent true s ss e = sym (ap suc e)
length_sent false s ss e = sym e

symbols_sent : (b : Bool) (s : List ℤ) (ss : List (List ℤ))
    → cond b s [] ++ symbols_of ss ≡ symbols_of (cond b (s ∷ []) [] ++ ss)
symbols_sent true s ss = refl
symbols_sent false s ss = refl

length_four : (zs : List ℕ) → length (four_segments zs 0) ≡ 4
unfolding four_segments
length_four zs = length-map-range_with_len (segment zs) 0 4

-- what the code does with a group's bytes
pub record Does (old : Coding) (g : InterleavedGroup) (states : List ℕ) (last : List ℤ) (count : ℕ) (sent : List ℤ)
    : Type 0 where
  pub bytes_long : length g.bytes ≡ 828
  pub states_are : states ≡ states_after g.first g.from g.bytes
  pub counted : count ≡ cond g.sync 1 0 + 4
  pub twelve : length last ≡ 12
  pub written : take (832 * count) sent ≡ cond g.sync (field_sync g.second old.last) []
      ++ symbols_of (four_segments (levels_of_bytes g) 0)
  pub ends : last ≡ drop (832 * count - 12) (take (832 * count) sent)

last_sent : (old : Coding) (g : InterleavedGroup) (states : List ℕ) (last : List ℤ) (count : ℕ) (sent : List ℤ)
    → Does old g states last count sent → last ≡ last_of (segment (levels_of_bytes g) 3)
last_sent old g states last count sent d =
    let levels : List ℕ = levels_of_bytes g in
    let front : List ℤ = cond g.sync (field_sync g.second old.last) [] in
    let three : List ℤ = symbols_of (map (segment levels) (range_with_len 0 3)) in
    let whole : take (832 * count) sent ≡ front ++ three ++ segment levels 3 =
    d.written ∙ ap (λ s. front ++ s) (four_end levels) ∙ sym (append_assoc front three (segment levels 3)) in
    let a : length last ≡ length (take (832 * count) sent) - (832 * count - 12) =
    ap length d.ends ∙ length-drop (832 * count - 12) (take (832 * count) sent) in
    let twelve = d.twelve in
    let counted = d.counted in
    let long : length levels ≡ 3312 = length-levels_of g.first g.from g.bytes 1 d.bytes_long in
    d.ends ∙ ap (drop (832 * count - 12)) whole ∙ last_twelve (front ++ three) (segment levels 3) (832 * count)
    (sym (ap length whole) ∙ (omega (arith, a, twelve, counted))) (length-segment levels 3 (omega (arith, long)))

pub does_send : (old : Coding) (g : InterleavedGroup) (states : List ℕ) (last : List ℤ) (count : ℕ) (sent : List ℤ)
    → Does old g states last count sent
    → IsSent old g (record { states = states; last = last; branches = old.branches }) count sent
unfolding after_bytes segments_of_bytes
does_send old g states last count sent d = grind (arith, same_coding, last_sent, length_sent, length_four, symbols_sent)
