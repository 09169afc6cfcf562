-- Segments that are written in two parts.
use Rattle.std.proofs.Common.{◌≡◌, ℕ, ◌+◌, ◌-◌, ◌≤◌, ℤ, List, ◌++◌, length, take, drop, length-drop, sym, ap, ◌∙◌}
use Rattle.std.proofs.Common.{arith}
use Rattle.std.proofs.Math.Seq.{take-append_seam, drop-append_seam, take-append-add}
use Rattle.std.proofs.lemmas.List.{append-nil, drop_all, drop_at, drop-drop, drop-take, length-take-le}
use Rattle.std.proofs.lemmas.Slice.{take-put_mid_below}
use borrow.Rule.Slice.PartMut.{put_mid, post_of}

parts : (a k : ℕ) (front rest last : List ℤ) → length front ≡ a → length rest ≡ k
    → put_mid a k (front ++ rest) last ≡ front ++ last
parts a k front rest last long behind = grind (arith, take-append_seam, drop-append_seam, drop_all, append-nil)

-- the first a symbols and the last k of a segment, copied to their places
pub two_parts : (a k : ℕ) (out front last first second : List ℤ) → length out ≡ a + k → length front ≡ a → first ≡ front
    → second ≡ last → put_mid a k (first ++ post_of 0 a out) second ≡ front ++ last
two_parts a k out front last first second h long at_first at_second = grind (arith, parts, length-drop)

-- a part that is copied to place a of a list, and what stands behind it
pub part_put : (a k n : ℕ) (xs part : List ℤ) → length part ≡ k → a ≤ length xs
    → take (k + n) (drop a (put_mid a k xs part)) ≡ part ++ take n (drop (a + k) xs)
part_put a k n xs part long l = grind (arith, drop_at, length-take-le, take-append-add, drop-drop)

-- a piece in front of it
pub piece_before : (a k b n : ℕ) (xs part : List ℤ) → b + n ≤ a → a ≤ length xs
    → take n (drop b (put_mid a k xs part)) ≡ take n (drop b xs)
piece_before a k b n xs part l m = rw (← drop-take, take-put_mid_below, drop-take)

-- what stands behind place a + n, where two lists are alike from place a on
pub behind_too : (a n : ℕ) (xs ys : List ℤ) → drop a xs ≡ drop a ys → drop (a + n) xs ≡ drop (a + n) ys
behind_too a n xs ys e = sym (drop-drop n a xs) ∙ ap (drop n) e ∙ drop-drop n a ys
