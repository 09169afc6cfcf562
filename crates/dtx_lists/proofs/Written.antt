-- A list of which a part was written.
use Rattle.std.proofs.Common.{◌≡◌, ℕ, ◌+◌, ◌≤◌, List, length, arith}
use Rattle.std.proofs.lemmas.List.{length-append, length-drop, length-take-le}
use borrow.Rule.Slice.PartMut.{put_mid}

-- it has as many items as before
pub length-put_mid : {A : Type 0} (a k : ℕ) (xs ys : List A) → a + k ≤ length xs → length ys ≡ k
    → length (put_mid a k xs ys) ≡ length xs
length-put_mid a k xs ys l e = grind (arith, length-append, length-take-le, length-drop)
