-- A write behind what is written already.
use Rattle.std.proofs.Common.{◌≡◌, ℕ, ◌+◌, ◌-◌, ◌*◌, ◌<◌, ◌≤◌, List, [], ◌∷◌, ◌++◌, length, take, drop, get_or, set}
use Rattle.std.proofs.Common.{refl, append_assoc, length-append, arith}
use Rattle.std.proofs.Math.Seq.{take-append_seam, drop-append_seam, take-length}
use Rattle.std.proofs.lemmas.List.{drop_all, append-nil, take_more, drop-drop, take_all, length-drop}
use Rattle.std.proofs.lemmas.Grind.{flat_map-append}
use Rattle.std.specs.List.{flat_map}
use borrow.Rule.Slice.PartMut.{put_mid}
use Rattle.dtx_ops.specs.declared.fields.Entry.{Entry}
use Rattle.dtx_ops.specs.declared.fields.Ops.{Ops}
use Rattle.dtx_ops.specs.Paging.{count_place}
use Rattle.dtx_ops.specs.Spelling.{entry_bytes, times_bytes, head_bytes}

-- ys are written behind xs
pub wrote : {X : Type 0} (xs rest ys : List X) (n : ℕ)
    → put_mid (length xs) (length rest) (xs ++ rest) (ys ++ drop n (take (length rest) (drop (length xs) (xs ++ rest))))
    ≡ xs ++ (ys ++ drop n rest)
wrote xs rest ys n = grind (arith, take-append_seam, drop-append_seam, take-length, drop_all, append-nil)

pub wrote_at : {X : Type 0} (a k : ℕ) (xs rest ys out new : List X) (n : ℕ) → out ≡ xs ++ rest → length xs ≡ a
    → k ≡ length out - a → new ≡ ys ++ drop n (take k (drop a out)) → put_mid a k out new ≡ xs ++ (ys ++ drop n rest)
wrote_at {X} a k xs rest ys out new n e l m f = grind (arith, length-append, wrote)

-- one more entry
pub entries_more : (es : List Entry) (i : ℕ) (d : Entry) (old : List ℕ) → i < length es
    → flat_map entry_bytes (take i es) ++ (entry_bytes (get_or es i d) ++ drop 4 (drop (4 * i) old))
    ≡ flat_map entry_bytes (take (i + 1) es) ++ drop (4 * (i + 1)) old
entries_more es i d old h =
    let e : 4 * (i + 1) ≡ 4 * i + 4 = omega arith in
    rw (
      take_more es i d h,
      flat_map-append entry_bytes (take i es) (get_or es i d ∷ []),
      (append-nil (entry_bytes (get_or es i d))),
      e,
      drop-drop 4 (4 * i) old,
      append_assoc,
    ) refl

-- a slice from a place to the end
pub to_end : {X : Type 0} (k : ℕ) (xs : List X) → take (length xs - k) (drop k xs) ≡ drop k xs
to_end k xs = take_all (length xs - k) (drop k xs) (omega (arith, length-drop k xs))

-- three bytes after the first
pub set_three : (xs : List ℕ) (a b c : ℕ) → 4 ≤ length xs
    → set (set (set xs 1 a) 2 b) 3 c ≡ (get_or xs 0 0 ∷ a ∷ b ∷ c ∷ []) ++ drop 4 xs
set_three [] a b c h = absurd (omega arith)
set_three (x ∷ []) a b c h = absurd (omega arith)
set_three (x ∷ y ∷ []) a b c h = absurd (omega arith)
set_three (x ∷ y ∷ z ∷ []) a b c h = absurd (omega arith)
set_three (x ∷ y ∷ z ∷ w ∷ xs) a b c h = refl

-- the first byte
pub set_first : (xs : List ℕ) (a : ℕ) → 1 ≤ length xs → set xs 0 a ≡ (a ∷ []) ++ drop 1 xs
set_first [] a h = absurd (omega arith)
set_first (x ∷ xs) a h = refl

-- two pieces, and behind them a third and the rest
pub three_pieces : (xs ys zs rest : List ℕ) → (xs ++ ys) ++ (zs ++ rest) ≡ (xs ++ (ys ++ zs)) ++ rest
three_pieces xs ys zs rest = simp append_assoc

-- the bytes before the entries
pub length-times_bytes : (f : Ops) → length (times_bytes f) ≡ 12
unfolding times_bytes
length-times_bytes f = refl

pub length-head_bytes : (f : Ops) → length (head_bytes f) ≡ count_place f.paging + 1
unfolding head_bytes
length-head_bytes f = grind (arith, length-times_bytes, length-append)

-- a packet of which byte 0 stays
pub packet_written : (xs word : List ℕ) (a b c : ℕ) → length xs ≡ 188
    → put_mid 4 184 (set (set (set xs 1 a) 2 b) 3 c) word ≡ (get_or xs 0 0 ∷ a ∷ b ∷ c ∷ []) ++ word
packet_written xs word a b c h =
    let none : drop 184 (drop 4 xs) ≡ [] = drop_all 184 (drop 4 xs) (omega (arith, length-drop 4 xs)) in
    rw (set_three xs a b c (omega arith), none, append-nil) refl
