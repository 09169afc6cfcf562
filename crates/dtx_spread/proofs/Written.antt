-- A list of which a part was written: its items before the part, in it and behind it.
use Rattle.std.proofs.Common.{◌≡◌, ℕ, ◌+◌, ◌-◌, ◌<◌, ◌≤◌, ◌⊎◌, inl, inr, List, ◌++◌, length, get_or, take, drop, refl}
use Rattle.std.proofs.Common.{sym, ap, ◌∙◌, arith}
use Rattle.std.proofs.lemmas.Bool.{cases_lt}
use Rattle.std.proofs.lemmas.List.{ext_get_or, get_or_append_left, get_or-append_right, get_or-take, get_or-drop}
use Rattle.std.proofs.lemmas.List.{length-take-le, length-append, length-drop}
use Rattle.std.proofs.lemmas.Simd.{length-chunk, length-put_chunk, get_or-chunk, get_or-put_chunk_below}
use Rattle.std.proofs.lemmas.Simd.{get_or-put_chunk_at}
use lib.Lanes.{chunk, put_chunk}
use borrow.Rule.Slice.PartMut.{put_mid}

pub written_before : (a k i : ℕ) (xs ys : List ℕ) → a ≤ length xs → i < a
    → get_or (put_mid a k xs ys) i 0 ≡ get_or xs i 0
written_before a k i xs ys l m = grind (arith, get_or_append_left, length-take-le, get_or-take)

pub written_at : (a k j : ℕ) (xs ys : List ℕ) → a ≤ length xs → j < length ys
    → get_or (put_mid a k xs ys) (a + j) 0 ≡ get_or ys j 0
written_at a k j xs ys l m = grind (arith, get_or-append_right, length-take-le, get_or_append_left)

pub written_behind : (a k i : ℕ) (xs ys : List ℕ) → a ≤ length xs → length ys ≡ k → a + k ≤ i
    → get_or (put_mid a k xs ys) i 0 ≡ get_or xs i 0
written_behind a k i xs ys l e m = grind (arith, get_or-append_right, length-take-le, get_or-drop)

pub length_written : (a k : ℕ) (xs ys : List ℕ) → a + k ≤ length xs → length ys ≡ k
    → length (put_mid a k xs ys) ≡ length xs
length_written a k xs ys l e = grind (arith, length-append, length-take-le, length-drop)

-- ---- items and a column behind them

-- of a column behind items as many bytes tell as it has
pub fewer_behind : (n i : ℕ) (items column : List ℕ) → i < length items + n
    → get_or (items ++ column) i 0 ≡ get_or (items ++ take n column) i 0
fewer_behind n i items column l = grind (arith, cases_lt, get_or_append_left, get_or-append_right, get_or-take)

-- fewer than 32 items, and a column of sixteen bytes put behind them
abbrev pub short_put : ℕ → List ℕ → List ℕ → List ℕ → List ℕ
short_put n room items column =
    put_mid n (48 - n) (items ++ drop n room) (put_chunk 0 (take (48 - n) (drop n (items ++ drop n room))) column)

abbrev pub short_joined : List ℕ → List ℕ → List ℕ → List ℕ
short_joined room items column = short_put (length items) room items column

length-room : (room items : List ℕ) → length items < 32 → length room ≡ 48
    → length (items ++ drop (length items) room) ≡ 48
length-room room items l e = grind (arith, length-append, length-drop)

pub short_byte : (i : ℕ) (room items column : List ℕ) → length items < 32 → length column ≡ 16 → length room ≡ 48
    → i < length items + 16 → get_or (short_joined room items column) i 0 ≡ get_or (items ++ column) i 0
short_byte i room items column l lc lr m = elim (cases_lt i (length items)) [
  | inl h ↦ written_before (length items) (48 - length items) i (items ++ drop (length items) room)
      (put_chunk 0 (take (48 - length items) (drop (length items) (items ++ drop (length items) room))) column)
      (omega (arith, length-room room items l lr)) h
      ∙ get_or_append_left items (drop (length items) room) 0 i h ∙ sym (get_or_append_left items column 0 i h)
  | inr h ↦ ap (λ x. get_or (short_joined room items column) x 0) (sym (omega arith))
      ∙ written_at (length items) (48 - length items) (i - length items) (items ++ drop (length items) room)
      (put_chunk 0 (take (48 - length items) (drop (length items) (items ++ drop (length items) room))) column)
      (omega (arith, length-room room items l lr)) (grind (arith, long, length-put_chunk))
      ∙ ap (λ x. get_or (put_chunk 0
      (take (48 - length items) (drop (length items) (items ++ drop (length items) room))) column) x 0) (omega arith)
      ∙ get_or-put_chunk_at 0 (take (48 - length items) (drop (length items) (items ++ drop (length items) room)))
      column (i - length items) 0 (omega (arith, m, lc)) (omega (arith, long, m))
      ∙ sym (get_or-append_right items column (length items) i 0 refl h)
]
  where
    long : length (take (48 - length items) (drop (length items) (items ++ drop (length items) room)))
        ≡ 48 - length items
    long = length-take-le (48 - length items) (drop (length items) (items ++ drop (length items) room))
        (omega (arith, length-drop (length items) (items ++ drop (length items) room), length-room room items l lr))

pub short_on : (n : ℕ) (room items column : List ℕ) → n ≤ 16 → length items < 32 → length column ≡ 16 → length room ≡ 48
    → take (n + length items - n) (drop n (short_joined room items column)) ≡ drop n (items ++ take n column)
short_on n room items column few l lc lr =
    ext_get_or 0 (take (n + length items - n) (drop n (short_joined room items column)))
    (drop n (items ++ take n column))
    (grind (arith, length-take-le, length-drop, whole, length-append)) (λ j m. byte j (omega (
      arith,
      m,
      length-take-le (n + length items - n) (drop n (short_joined room items column))
          (omega (arith, length-drop n (short_joined room items column), whole)),
    )))
  where
    whole : length (short_joined room items column) ≡ 48
    whole = grind (arith, length_written, length-room, length-put_chunk, length-take-le, length-drop)

    byte : (j : ℕ) → j < length items
        → get_or (take (n + length items - n) (drop n (short_joined room items column))) j 0
        ≡ get_or (drop n (items ++ take n column)) j 0
    byte j m = get_or-take (n + length items - n) (drop n (short_joined room items column)) j 0 (omega arith)
        ∙ get_or-drop n (short_joined room items column) j 0
        ∙ short_byte (n + j) room items column l lc lr (omega arith) ∙ fewer_behind n (n + j) items column (omega arith)
        ∙ sym (get_or-drop n (items ++ take n column) j 0)

-- ---- at least sixteen items, and up to sixteen bytes put behind them

-- the last sixteen bytes of two vectors
pub last_two : (n k : ℕ) (room first second : List ℕ) → length room ≡ 32 → length first ≡ 16 → length second ≡ 16
    → n ≤ 16 → k < 16 → get_or (chunk 0 16 (take (32 - n) (drop n (put_mid 16 16 (put_chunk 0 room first)
    (put_chunk 0 (take 16 (drop 16 (put_chunk 0 room first))) second))))) k 0 ≡ get_or (first ++ second) (n + k) 0
last_two n k room first second lr lf ls few l = get_or-chunk 0 16 (take (32 - n) (drop n both)) k 0 l
    ∙ get_or-take (32 - n) (drop n both) (0 + k) 0 (omega arith)
    ∙ get_or-drop n both (0 + k) 0 ∙ by_place (n + (0 + k)) (omega arith) (cases_lt (n + (0 + k)) 16)
    ∙ ap (λ x. get_or (first ++ second) x 0) (omega arith)
  where
    front : List ℕ
    front = put_chunk 0 room first

    rest : List ℕ
    rest = put_chunk 0 (take 16 (drop 16 (put_chunk 0 room first))) second

    both : List ℕ
    both = put_mid 16 16 (put_chunk 0 room first) (put_chunk 0 (take 16 (drop 16 (put_chunk 0 room first))) second)

    whole : length (put_chunk 0 room first) ≡ 32
    whole = length-put_chunk 0 room first ∙ lr

    behind : length (take 16 (drop 16 (put_chunk 0 room first))) ≡ 16
    behind = length-take-le 16 (drop 16 (put_chunk 0 room first)) (grind (arith, length-drop, whole))

    by_place : (i : ℕ) → i < 32 → (i < 16) ⊎ (16 ≤ i) → get_or both i 0 ≡ get_or (first ++ second) i 0
    by_place i m (inl h) = written_before 16 16 i front rest (omega (arith, whole)) h
        ∙ ap (λ x. get_or front x 0) (omega arith)
        ∙ get_or-put_chunk_at 0 room first i 0 (omega (arith, lf)) (omega (arith, lf, lr))
        ∙ sym (get_or_append_left first second 0 i (omega (arith, lf)))
    by_place i m (inr h) =
        let e : 16 + (i - 16) ≡ i = omega arith in
        ap (λ x. get_or both x 0) (sym e) ∙ written_at 16 16 (i - 16) front rest (omega (arith, whole))
        (grind (arith, behind, length-put_chunk)) ∙ ap (λ x. get_or rest x 0) (omega arith)
        ∙ get_or-put_chunk_at 0 (take 16 (drop 16 (put_chunk 0 room first))) second (i - 16) 0
        (omega (arith, m, h, ls)) (omega (arith, behind, ls)) ∙ sym (get_or-append_right first second 16 i 0 lf h)

pub long_on : (n : ℕ) (items column moved last : List ℕ) → n ≤ 16 → 16 ≤ length items → length column ≡ 16
    → length moved ≡ length items → length last ≡ 16
    → ((k : ℕ) → k + n < length items → get_or moved k 0 ≡ get_or items (n + k) 0) → ((k : ℕ) → k < 16
    → get_or last k 0 ≡ get_or (chunk (length items - 16) 16 items ++ column) (n + k) 0)
    → put_chunk (length items - 16) moved last ≡ drop n (items ++ take n column)
long_on n items column moved last few l lc lm ll shift end =
    ext_get_or 0 (put_chunk (length items - 16) moved last) (drop n (items ++ take n column))
    (grind (arith, length-put_chunk, length-drop, length-append, length-take-le))
    (λ j m. grind (arith, by_place, length-put_chunk, cases_lt, fewer_behind, get_or-drop))
  where
    long : length (chunk (length items - 16) 16 items) ≡ 16
    long = length-chunk (length items - 16) 16 items (omega arith)

    at_end : (i : ℕ) → i < 32 → (i < 16) ⊎ (16 ≤ i) → get_or (chunk (length items - 16) 16 items ++ column) i 0
        ≡ get_or (items ++ column) (length items - 16 + i) 0
    at_end i m (inl h) = get_or_append_left (chunk (length items - 16) 16 items) column 0 i (omega (arith, long))
        ∙ get_or-chunk (length items - 16) 16 items i 0 h
        ∙ sym (get_or_append_left items column 0 (length items - 16 + i) (omega arith))
    at_end i m (inr h) = get_or-append_right (chunk (length items - 16) 16 items) column 16 i 0 long h
        ∙ ap (λ x. get_or column x 0) (omega arith)
        ∙ sym (get_or-append_right items column (length items) (length items - 16 + i) 0 refl (omega arith))

    by_place : (j : ℕ) → j < length items → (j < length items - 16) ⊎ (length items - 16 ≤ j)
        → get_or (put_chunk (length items - 16) moved last) j 0 ≡ get_or (items ++ column) (n + j) 0
    by_place j m (inl h) = get_or-put_chunk_below (length items - 16) moved last j 0 h ∙ shift j (omega arith)
        ∙ sym (get_or_append_left items column 0 (n + j) (omega arith))
    by_place j m (inr h) =
        let e : length items - 16 + (j - (length items - 16)) ≡ j = omega arith in
        ap (λ x. get_or (put_chunk (length items - 16) moved last) x 0) (sym e)
        ∙ get_or-put_chunk_at (length items - 16) moved last (j - (length items - 16)) 0
        (omega (arith, m, ll)) (omega (arith, l, lm, ll)) ∙ end (j - (length items - 16)) (omega (arith, m, h))
        ∙ at_end (n + (j - (length items - 16))) (omega (arith, m, h, few))
        (cases_lt (n + (j - (length items - 16))) 16) ∙ ap (λ x. get_or (items ++ column) x 0) (omega (arith, e))
