-- Calls of fewer than sixteen rows: columns of sixteen bytes, one behind the other, and rows of b bytes in sixteen.
use Rattle.std.proofs.Common.{◌≡◌, ℕ, ◌+◌, ◌-◌, ◌*◌, ◌/◌, ◌%◌, ◌<◌, ◌≤◌, ◌⊎◌, inl, inr, List, [], ◌++◌, length, get_or}
use Rattle.std.proofs.Common.{take, drop, sym, ap, ◌∙◌, arith, add-mul, mul-le-mul_right}
use Rattle.std.proofs.lemmas.Bool.{cases_lt, cases_eq}
use Rattle.std.proofs.lemmas.Nat.{mod_below}
use Rattle.std.proofs.lemmas.List.{length-drop, length-take-le, get_or-take, get_or-drop, get_or_append_left}
use Rattle.std.proofs.lemmas.List.FromFn.{fill_by_all}
use Rattle.std.proofs.lemmas.Simd.{get_or-put_chunk_below, get_or-put_chunk_at, get_or-put_chunk_above}
use Rattle.dtx_spread.specs.Rings.{branch_at, count_at, column, joined_at, AreExchanged, ArePassed}
use Rattle.dtx_spread.proofs.Turns.{row_counts, row_within, from_row}
use Rattle.dtx_spread.proofs.Tiling.{counts_fit}
use Rattle.dtx_spread.proofs.Written.{written_before, written_at}
use borrow.Rule.Slice.PartMut.{put_mid}
use lib.Lanes.{put_chunk}

-- one more row of a tile is put behind the others
pub flat_more : (n c r : ℕ) (bytes : List ℕ) (tile : List (List ℕ)) → n < 16 → length bytes ≡ 256
    → length (get_or tile n []) ≡ 16
    → ((c r : ℕ) → c < n → r < 16 → get_or bytes (c * 16 + r) 0 ≡ get_or (get_or tile c []) r 0) → c < n + 1 → r < 16
    → get_or (put_chunk (n * 16) bytes (get_or tile n [])) (c * 16 + r) 0 ≡ get_or (get_or tile c []) r 0
flat_more n c r bytes tile l lb lr before k m = grind (arith, cases_eq, get_or-put_chunk_at, get_or-put_chunk_below)

-- the columns of sixteen places more are taken
pub places_taken : (b t p r z : ℕ) (rows old new : List ℕ) → 256 * t ≤ length old → length new ≡ 256
    → ((p r : ℕ) → p < 16 * t → r < 16 → get_or old (p * 16 + r) 0 ≡ get_or rows (p + r * b) 0)
    → ((c r : ℕ) → c < 16 → r < 16 → get_or new (c * 16 + r) 0 ≡ get_or rows (16 * t + c + r * b) 0)
    → p < 16 * (t + 1) → r < 16 → get_or (put_mid (256 * t) z old new) (p * 16 + r) 0 ≡ get_or rows (p + r * b) 0
places_taken b t p r z rows old new within long before taken l m = elim (cases_lt p (16 * t)) [
  | inl h ↦ written_before (256 * t) z (p * 16 + r) old new within (omega arith) ∙ before p r h m
  | inr h ↦ ap (λ x. get_or (put_mid (256 * t) z old new) x 0) (omega arith)
      ∙ written_at (256 * t) z ((p - 16 * t) * 16 + r) old new within (omega arith)
      ∙ taken (p - 16 * t) r (omega arith) m ∙ ap (λ x. get_or rows (x + r * b) 0) (omega arith)
]

-- a byte of sixteen columns
pub part_byte : (t c r z : ℕ) (columns : List ℕ) → z ≡ 256 → c < 16 → r < 16
    → get_or (take z (drop (256 * t) columns)) (c * 16 + r) 0 ≡ get_or columns ((16 * t + c) * 16 + r) 0
part_byte t c r z columns e l m = grind (arith, get_or-take, get_or-drop)

-- ---- sixteen bytes put over the rows, of which some may reach into the next row

-- a byte of an earlier row stands before a later row
row_before : (b p k n : ℕ) → p < b → k < n → p + k * b < n * b
row_before b p k n l m = grind (arith, mul-le-mul_right, add-mul)

pub over_there : (b n p c k : ℕ) (rows : List ℕ) (tile : List (List ℕ)) → length (get_or tile n []) ≡ 16
    → p + n * b + 16 ≤ length rows
    → ((c k : ℕ) → c < 16 → p + c < b → k < n → get_or rows (p + c + k * b) 0 ≡ get_or (get_or tile k []) c 0)
    → c < 16 → p + c < b → k < n + 1
    → get_or (put_chunk (p + n * b) rows (get_or tile n [])) (p + c + k * b) 0 ≡ get_or (get_or tile k []) c 0
over_there b n p c k rows tile lr room before l m o =
    grind (arith, cases_eq, get_or-put_chunk_at, get_or-put_chunk_below, row_before)

pub over_elsewhere : (b n p q k : ℕ) (rows row : List ℕ) → length row ≡ 16 → p + 16 ≤ q → q < b
    → get_or (put_chunk (p + n * b) rows row) (q + k * b) 0 ≡ get_or rows (q + k * b) 0
over_elsewhere b n p q k rows row lr l m = elim (cases_lt k n) [
  | inl h ↦ get_or-put_chunk_below (p + n * b) rows row (q + k * b) 0 (omega (arith, row_before b q k n m h))
  | inr h ↦
      let g : n * b ≤ k * b = mul-le-mul_right b h in
      get_or-put_chunk_above (p + n * b) rows row (q + k * b) 0 (omega (arith, g, lr, l))
]

-- the places from 16 * t on are put
pub places_put : (b t p r : ℕ) (columns old new : List ℕ)
    → ((p r : ℕ) → 16 * (t + 1) ≤ p → p < b → r < 16 → get_or old (p + r * b) 0 ≡ get_or columns (p * 16 + r) 0)
    → ((c r : ℕ) → c < 16 → 16 * t + c < b → r < 16
    → get_or new (16 * t + c + r * b) 0 ≡ get_or columns ((16 * t + c) * 16 + r) 0)
    → ((p r : ℕ) → 16 * t + 16 ≤ p → p < b → r < 16 → get_or new (p + r * b) 0 ≡ get_or old (p + r * b) 0)
    → 16 * t ≤ p → p < b → r < 16 → get_or new (p + r * b) 0 ≡ get_or columns (p * 16 + r) 0
places_put b t p r columns old new before put others l m o = elim (cases_lt p (16 * t + 16)) [
  | inl h ↦ ap (λ x. get_or new (x + r * b) 0) (sym (omega arith)) ∙ put (p - 16 * t) r (omega arith) (omega arith) o
      ∙ ap (λ x. get_or columns (x * 16 + r) 0) (omega arith)
  | inr h ↦ others p r h m o ∙ before p r (omega arith) m o
]

-- ---- a short call

pub few_passed : (b next : ℕ) (old new : List (List ℕ)) (bytes room first last come gone out : List ℕ) → 0 < b
    → b ≤ 64 → length bytes < 16 * b → first ≡ bytes ++ drop (length bytes) room → 1024 ≤ length come
    → ((p r : ℕ) → p < b → r < 16 → get_or come (p * 16 + r) 0 ≡ get_or first (p + r * b) 0)
    → AreExchanged b next 0 (0 + b) 16 (length bytes / b) (length bytes % b) old new come gone
    → ((p r : ℕ) → p < b → r < 16 → get_or last (p + r * b) 0 ≡ get_or gone (p * 16 + r) 0)
    → length bytes ≤ length last → out ≡ take (length bytes) last → ArePassed b next 0 b old new bytes out
few_passed b next old new bytes room first last come gone out o b64 short ef lc taken h put ll eo = record {
  count = h.count;
  long = ap length eo ∙ length-take-le (length bytes) last ll;
  kept = λ q l m. h.kept q l (omega arith)
      ∙ ap (λ ys. drop (count_at b (length bytes) q) (get_or old (branch_at b next q) [] ++ ys)) (stretch q m);
  others = λ q l m. absurd (beyond q l m);
  left = λ i l m k. left i l;
  rest = λ i l. absurd (beyond (i % b) l (mod_below i b o));
}
  where
    beyond : (q : ℕ) → (q < 0) ⊎ (b ≤ q) → q < b → ⊥
    beyond q (inl l) m = omega arith
    beyond q (inr l) m = omega arith

    few : (q : ℕ) → count_at b (length bytes) q ≤ 16
    few q = counts_fit b (length bytes) q 16 o (omega arith)

    stretch : (q : ℕ) → q < b → take (count_at b (length bytes) q) (drop ((q - 0) * 16) come) ≡ column b bytes q
    stretch q m =
        fill_by_all (λ k. get_or bytes (q + k * b) 0) (take (count_at b (length bytes) q) (drop ((q - 0) * 16) come))
        (count_at b (length bytes) q) 0 (grind (arith, length-take-le, length-drop, few))
        (λ k s. grind (arith, get_or-take, get_or-drop, few, get_or_append_left, row_within))

    left : (i : ℕ) → i < length bytes → get_or out i 0 ≡ get_or (joined_at b next old bytes (i % b)) (i / b) 0
    left i l =
        let s : i / b < count_at b (length bytes) (i % b) = row_counts b (length bytes) i o l in
        let m : i % b < b = mod_below i b o in
        ap (λ ys. get_or ys i 0) eo ∙ get_or-take (length bytes) last i 0 l
        ∙ ap (λ x. get_or last x 0) (sym (from_row b i)) ∙ put (i % b) (i / b) m (omega (arith, s, few (i % b)))
        ∙ ap (λ x. get_or gone (x * 16 + i / b) 0) (omega arith) ∙ h.left (i % b) (i / b) (omega arith) (omega arith) s
        ∙ ap (λ ys. get_or (get_or old (branch_at b next (i % b)) [] ++ ys) (i / b) 0) (stretch (i % b) m)
