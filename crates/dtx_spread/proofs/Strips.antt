-- Columns of 560 bytes, written and read sixteen bytes at a time, and rows of b bytes, of which w are written.
use Rattle.std.proofs.Common.{◌≡◌, ℕ, ◌+◌, ◌-◌, ◌*◌, ◌%◌, ◌<◌, ◌≤◌, ◌⊎◌, inl, inr, List, [], length, get_or, take, drop}
use Rattle.std.proofs.Common.{◌/◌, sym, ap, subst, ◌∙◌, arith, add-mul, mul-le-mul_right, div-add-mod'}
use Rattle.std.proofs.lemmas.Bool.{cases_lt, cases_eq}
use Rattle.std.proofs.lemmas.Nat.{mod-mul-add, mod_below}
use Rattle.std.proofs.lemmas.List.{get_or-take, get_or-drop}
use Rattle.std.proofs.lemmas.Simd.{get_or-put_chunk_below, get_or-put_chunk_at, get_or-put_chunk_above}
use Rattle.dtx_spread.proofs.Written.{written_before, written_at, written_behind}
use borrow.Rule.Slice.PartMut.{put_mid}
use lib.Lanes.{put_chunk}

-- ---- columns

pub column_there : (n at d r : ℕ) (columns : List ℕ) (tile : List (List ℕ)) → at + 16 ≤ 560
    → ((i : ℕ) → i < 16 → length (get_or tile i []) ≡ 16) → n < 16 → length columns ≡ 8960
    → ((d r : ℕ) → d < n → r < 16 → get_or columns (d * 560 + at + r) 0 ≡ get_or (get_or tile d []) r 0)
    → d < n + 1 → r < 16
    → get_or (put_chunk (n * 560 + at) columns (get_or tile n [])) (d * 560 + at + r) 0 ≡ get_or (get_or tile d []) r 0
column_there n at d r columns tile room long ln lc before l m =
    grind (arith, cases_eq, get_or-put_chunk_at, get_or-put_chunk_below)

pub column_elsewhere : (n at d r : ℕ) (columns row : List ℕ) → at + 16 ≤ 560 → length row ≡ 16
    → r < 560 → (r < at) ⊎ (at + 16 ≤ r)
    → get_or (put_chunk (n * 560 + at) columns row) (d * 560 + r) 0 ≡ get_or columns (d * 560 + r) 0
column_elsewhere n at d r columns row room long l o =
    grind (arith, cases_lt, get_or-put_chunk_below, get_or-put_chunk_above)

-- ---- rows

pub row_there : (b w p n a z c k : ℕ) (tile part : List ℕ) (rows : List (List ℕ)) → p + w ≤ b → a ≡ p + n * b
    → a ≤ length tile → part ≡ take w (get_or rows n []) → w ≤ length (get_or rows n [])
    → ((c k : ℕ) → c < w → k < n → get_or tile (p + c + k * b) 0 ≡ get_or (get_or rows k []) c 0)
    → length part ≡ w → c < w → k < n + 1
    → get_or (put_mid a z tile part) (p + c + k * b) 0 ≡ get_or (get_or rows k []) c 0
row_there b w p n a z c k tile part rows room ea within ep wide before long l m =
    grind (arith, cases_eq, written_at, get_or-take, written_before, mul-le-mul_right, add-mul)

pub row_elsewhere : (b w p n a z i : ℕ) (tile part : List ℕ) → p + w ≤ b → a ≡ p + n * b → a ≤ length tile
    → length part ≡ w → z ≡ w → (i % b < p) ⊎ (p + w ≤ i % b) → get_or (put_mid a z tile part) i 0 ≡ get_or tile i 0
row_elsewhere b w p n a z i tile part room ea within long ez o = by_place (cases_lt i a) (cases_lt i (a + w))
  where
    inside : a ≤ i → i < a + w → i % b ≡ i - n * b
    inside l m = ap (λ x. x % b) (omega (arith, ea)) ∙ mod-mul-add n b (i - n * b) (omega (arith, ea))

    not_there : (i % b < p) ⊎ (p + w ≤ i % b) → a ≤ i → i < a + w → ⊥
    not_there (inl k) l m = absurd (omega (arith, ea, inside l m))
    not_there (inr k) l m = absurd (omega (arith, ea, inside l m))

    by_place : (i < a) ⊎ (a ≤ i) → (i < a + w) ⊎ (a + w ≤ i) → get_or (put_mid a z tile part) i 0 ≡ get_or tile i 0
    by_place (inl h) g = written_before a z i tile part within h
    by_place (inr h) (inl g) = absurd (not_there o h g)
    by_place (inr h) (inr g) = written_behind a z i tile part within (long ∙ sym ez) (omega (arith, ez))

-- ---- a tile of sixteen rows within a call's bytes

-- byte p + c + k * b, of row t * 16 + r, by its tile
in_tile : (b q t r : ℕ) → t * 16 * b + (q + r * b) ≡ q + (t * 16 + r) * b
in_tile b q t r = omega (arith, add-mul (t * 16) r b)

pub tile_byte : (b t q r : ℕ) (bytes : List ℕ) → q < b → r < 16
    → get_or (take (16 * b) (drop (t * 16 * b) bytes)) (q + r * b) 0 ≡ get_or bytes (q + (t * 16 + r) * b) 0
tile_byte b t q r bytes l m = grind (arith, get_or-take, get_or-drop, in_tile, mul-le-mul_right, add-mul)

-- one more tile is taken
pub tile_taken : (b w p t c k z : ℕ) (bytes old new : List ℕ) → p + w ≤ b → t * 16 + 16 ≤ 560
    → ((c k : ℕ) → c < w → k < t * 16 → get_or old (c * 560 + k) 0 ≡ get_or bytes (p + c + k * b) 0)
    → ((c r : ℕ) → c < w → r < 16
    → get_or new (c * 560 + t * 16 + r) 0 ≡ get_or (take z (drop (t * 16 * b) bytes)) (p + c + r * b) 0)
    → ((c r : ℕ) → r < 560 → (r < t * 16) ⊎ (t * 16 + 16 ≤ r) → get_or new (c * 560 + r) 0 ≡ get_or old (c * 560 + r) 0)
    → z ≡ 16 * b → c < w → k < (t + 1) * 16 → get_or new (c * 560 + k) 0 ≡ get_or bytes (p + c + k * b) 0
tile_taken b w p t c k z bytes old new room fits before taken others ez l m = elim (cases_lt k (t * 16)) [
  | inl h ↦ others c k (omega arith) (inl h) ∙ before c k l h
  | inr h ↦ ap (λ n. get_or new n 0) (omega arith) ∙ taken c (k - t * 16) l (omega arith)
      ∙ ap (λ n. get_or (take n (drop (t * 16 * b) bytes)) (p + c + (k - t * 16) * b) 0) ez
      ∙ tile_byte b t (p + c) (k - t * 16) bytes (omega arith) (omega arith)
      ∙ ap (λ n. get_or bytes (p + c + n * b) 0) (omega arith)
]

-- one more tile is put
pub tile_put : (b w p t c k z : ℕ) (columns old new : List ℕ) → p + w ≤ b → t * 16 * b ≤ length old
    → length new ≡ 16 * b
    → ((c k : ℕ) → c < w → k < t * 16 → get_or old (p + c + k * b) 0 ≡ get_or columns (c * 560 + k) 0)
    → ((c r : ℕ) → c < w → r < 16 → get_or new (p + c + r * b) 0 ≡ get_or columns (c * 560 + t * 16 + r) 0)
    → c < w → k < (t + 1) * 16
    → get_or (put_mid (t * 16 * b) z old new) (p + c + k * b) 0 ≡ get_or columns (c * 560 + k) 0
tile_put b w p t c k z columns old new room within long before put l m = elim (cases_lt k (t * 16)) [
  | inl h ↦
      let g : (k + 1) * b ≤ t * 16 * b = mul-le-mul_right b (omega arith) in
      written_before (t * 16 * b) z (p + c + k * b) old new within (omega (arith, add-mul k 1 b)) ∙ before c k l h
  | inr h ↦ ap (λ n. get_or (put_mid (t * 16 * b) z old new) n 0)
      (ap (λ n. p + c + n * b) (sym (omega arith)) ∙ sym (in_tile b (p + c) t (k - t * 16)))
      ∙ written_at (t * 16 * b) z (p + c + (k - t * 16) * b) old new within (grind (arith, small))
      ∙ put c (k - t * 16) l (omega arith) ∙ ap (λ n. get_or columns n 0) (omega arith)
]
  where
    small : (r : ℕ) → r < 16 → p + c + r * b < 16 * b
    small r h = let g : (r + 1) * b ≤ 16 * b = mul-le-mul_right b (omega arith) in omega (arith, add-mul r 1 b)

-- and leaves the other places as they were
pub tile_elsewhere : (b w p t z i : ℕ) (old new : List ℕ) → 0 < b → t * 16 * b ≤ length old → length new ≡ z
    → ((j : ℕ) → (j % b < p) ⊎ (p + w ≤ j % b) → get_or new j 0 ≡ get_or (take z (drop (t * 16 * b) old)) j 0)
    → (i % b < p) ⊎ (p + w ≤ i % b) → get_or (put_mid (t * 16 * b) z old new) i 0 ≡ get_or old i 0
tile_elsewhere b w p t z i old new s within long others o =
    by_place (cases_lt i (t * 16 * b)) (cases_lt i (t * 16 * b + z))
  where
    same : t * 16 * b ≤ i → (i - t * 16 * b) % b ≡ i % b
    same l = sym (ap (λ x. x % b)
        (omega (arith, l, div-add-mod' (i - t * 16 * b) b, add-mul (t * 16) ((i - t * 16 * b) / b) b))
        ∙ mod-mul-add (t * 16 + (i - t * 16 * b) / b) b ((i - t * 16 * b) % b) (mod_below (i - t * 16 * b) b s))

    by_place : (i < t * 16 * b) ⊎ (t * 16 * b ≤ i) → (i < t * 16 * b + z) ⊎ (t * 16 * b + z ≤ i)
        → get_or (put_mid (t * 16 * b) z old new) i 0 ≡ get_or old i 0
    by_place (inl h) g = written_before (t * 16 * b) z i old new within h
    by_place (inr h) (inl g) = ap (λ n. get_or (put_mid (t * 16 * b) z old new) n 0) (sym (omega arith))
        ∙ written_at (t * 16 * b) z (i - t * 16 * b) old new within (omega arith)
        ∙ others (i - t * 16 * b) (subst (λ (x : ℕ). (x < p) ⊎ (p + w ≤ x)) (sym (same h)) o)
        ∙ get_or-take z (drop (t * 16 * b) old) (i - t * 16 * b) 0 (omega arith)
        ∙ get_or-drop (t * 16 * b) old (i - t * 16 * b) 0 ∙ ap (λ n. get_or old n 0) (omega arith)
    by_place (inr h) (inr g) = written_behind (t * 16 * b) z i old new within long g

-- ---- a row from a place on

pub row_room : (b w p n m k : ℕ) → k * b + p + w ≤ m + b → n < k → p + n * b + w ≤ m
row_room b w p n m k room l = grind (arith, mul-le-mul_right, add-mul)

pub row_byte : (b w p n k : ℕ) (tile : List ℕ) → k < w → p + n * b + w ≤ length tile
    → get_or (take (length tile - (p + n * b)) (drop (p + n * b) tile)) k 0 ≡ get_or tile (p + k + n * b) 0
row_byte b w p n k tile l m = grind (arith, get_or-take, get_or-drop)
