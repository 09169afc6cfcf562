-- A call's bytes in whole tiles and the rows behind them, and the columns of some places.
use Rattle.std.proofs.Common.{◌≡◌, ◌≢◌, ℕ, ◌+◌, ◌-◌, ◌*◌, ◌/◌, ◌%◌, ◌<◌, ◌≤◌, ◌⊎◌, inl, inr, List, [], ◌++◌, length}
use Rattle.std.proofs.Common.{get_or, set, take, drop, sym, ap, ap₂, ◌∙◌, arith, add-mul, mul-le-mul_right}
use Rattle.std.proofs.Common.{div-add-mod', cond, nat_lt}
use Rattle.std.proofs.lemmas.Bool.{cases_lt, cases_eq}
use Rattle.std.proofs.lemmas.Nat.{mod_below, mod-mul-add, div-mul-add}
use Rattle.std.proofs.lemmas.List.{length-set, length-drop, length-take-le, take-take, get_or-set_same}
use Rattle.std.proofs.lemmas.List.{get_or-set_other, get_or-take, get_or-drop}
use Rattle.std.proofs.lemmas.List.FromFn.{fill_by_all}
use Rattle.dtx_spread.specs.Rings.{branch_at, count_of, count_at, column, joined_at, IsEven, AreExchanged, ArePassed}
use Rattle.dtx_spread.proofs.Turns.{branch_less, branch_other, row_counts, row_within, from_row, count_early}
use Rattle.dtx_spread.proofs.Turns.{count_late, early_fit, late_fit, count_few}
use Rattle.dtx_spread.proofs.Written.{written_before, written_at}
use borrow.Rule.Slice.PartMut.{put_mid}

-- how many rows of b bytes stand in whole tiles of sixteen rows
abbrev pub tiled : ℕ → ℕ → ℕ
tiled b len = len / (16 * b) * 16

-- ---- how many tiles there are

wide : (x b : ℕ) → x * (16 * b) ≡ x * 16 * b
wide x b = grind arith

pub tile_fits : (b len t : ℕ) → 0 < b → len < 560 * b → t < len / (16 * b)
    → (t * 16 + 16 ≤ 560) × (t * 16 * b + 16 * b ≤ len)
tile_fits b len t o l h = grind (arith, mul-le-mul_right, div-add-mod', add-mul, wide, cases_lt)

pub record IsTiled (b len : ℕ) : Type 0 where
  pub within : tiled b len * b ≤ len
  pub rest : len < tiled b len * b + 16 * b
  pub few : tiled b len + 16 ≤ 560

pub is_tiled : (b len : ℕ) → 0 < b → len < 560 * b → IsTiled b len
is_tiled b len o l = grind (arith, div-add-mod', wide, mod_below, cases_lt, mul-le-mul_right)

-- ---- the rows behind whole tiles

-- how many bytes stand behind whole tiles
abbrev pub behind : ℕ → ℕ → ℕ
behind b len = len - tiled b len * b

by_tiles : (b len : ℕ) → IsTiled b len → len ≡ (tiled b len + behind b len / b) * b + behind b len % b
by_tiles b len t = omega (arith, t.within, div-add-mod' (behind b len) b, add-mul (tiled b len) (behind b len / b) b)

same_rest : (b len : ℕ) → 0 < b → IsTiled b len → behind b len % b ≡ len % b
same_rest b len o t = sym (ap (λ x. x % b) (by_tiles b len t)
    ∙ mod-mul-add (tiled b len + behind b len / b) b (behind b len % b) (mod_below (behind b len) b o))

count_split : (b len p : ℕ) → 0 < b → IsTiled b len → count_at b len p ≡ tiled b len + count_at b (behind b len) p
count_split b len p o t = ap₂ (λ q m. q + cond (nat_lt p m) 1 0) (ap (λ x. x / b) (by_tiles b len t)
    ∙ div-mul-add (tiled b len + behind b len / b) b (behind b len % b) (mod_below (behind b len) b o))
    (sym (same_rest b len o t))
    ∙ joined (tiled b len) (behind b len / b) (cond (nat_lt p (behind b len % b)) 1 0)
  where
    joined : (n m k : ℕ) → n + m + k ≡ n + (m + k)
    joined n m k = omega arith

-- ---- places to each of which as many bytes come

pub even_rest : (b p w len n : ℕ) → 0 < b → IsTiled b len → n ≡ behind b len → IsEven b p w len → IsEven b p w n
even_rest b p w len n o t e h = grind (arith, same_rest)

pub even_room : (b p w len n : ℕ) → p + w ≤ b → IsEven b p w len → n ≡ count_at b len p → n * b + p + w ≤ len + b
even_room b p w len n l h e = grind (arith, cases_lt, count_early, add-mul, div-add-mod', count_late)

pub even_count : (b p w len c : ℕ) → c < w → IsEven b p w len → count_at b len (p + c) ≡ count_at b len p
even_count b p w len c l (inl h) = count_early b len (p + c) (omega arith) ∙ sym (count_early b len p (omega arith))
even_count b p w len c l (inr h) = count_late b len (p + c) (omega arith) ∙ sym (count_late b len p h)

pub counts_fit : (b len p m : ℕ) → 0 < b → len ≤ m * b → count_at b len p ≤ m
counts_fit b len p m o l = grind (arith, cases_lt, early_fit, count_early, late_fit, count_late)

pub even_behind : (b p w len : ℕ) (xs : List ℕ) → 0 < b → length xs ≡ len → IsTiled b len → IsEven b p w len
    → IsEven b p w (length (take (length xs - tiled b len * b) (drop (tiled b len * b) xs)))
even_behind b p w len xs o e t h =
    even_rest b p w len (length (take (length xs - tiled b len * b) (drop (tiled b len * b) xs))) o t
    (grind (arith, length-take-le, length-drop)) h

-- ---- all rows of some places, taken from a call's bytes and put back

pub all_taken : (b w p z c k : ℕ) (bytes mid new rest : List ℕ) → 0 < b → p + w ≤ b → IsTiled b (length bytes)
    → IsEven b p w (length bytes) → z ≡ behind b (length bytes)
    → rest ≡ take z (drop (tiled b (length bytes) * b) bytes) → ((c k : ℕ) → c < w → k < tiled b (length bytes)
    → get_or mid (c * 560 + k) 0 ≡ get_or bytes (p + c + k * b) 0) → ((c r : ℕ) → c < w → r < count_at b (length rest) p
    → get_or new (c * 560 + tiled b (length bytes) + r) 0 ≡ get_or rest (p + c + r * b) 0)
    → ((c r : ℕ) → r < 560 → (r < tiled b (length bytes)) ⊎ (tiled b (length bytes) + 16 ≤ r)
    → get_or new (c * 560 + r) 0 ≡ get_or mid (c * 560 + r) 0) → c < w → k < count_at b (length bytes) p
    → get_or new (c * 560 + k) 0 ≡ get_or bytes (p + c + k * b) 0
all_taken b w p z c k bytes mid new rest o room t even ez er whole taken others l m =
    let long : length rest ≡ behind b (length bytes) = grind (arith, length-take-le, length-drop) in
    let split : count_at b (length bytes) p ≡ tiled b (length bytes) + count_at b (length rest) p =
    count_split b (length bytes) p o t ∙ ap (λ x. tiled b (length bytes) + count_at b x p) (sym long) in
    elim (cases_lt k (tiled b (length bytes))) [
      | inl h ↦ others c k (omega (arith, t.few)) (inl h) ∙ whole c k l h
      | inr h ↦
          let r : k - tiled b (length bytes) < count_at b (length rest) p = omega (arith, split) in
          let e : tiled b (length bytes) + (k - tiled b (length bytes)) ≡ k = omega arith in
          let f : p + c + (k - tiled b (length bytes)) * b < length rest =
          row_within b (length rest) (p + c) (k - tiled b (length bytes)) o (omega arith) (omega (
            arith,
            r,
            even_count b p w (length rest) c l (even_rest b p w (length bytes) (length rest) o t long even),
          )) in
          ap (λ x. get_or new x 0) (omega (arith, e)) ∙ taken c (k - tiled b (length bytes)) l r
          ∙ ap (λ ys. get_or ys (p + c + (k - tiled b (length bytes)) * b) 0) er
          ∙ get_or-take z (drop (tiled b (length bytes) * b) bytes) (p + c + (k - tiled b (length bytes)) * b) 0
          (omega (arith, f, long, ez))
          ∙ get_or-drop (tiled b (length bytes) * b) bytes (p + c + (k - tiled b (length bytes)) * b) 0
          ∙ ap (λ x. get_or bytes x 0)
          (omega (arith, add-mul (tiled b (length bytes)) (k - tiled b (length bytes)) b, ap (λ x. x * b) e))
    ]

pub all_put : (b w p z c k len : ℕ) (columns mid rest part : List ℕ) → 0 < b → p + w ≤ b → length mid ≡ len
    → IsTiled b len → IsEven b p w len → z ≡ behind b len → rest ≡ take z (drop (tiled b len * b) mid)
    → length part ≡ length rest
    → ((c k : ℕ) → c < w → k < tiled b len → get_or mid (p + c + k * b) 0 ≡ get_or columns (c * 560 + k) 0)
    → ((c r : ℕ) → c < w → r < count_at b (length rest) p
    → get_or part (p + c + r * b) 0 ≡ get_or columns (c * 560 + tiled b len + r) 0) → c < w → k < count_at b len p
    → get_or (put_mid (tiled b len * b) z mid part) (p + c + k * b) 0 ≡ get_or columns (c * 560 + k) 0
all_put b w p z c k len columns mid rest part o room lm t even ez er lp whole put l m =
    let within : tiled b len * b ≤ length mid = omega (arith, t.within, lm) in
    let long : length rest ≡ behind b len = ap length er ∙ length-take-le z (drop (tiled b len * b) mid)
    (omega (arith, ez, lm, length-drop (tiled b len * b) mid)) ∙ ez in
    let split : count_at b len p ≡ tiled b len + count_at b (length rest) p =
    count_split b len p o t ∙ ap (λ x. tiled b len + count_at b x p) (sym long) in
    elim (cases_lt k (tiled b len)) [
      | inl h ↦
          let g : (k + 1) * b ≤ tiled b len * b = mul-le-mul_right b (omega arith) in
          written_before (tiled b len * b) z (p + c + k * b) mid part within (omega (arith, add-mul k 1 b))
          ∙ whole c k l h
      | inr h ↦
          let r : k - tiled b len < count_at b (length rest) p = omega (arith, split) in
          let e : tiled b len + (k - tiled b len) ≡ k = omega arith in
          let f : p + c + (k - tiled b len) * b < length rest =
          row_within b (length rest) (p + c) (k - tiled b len) o (omega arith)
          (omega (arith, r, even_count b p w (length rest) c l (even_rest b p w len (length rest) o t long even))) in
          ap (λ x. get_or (put_mid (tiled b len * b) z mid part) x 0) (grind (arith, add-mul))
          ∙ written_at (tiled b len * b) z (p + c + (k - tiled b len) * b) mid part within (omega (arith, f, lp))
          ∙ put c (k - tiled b len) l r ∙ ap (λ x. get_or columns x 0) (omega (arith, e))
    ]

-- ---- one column exchanged behind others

-- an earlier column stands before a later one
column_before : (s d c k : ℕ) → d < c → k < s → d * s + k < c * s
column_before s d c k l m = grind (arith, mul-le-mul_right, add-mul)

pub exchanged_on : (b next from c s q r at n start y z : ℕ) (old cur new : List (List ℕ))
    (come part gone went : List ℕ) → next < b → from + c < b → length cur ≡ b → start ≡ c * s
    → start ≤ length gone → n ≡ count_of q r (from + c) → q < s → y ≡ s → length went ≡ s
    → at ≡ branch_at b next (from + c) → part ≡ take y (drop start come)
    → new ≡ set cur at (drop n (get_or cur at [] ++ take n part))
    → ((k : ℕ) → k < n → get_or went k 0 ≡ get_or (get_or cur at [] ++ take n part) k 0)
    → AreExchanged b next from (from + c) s q r old cur come gone
    → AreExchanged b next from (from + (c + 1)) s q r old new come (put_mid start z gone went)
exchanged_on b next from c s q r at n start y z old cur new come part gone went l m lc es room en few ey lw ea ep ec ew
    h = record {
      count = ap length ec ∙ length-set cur at (drop n (get_or cur at [] ++ take n part)) ∙ h.count;
      kept = λ p k o. kept p k o (cases_eq p (from + c));
      others = λ p k o. moved p o (apart p k) ∙ h.others p (out p k) o;
      left = λ p k i o t. left p k i o t (cases_eq p (from + c));
    }
  where
    apart : (p : ℕ) → (p < from) ⊎ (from + (c + 1) ≤ p) → p ≢ from + c
    apart p (inl k) = omega arith
    apart p (inr k) = omega arith

    out : (p : ℕ) → (p < from) ⊎ (from + (c + 1) ≤ p) → (p < from) ⊎ (from + c ≤ p)
    out p (inl k) = inl k
    out p (inr k) = inr (omega arith)

    fits : (p : ℕ) → count_of q r p ≤ s
    fits p = omega (arith, count_few q r p)

    moved : (p : ℕ) → p < b → p ≢ from + c → get_or new (branch_at b next p) [] ≡ get_or cur (branch_at b next p) []
    moved p o f = ap (λ ys. get_or ys (branch_at b next p) []) ec
        ∙ get_or-set_other cur at (branch_at b next p) (drop n (get_or cur at [] ++ take n part)) []
        (λ e. branch_other b next p (from + c) l o m f (e ∙ ea))

    joined : get_or cur at [] ++ take n part ≡ get_or old (branch_at b next (from + c)) []
        ++ take (count_of q r (from + c)) (drop (c * s) come)
    joined = ap₂ ◌++◌ (ap (λ x. get_or cur x []) ea ∙ h.others (from + c) (inr (omega arith)) m)
        (ap₂ take en (ep ∙ ap₂ (λ x a. take x (drop a come)) ey es)
        ∙ take-take (count_of q r (from + c)) s (drop (c * s) come) (fits (from + c)))

    joined_there : (p : ℕ) → p ≡ from + c → get_or cur at [] ++ take n part
        ≡ get_or old (branch_at b next p) [] ++ take (count_of q r p) (drop ((p - from) * s) come)
    joined_there p e = joined
        ∙ ap₂ (λ x d. get_or old (branch_at b next x) [] ++ take (count_of q r x) (drop (d * s) come)) (sym e)
        (omega arith)

    kept : (p : ℕ) → from ≤ p → p < from + (c + 1) → (p ≡ from + c) ⊎ (p ≡ from + c → ⊥)
        → get_or new (branch_at b next p) [] ≡ drop (count_of q r p) (get_or old (branch_at b next p) []
        ++ take (count_of q r p) (drop ((p - from) * s) come))
    kept p k o (inl e) = ap₂ (λ ys x. get_or ys x []) ec (ap (branch_at b next) e ∙ sym ea)
        ∙ get_or-set_same cur at (drop n (get_or cur at [] ++ take n part)) []
        (omega (arith, lc, ea, branch_less b next (from + c) l m))
        ∙ ap₂ drop (en ∙ ap (count_of q r) (sym e)) (joined_there p e)
    kept p k o (inr f) = moved p (omega arith) f ∙ h.kept p k (omega arith)

    left : (p k : ℕ) → from ≤ p → p < from + (c + 1) → k < count_of q r p → (p ≡ from + c) ⊎ (p ≡ from + c → ⊥)
        → get_or (put_mid start z gone went) ((p - from) * s + k) 0
        ≡ get_or (get_or old (branch_at b next p) [] ++ take (count_of q r p) (drop ((p - from) * s) come)) k 0
    left p k i o t (inl e) =
        let f : k < n = omega (arith, t, en, ap (count_of q r) e) in
        ap (λ x. get_or (put_mid start z gone went) (x + k) 0) (ap (λ x. x * s) (sym (omega arith)) ∙ sym es)
        ∙ written_at start z k gone went room (omega (arith, f, en, fits (from + c), lw))
        ∙ ew k f ∙ ap (λ ys. get_or ys k 0) (joined_there p e)
    left p k i o t (inr f) = written_before start z ((p - from) * s + k) gone went room
        (omega (arith, es, column_before s (p - from) c k (omega arith) (omega (arith, t, fits p))))
        ∙ h.left p k i (omega arith) t

-- ---- all places of a group

pub put_back : (b w next p : ℕ) (old new : List (List ℕ)) (bytes out come gone : List ℕ) → 0 < b → p + w ≤ b
    → w ≤ 16 → length out ≡ length bytes → length come ≡ 8960 → length bytes < 560 * b → IsEven b p w (length bytes)
    → ((c k : ℕ) → c < w → k < count_at b (length bytes) p
    → get_or come (c * 560 + k) 0 ≡ get_or bytes (p + c + k * b) 0)
    → AreExchanged b next p (p + w) 560 (length bytes / b) (length bytes % b) old new come gone
    → ((c k : ℕ) → c < w → k < count_at b (length bytes) p → get_or out (p + c + k * b) 0 ≡ get_or gone (c * 560 + k) 0)
    → ((i : ℕ) → (i % b < p) ⊎ (p + w ≤ i % b) → get_or out i 0 ≡ get_or bytes i 0)
    → ArePassed b next p (p + w) old new bytes out
put_back b w next p old new bytes out come gone o room w16 lo lc short even taken h put rest = record {
  count = h.count;
  long = lo;
  kept = λ q l m. h.kept q l m
      ∙ ap (λ ys. drop (count_at b (length bytes) q) (get_or old (branch_at b next q) [] ++ ys)) (stretch q l m);
  others = h.others;
  left = λ i l m k. left i l m k;
  rest = rest;
}
  where
    counts : (q : ℕ) → p ≤ q → q < p + w → count_at b (length bytes) q ≡ count_at b (length bytes) p
    counts q l m = ap (count_at b (length bytes)) (sym (omega arith))
        ∙ even_count b p w (length bytes) (q - p) (omega arith) even

    few : (q : ℕ) → count_at b (length bytes) q ≤ 560
    few q = counts_fit b (length bytes) q 560 o (omega arith)

    stretch : (q : ℕ) → p ≤ q → q < p + w
        → take (count_at b (length bytes) q) (drop ((q - p) * 560) come) ≡ column b bytes q
    stretch q l m = fill_by_all (λ k. get_or bytes (q + k * b) 0)
        (take (count_at b (length bytes) q) (drop ((q - p) * 560) come)) (count_at b (length bytes) q) 0
        (grind (arith, length-take-le, length-drop, few)) (λ k s. grind (arith, get_or-take, get_or-drop, counts))

    left : (i : ℕ) → i < length bytes → p ≤ i % b → i % b < p + w
        → get_or out i 0 ≡ get_or (joined_at b next old bytes (i % b)) (i / b) 0
    left i l m k =
        let s : i / b < count_at b (length bytes) (i % b) = row_counts b (length bytes) i o l in
        ap (λ x. get_or out x 0) (sym (ap (λ x. x + i / b * b) (omega arith) ∙ from_row b i))
        ∙ put (i % b - p) (i / b) (omega arith) (omega (arith, s, counts (i % b) m k)) ∙ h.left (i % b) (i / b) m k s
        ∙ ap (λ ys. get_or (get_or old (branch_at b next (i % b)) [] ++ ys) (i / b) 0) (stretch (i % b) m k)
