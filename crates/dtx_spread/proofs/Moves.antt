-- Items moved towards the front of their list, sixteen at a time.
use Rattle.std.proofs.Common.{◌≡◌, ℕ, ◌+◌, ◌-◌, ◌*◌, ◌/◌, ◌<◌, ◌≤◌, ◌⊎◌, inl, inr, List, length, get_or, sym, ap, ◌∙◌}
use Rattle.std.proofs.Common.{arith}
use Rattle.std.proofs.lemmas.Bool.{cases_lt}
use Rattle.std.proofs.lemmas.Simd.{length-chunk, length-put_chunk, get_or-chunk, get_or-put_chunk_below}
use Rattle.std.proofs.lemmas.Simd.{get_or-put_chunk_at, get_or-put_chunk_above}
use lib.Lanes.{chunk, put_chunk}

-- of items that stand n places further back, the first m are moved
pub record AreMoved (m n : ℕ) (items moved : List ℕ) : Type 0 where
  pub before : (k : ℕ) → k < m → get_or moved k 0 ≡ get_or items (n + k) 0
  pub behind : (k : ℕ) → m ≤ k → get_or moved k 0 ≡ get_or items k 0

moved_row : (m n j : ℕ) (items moved : List ℕ) → m ≤ j → AreMoved m n items moved
    → (k : ℕ) → k < 16 → get_or (chunk j 16 moved) k 0 ≡ get_or items (j + k) 0
moved_row m n j items moved l h k s = get_or-chunk j 16 moved k 0 s ∙ h.behind (j + k) (omega arith)

moved_more : (m n : ℕ) (items moved row : List ℕ) → m + 16 ≤ length moved → length row ≡ 16
    → ((k : ℕ) → k < 16 → get_or row k 0 ≡ get_or items (n + (m + k)) 0)
    → AreMoved m n items moved → AreMoved (m + 16) n items (put_chunk m moved row)
moved_more m n items moved row room lr there h = record {
  before = λ k l. before k l (cases_lt k m);
  behind = λ k l. get_or-put_chunk_above m moved row k 0 (omega arith) ∙ h.behind k (omega arith);
}
  where
    before : (k : ℕ) → k < m + 16 → (k < m) ⊎ (m ≤ k) → get_or (put_chunk m moved row) k 0 ≡ get_or items (n + k) 0
    before k l (inl s) = get_or-put_chunk_below m moved row k 0 s ∙ h.before k s
    before k l (inr s) = ap (λ x. get_or (put_chunk m moved row) x 0) (sym (omega arith))
        ∙ get_or-put_chunk_at m moved row (k - m) 0 (omega arith) (omega arith)
        ∙ there (k - m) (omega arith) ∙ ap (λ x. get_or items (n + x) 0) (omega arith)

pub pair_moved : (m t n : ℕ) (items moved : List ℕ) → t ≡ m + 16 + 16 → t + n ≤ length items
    → length moved ≡ length items → AreMoved m n items moved → AreMoved t n items
    (put_chunk (m + 16) (put_chunk m moved (chunk (m + n) 16 moved)) (chunk (m + 16 + n) 16 moved))
pair_moved m t n items moved e room lm h =
    rw e (moved_more (m + 16) n items (put_chunk m moved (chunk (m + n) 16 moved)) (chunk (m + 16 + n) 16 moved)
    (omega (arith, length-put_chunk m moved (chunk (m + n) 16 moved))) (long (m + 16 + n) (omega arith))
    (λ k l. moved_row m n (m + 16 + n) items moved (omega arith) h k l
    ∙ ap (λ x. get_or items x 0) (omega arith))
    (moved_more m n items moved (chunk (m + n) 16 moved) (omega arith) (long (m + n) (omega arith))
    (λ k l. moved_row m n (m + n) items moved (omega arith) h k l ∙ ap (λ x. get_or items x 0) (omega arith)) h))
  where
    long : (j : ℕ) → j + 16 ≤ length items → length (chunk j 16 moved) ≡ 16
    long j l = length-chunk j 16 moved (omega arith)

-- the last whole sixteen and the last sixteen of all, which were read before any was moved
pub all_moved : (n : ℕ) (items moved : List ℕ) → n ≤ 16 → 32 ≤ length items → length moved ≡ length items
    → ((k : ℕ) → k < 32 * ((length items - n) / 32) → get_or moved k 0 ≡ get_or items (n + k) 0)
    → (k : ℕ) → k + n < length items → get_or (put_chunk (length items - n - 16)
    (put_chunk ((length items - n) / 16 * 16 - 16) moved (chunk ((length items - n) / 16 * 16 - 16 + n) 16 items))
    (chunk (length items - n - 16 + n) 16 items)) k 0 ≡ get_or items (n + k) 0
all_moved n items moved few l lm before k s = by_place (cases_lt k (length items - n - 16)) (cases_lt k whole)
  where
    whole : ℕ
    whole = (length items - n) / 16 * 16 - 16

    one : List ℕ
    one = chunk ((length items - n) / 16 * 16 - 16 + n) 16 items

    last : List ℕ
    last = chunk (length items - n - 16 + n) 16 items

    within : (length items - n) / 16 * 16 - 16 + n + 16 ≤ length items
    within = omega arith

    one_long : length (chunk ((length items - n) / 16 * 16 - 16 + n) 16 items) ≡ 16
    one_long = length-chunk ((length items - n) / 16 * 16 - 16 + n) 16 items within

    last_long : length (chunk (length items - n - 16 + n) 16 items) ≡ 16
    last_long = length-chunk (length items - n - 16 + n) 16 items (omega arith)

    mid_long : length (put_chunk ((length items - n) / 16 * 16 - 16) moved
        (chunk ((length items - n) / 16 * 16 - 16 + n) 16 items)) ≡ length items
    mid_long = grind (arith, length-put_chunk)

    by_place : (k < length items - n - 16) ⊎ (length items - n - 16 ≤ k)
        → (k < (length items - n) / 16 * 16 - 16) ⊎ ((length items - n) / 16 * 16 - 16 ≤ k)
        → get_or (put_chunk (length items - n - 16)
        (put_chunk ((length items - n) / 16 * 16 - 16) moved (chunk ((length items - n) / 16 * 16 - 16 + n) 16 items))
        (chunk (length items - n - 16 + n) 16 items)) k 0 ≡ get_or items (n + k) 0
    by_place (inl h) (inl g) = get_or-put_chunk_below (length items - n - 16) (put_chunk whole moved one) last k 0 h
        ∙ get_or-put_chunk_below ((length items - n) / 16 * 16 - 16) moved one k 0 g ∙ before k (omega arith)
    by_place (inl h) (inr g) = get_or-put_chunk_below (length items - n - 16) (put_chunk whole moved one) last k 0 h
        ∙ ap (λ x. get_or (put_chunk whole moved one) x 0) (sym (omega arith))
        ∙ get_or-put_chunk_at ((length items - n) / 16 * 16 - 16) moved one
        (k - ((length items - n) / 16 * 16 - 16)) 0 (omega (arith, one_long)) (omega (arith, one_long, lm, within))
        ∙ get_or-chunk ((length items - n) / 16 * 16 - 16 + n) 16 items
        (k - ((length items - n) / 16 * 16 - 16)) 0 (omega arith) ∙ ap (λ x. get_or items x 0) (omega arith)
    by_place (inr h) g =
        let e : length items - n - 16 + (k - (length items - n - 16)) ≡ k = omega arith in
        ap (λ x. get_or (put_chunk (length items - n - 16) (put_chunk whole moved one) last) x 0) (sym e)
        ∙ get_or-put_chunk_at (length items - n - 16) (put_chunk whole moved one) last (k - (length items - n - 16)) 0
        (omega (arith, last_long)) (omega (arith, last_long, mid_long))
        ∙ get_or-chunk (length items - n - 16 + n) 16 items (k - (length items - n - 16)) 0 (omega arith)
        ∙ ap (λ x. get_or items x 0) (omega (arith, e))
