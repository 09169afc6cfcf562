-- What keeps and what ends an anchor, over whole lists of sync bytes.
use Rattle.std.proofs.Common.{◌≡◌, ◌≢◌, ℕ, zero, suc, ◌+◌, ◌-◌, ◌%◌, ◌<◌, ◌≤◌, ◌⊎◌, ◌==◌, Bool, true, false, ◌&&◌, not}
use Rattle.std.proofs.Common.{cond, Option, Some, None, List, [], ◌∷◌, ◌++◌, length, take, drop, set, refl, sym}
use Rattle.std.proofs.Common.{ap, ap₂, ◌∙◌, arith, inl, inr}
use Rattle.std.proofs.lemmas.Bool.{cases_lt, true≢false, eqb-true, eqb-false, eq-eqb, ne_eqb}
use Rattle.std.proofs.lemmas.List.{length-append, length-take-le, length-set, get_or-set_other}
use Rattle.std.proofs.lemmas.List.{get_or-append-add, get_or-take, take-append-drop, append_assoc}
use Rattle.dtx_cadence.specs.Anchor.{has_mark, ends_lock, anchor_at, anchor_to, anchor}
use Rattle.dtx_cadence.specs.Cadence.{IsMarked, AreAlike, AreAlikeWhereDue, HaveSameAnchors, HasMarksRound, IsInStep}
use Rattle.dtx_cadence.specs.Cadence.{IsAnchored}
use Rattle.dtx_cadence.proofs.NextAnchorLemmas.{anchor_to_same, anchor_take, anchor_behind, anchor_below, anchor_next}
use Rattle.dtx_cadence.proofs.NextAnchorLemmas.{Stays, stays, stood, none_ended, anchor_is_mark}

-- ---- one packet and an anchor

-- where no mark is due
ends_idle : (d : List ℕ) (i j : ℕ) → (i - j) % 624 ≢ 0 → ends_lock d i j ≡ false
ends_idle d i j f = ap (λ b. b && not (has_mark d i) && not (has_mark d (i - 624))) (ne_eqb ((i - j) % 624) 0 f)

-- at a mark
ends_marked : (d : List ℕ) (i j : ℕ) → has_mark d i ≡ true → ends_lock d i j ≡ false
ends_marked d i j h = grind arith

-- 624 packets behind a mark
ends_behind : (d : List ℕ) (i j : ℕ) → has_mark d (i - 624) ≡ true → ends_lock d i j ≡ false
ends_behind d i j h = grind arith

-- where two marks that are due in a row are missing
ends_missing : (d : List ℕ) (i j : ℕ) → (i - j) % 624 ≡ 0 → has_mark d i ≡ false → has_mark d (i - 624) ≡ false
    → ends_lock d i j ≡ true
ends_missing d i j e h g = grind (arith, eq-eqb)

-- ---- marks where none is due

due_same : (xs ys : List ℕ) (i j : ℕ) → j < i → i < length xs → (b : Bool) → ((i - j) % 624 == 0) ≡ b
    → has_mark xs (i - 624) ≡ has_mark ys (i - 624) ⊎ b ≡ false
    → AreAlikeWhereDue xs ys j → ends_lock xs i j ≡ ends_lock ys i j
due_same xs ys i j l k true e (inl g) h = grind (arith, eqb-true)
due_same xs ys i j l k true e (inr g) h = cc
due_same xs ys i j l k false e g h = grind arith

-- also of the packet 624 before it, at the anchor itself and behind it
before_same : (xs ys : List ℕ) (i j : ℕ) → j < i → i < length xs → (b : Bool) → ((i - j) % 624 == 0) ≡ b
    → AreAlike xs ys (j + 1) → AreAlikeWhereDue xs ys j → has_mark xs (i - 624) ≡ has_mark ys (i - 624) ⊎ b ≡ false
before_same xs ys i j l k false e f h = inr refl
before_same xs ys i j l k true e f h = grind (arith, cases_lt, eqb-true)

pub stray_marks : (xs ys : List ℕ) (j : ℕ) → length xs ≡ length ys → anchor xs ≡ Some j → AreAlike xs ys (j + 1)
    → AreAlikeWhereDue xs ys j → HaveSameAnchors xs ys
unfolding anchor
stray_marks xs ys j e h f g = λ n l.
    anchor_take xs n l ∙ by_place n l (cases_lt j n) ∙ sym (anchor_take ys n (omega (arith, l, e)))
  where
    below : j < length xs
    below = anchor_below xs j h

    first : anchor_to xs (j + 1) ≡ Some j
    first = stood xs j (j + 1) (length xs - (j + 1)) (omega arith) (ap (anchor_to xs) (omega (arith, below)) ∙ h)

    other : anchor_to ys (j + 1) ≡ Some j
    other = sym (anchor_to_same xs ys (j + 1) f) ∙ first

    kept : (i : ℕ) → j + 1 ≤ i → i < length xs → ends_lock xs i j ≡ false
    kept i a b =
        let k : j + 1 + (length xs - (j + 1)) ≡ length xs = omega (arith, below) in
        none_ended xs j (j + 1) (length xs - (j + 1)) (omega arith) (ap (anchor_to xs) k ∙ h) i a (omega (arith, b, k))

    same : (i : ℕ) → j + 1 ≤ i → i < length xs → ends_lock xs i j ≡ ends_lock ys i j
    same i a b = grind (arith, due_same, before_same)

    by_place : (n : ℕ) → n ≤ length xs → (j < n) ⊎ (n ≤ j) → anchor_to xs n ≡ anchor_to ys n
    by_place n l (inr k) = anchor_to_same xs ys n (λ i a. f i (omega (arith, a, k)))
    by_place n l (inl k) =
        let u : n ≡ j + 1 + (n - (j + 1)) = omega (arith, k) in
        ap (anchor_to xs) u ∙ stays xs j (j + 1) (n - (j + 1)) first (λ i a b. kept i a (omega (arith, b, l, u)))
        ∙ sym (ap (anchor_to ys) u ∙ stays ys j (j + 1) (n - (j + 1)) other
        (λ i a b. sym (same i a (omega (arith, b, l, u))) ∙ kept i a (omega (arith, b, l, u))))

-- ---- one missing mark

mark_other : (d : List ℕ) (i s k : ℕ) → k ≢ i → has_mark (set d i s) k ≡ has_mark d k
mark_other d i s k f = ap (λ x. x == 0xB8) (get_or-set_other d i k s 0 f)

same_or : (a b : ℕ) → (a ≡ b) ⊎ (a ≢ b)
same_or a b = grind (arith, eqb-true, eqb-false)

-- behind the packet nothing else than its next due mark sees it
ends_other : (d : List ℕ) (i s k j : ℕ) → 0 < i → i < k → k < length d
    → (i + 624 < length d → has_mark d (i + 624) ≡ true) → ends_lock d k j ≡ ends_lock (set d i s) k j
ends_other d i s k j p l b h = grind (arith, same_or, mark_other, ends_marked)

at_other : (d : List ℕ) (i s k : ℕ) (o : Option ℕ) → 0 < i → i < k → k < length d
    → (i + 624 < length d → has_mark d (i + 624) ≡ true) → anchor_at d k o ≡ anchor_at (set d i s) k o
at_other d i s k None p l b h = ap (λ t. cond t (Some k) None) (sym (mark_other d i s k (λ e. omega (arith, e, l))))
at_other d i s k (Some j) p l b h = ap (λ t. cond t None (Some j)) (ends_other d i s k j p l b h)

-- up to the packet and one further
front_set : (d : List ℕ) (i s n : ℕ) → n ≤ i → anchor_to d n ≡ anchor_to (set d i s) n
front_set d i s n l = anchor_to_same d (set d i s) n (λ k a. sym (mark_other d i s k (λ e. omega (arith, e, a, l))))

set_one : (d : List ℕ) (i j s : ℕ) → anchor_to d i ≡ Some j → 0 < i → has_mark d (i - 624) ≡ true
    → anchor_to d (suc i) ≡ anchor_to (set d i s) (suc i)
unfolding anchor_to
set_one d i j s h p m = grind (arith, ends_behind, front_set, mark_other)

set_more : (d : List ℕ) (i j s m : ℕ) → anchor_to d i ≡ Some j → 0 < i → HasMarksRound d i → i + m < length d
    → anchor_to d (suc i + m) ≡ anchor_to (set d i s) (suc i + m)
unfolding anchor_to
set_more d i j s zero h p r l = let e : suc i + 0 ≡ suc i = omega arith in
    ap (anchor_to d) e ∙ set_one d i j s h p r.before ∙ ap (anchor_to (set d i s)) (sym e)
set_more d i j s (suc m) h p r l =
    let e : suc i + suc m ≡ suc (suc i + m) = omega arith in
    ap (anchor_to d) e
    ∙ ap (anchor_at d (suc i + m)) (set_more d i j s m h p r (omega (arith, l)))
    ∙ at_other d i s (suc i + m) (anchor_to (set d i s) (suc i + m)) p (omega arith) (omega (arith, l)) r.behind
    ∙ ap (anchor_to (set d i s)) (sym e)

pub missing_mark : (d : List ℕ) (i j s : ℕ) → anchor (take i d) ≡ Some j → i < length d → HasMarksRound d i
    → HaveSameAnchors d (set d i s)
missing_mark d i j s h l r = λ n b.
    anchor_take d n b ∙ by_place n b (cases_lt i n)
    ∙ sym (anchor_take (set d i s) n (omega (arith, b, length-set d i s)))
  where
    before : anchor_to d i ≡ Some j
    before = sym (anchor_take d i (omega (arith, l))) ∙ h

    some : 0 < i
    some = grind (arith, anchor_below, length-take-le)

    by_place : (n : ℕ) → n ≤ length d → (i < n) ⊎ (n ≤ i) → anchor_to d n ≡ anchor_to (set d i s) n
    by_place n b (inr k) = front_set d i s n k
    by_place n b (inl k) =
        ap (anchor_to d) (omega (arith, k)) ∙ set_more d i j s (n - suc i) before some r (omega (arith, b))
        ∙ ap (anchor_to (set d i s)) (sym (omega (arith, k)))

-- ---- two missing marks

pub two_missing : (d : List ℕ) (s j : ℕ) → anchor d ≡ Some j → (length d - j) % 624 ≡ 0 → (s == 0xB8) ≡ false
    → has_mark d (length d - 624) ≡ false → anchor (d ++ s ∷ []) ≡ None
two_missing d s j h e m g =
    rw (anchor_next d s j h, eq-eqb ((length d - j) % 624) 0 e, ap₂ (λ x y. cond (not x && not y) None (Some j)) m g)

-- ---- a feed from one of its marks on

mark_behind : (d s : List ℕ) (i : ℕ) → has_mark (d ++ s) (length d + i) ≡ has_mark s i
mark_behind d s i = ap (λ x. x == 0xB8) (get_or-append-add d s i 0)

-- a lock in step with it stays
stays_in_step : (d s : List ℕ) (j n m : ℕ) → IsMarked s → j ≤ length d → (length d - j) % 624 ≡ 0 → length d ≤ n
    → n + m ≤ length d + length s → Stays (d ++ s) j n m
stays_in_step d s j n m c l e a b = λ i f g. by_due i f g ((i - j) % 624 == 0) refl
  where
    in_step : (i k j : ℕ) → j ≤ k → k ≤ i → (k - j) % 624 ≡ 0 → (i - j) % 624 ≡ 0 → (i - k) % 624 ≡ 0
    in_step i k j x y z w = omega arith

    by_due : (i : ℕ) → n ≤ i → i < n + m → (t : Bool) → ((i - j) % 624 == 0) ≡ t → ends_lock (d ++ s) i j ≡ false
    by_due i f g false u = ends_idle (d ++ s) i j (eqb-false ((i - j) % 624) 0 u)
    by_due i f g true u =
        let due : (i - j) % 624 ≡ 0 = eqb-true ((i - j) % 624) 0 u in
        let p : length d + (i - length d) ≡ i = omega (arith, a, f) in
        ends_marked (d ++ s) i j (grind (arith, mark_behind, eq-eqb))

held : (d s : List ℕ) (j n : ℕ) → IsMarked s → j ≤ length d → (length d - j) % 624 ≡ 0 → length d ≤ n
    → n ≤ length d + 1 → anchor_to (d ++ s) n ≡ Some j → (m : ℕ) → m < length s → anchor (d ++ take (m + 1) s) ≡ Some j
held d s j n c l e a b h m k =
    let u : length (d ++ take (m + 1) s) ≡ length d + (m + 1) = grind (arith, length-append, length-take-le) in
    let v : length d + (m + 1) ≡ n + (length d + (m + 1) - n) = omega (arith, b) in
    let whole : d ++ s ≡ (d ++ take (m + 1) s) ++ drop (m + 1) s = grind (arith, take-append-drop, append_assoc) in
    sym (anchor_behind (d ++ take (m + 1) s) (drop (m + 1) s)) ∙ ap₂ anchor_to (sym whole) (u ∙ v)
    ∙ stays (d ++ s) j n (length d + (m + 1) - n) h
    (stays_in_step d s j n (length d + (m + 1) - n) c l e a (omega (arith, v, k)))

-- where nothing was locked, or a lock in step with its mark
pub anchored : (d s : List ℕ) → IsMarked s → 0 < length s → IsInStep d → IsAnchored d s 0
unfolding anchor_to
anchored d s c l f = by_anchor (anchor d) refl
  where
    mark : has_mark (d ++ s) (length d) ≡ true
    mark = ap (has_mark (d ++ s)) (omega arith) ∙ mark_behind d s 0 ∙ c 0 l

    by_anchor : (o : Option ℕ) → anchor d ≡ o → IsAnchored d s 0
    by_anchor None h = record {
      place = length d;
      within = omega arith;
      steps = omega arith;
      holds = λ m a b. held d s (length d) (suc (length d)) c (omega arith) (omega arith) (omega arith) (omega arith)
          (ap (anchor_at (d ++ s) (length d)) (anchor_behind d s ∙ h)
          ∙ ap (λ t. cond t (Some (length d)) None) mark) m b;
    }
    by_anchor (Some j) h =
        let k : j < length d = anchor_below d j h in
        record {
          place = j;
          within = omega (arith, k);
          steps = let z : length d + 0 - j ≡ length d - j = omega arith in ap (λ (n : ℕ). n % 624) z ∙ (f j h);
          holds = λ m a b. held d s j (length d) c (omega (arith, k)) (f j h) (omega arith) (omega arith)
              (anchor_behind d s ∙ h) m b;
        }

-- a lock out of step is lost before the third mark
pub out_of_step : (d s : List ℕ) (j : ℕ) → IsMarked s → length s ≡ 1248 → anchor (d ++ s) ≡ Some j
    → (length d + 1248 - j) % 624 ≡ 0
unfolding anchor
out_of_step d s j c l h = by_place (cases_lt j (length d))
  where
    size : length (d ++ s) ≡ length d + 1248
    size = length-append d s ∙ ap (λ x. length d + x) l

    below : j < length d + 1248
    below = let b : j < length (d ++ s) = anchor_below (d ++ s) j h in omega (arith, b, size)

    rest : (n j : ℕ) → n ≤ j → j < n + 1248 → (j - n) % 624 ≡ 0 → (n + 1248 - j) % 624 ≡ 0
    rest n j a b e = omega arith

    -- an anchor among the feed's own packets
    own : length d ≤ j → (length d + 1248 - j) % 624 ≡ 0
    own k =
        let p : j ≡ length d + (j - length d) = omega (arith, k) in
        let z : ((j - length d) % 624 == 0) ≡ true = sym (grind (arith, below)) ∙ sym (mark_behind d s (j - length d))
        ∙ ap (has_mark (d ++ s)) (sym p) ∙ anchor_is_mark (d ++ s) (length (d ++ s)) j h in
        let m : (j - length d) % 624 ≡ 0 = eqb-true ((j - length d) % 624) 0 z in
        rest (length d) j k below m

    same : (n j : ℕ) → j < n → (n - j) % 624 ≡ 0 → (n + 1248 - j) % 624 ≡ 0
    same n j a e = omega arith

    no_mark : (i : ℕ) → i < 1248 → i % 624 ≢ 0 → has_mark (d ++ s) (length d + i) ≡ false
    no_mark i a e = mark_behind d s i ∙ c i (omega (arith, a, l)) ∙ ne_eqb (i % 624) 0 e

    above : (n : ℕ) → n ≢ 0 → 0 < n
    above n g = omega (arith, g)

    second : (n j : ℕ) → j < n → (n + (1248 - (n - j) % 624) - j) % 624 ≡ 0
    second n j a = omega arith

    lost : j < length d → (length d - j) % 624 ≢ 0 → ⊥
    lost k e =
        let r : ℕ = (length d - j) % 624 in
        let r0 : 0 < (length d - j) % 624 = above ((length d - j) % 624) e in
        let i : ℕ = length d + (1248 - (length d - j) % 624) in
        let due : (length d + (1248 - (length d - j) % 624) - j) % 624 ≡ 0 = second (length d) j k in
        let back : length d + (1248 - (length d - j) % 624) - 624 ≡ length d + (624 - (length d - j) % 624) =
        omega (arith, r0) in
        let v : length d + (length (d ++ s) - length d) ≡ length (d ++ s) = omega (arith, size) in
        let kept : ends_lock (d ++ s) (length d + (1248 - (length d - j) % 624)) j ≡ false =
        none_ended (d ++ s) j (length d) (length (d ++ s) - length d) k (ap (anchor_to (d ++ s)) v ∙ h)
        (length d + (1248 - (length d - j) % 624)) (omega arith) (omega (arith, size, r0)) in
        true≢false (sym (grind (arith, ends_missing, no_mark)) ∙ kept)

    -- an older one, whose next two due marks would be missing
    old : j < length d → (t : Bool) → ((length d - j) % 624 == 0) ≡ t → (length d + 1248 - j) % 624 ≡ 0
    old k true e = same (length d) j k (eqb-true ((length d - j) % 624) 0 e)
    old k false e = absurd (lost k (eqb-false ((length d - j) % 624) 0 e))

    by_place : (j < length d) ⊎ (length d ≤ j) → (length d + 1248 - j) % 624 ≡ 0
    by_place (inl k) = old k ((length d - j) % 624 == 0) refl
    by_place (inr k) = own k

marked_front : (s : List ℕ) (n : ℕ) → IsMarked s → n ≤ length s → IsMarked (take n s)
marked_front s n c l = grind (arith, length-take-le, get_or-take)

-- so there is none then, or one in step
pub in_step_at_third : (d s : List ℕ) → IsMarked s → 1248 ≤ length s → IsInStep (d ++ take 1248 s)
in_step_at_third d s c l = λ j h.
    let long : length (take 1248 s) ≡ 1248 = length-take-le 1248 s l in
    let size : length (d ++ take 1248 s) ≡ length d + 1248 = grind (arith, length-append) in
    ap (λ (n : ℕ). (n - j) % 624) size ∙ out_of_step d (take 1248 s) j (marked_front s 1248 c l) long h
