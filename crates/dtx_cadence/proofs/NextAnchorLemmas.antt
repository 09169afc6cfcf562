-- The anchor, one sync byte further: it stays or is lost, or there is a new one.
use Rattle.std.proofs.Common.{◌≡◌, ℕ, zero, suc, ◌+◌, ◌-◌, ◌%◌, ◌<◌, ◌≤◌, ◌==◌, Bool, true, false, ◌&&◌, not, cond}
use Rattle.std.proofs.Common.{Option, Some, None, List, [], ◌∷◌, ◌++◌, length, take, refl, sym, ap, ap₂, ◌∙◌, arith}
use Rattle.std.proofs.lemmas.List.{length_push, length-take-le, get_or_append_left, get_or_push, get_or-take}
use Rattle.dtx_cadence.specs.Anchor.{has_mark, ends_lock, anchor_at, anchor_to, anchor}
use Rattle.dtx_cadence.specs.Cadence.{AreAlike}

-- ---- the anchor behind the first packets is that of those alone

ends_same : (xs ys : List ℕ) (n i j : ℕ) → AreAlike xs ys n → i < n → ends_lock xs i j ≡ ends_lock ys i j
ends_same xs ys n i j h l = ap₂ (λ x y. ((i - j) % 624 == 0) && not x && not y) (h i l) (h (i - 624) (omega (arith, l)))

at_same : (xs ys : List ℕ) (n i : ℕ) (o : Option ℕ) → AreAlike xs ys n → i < n → anchor_at xs i o ≡ anchor_at ys i o
at_same xs ys n i None h l = ap (λ b. cond b (Some i) None) (h i l)
at_same xs ys n i (Some j) h l = ap (λ b. cond b None (Some j)) (ends_same xs ys n i j h l)

pub anchor_to_same : (xs ys : List ℕ) (n : ℕ) → AreAlike xs ys n → anchor_to xs n ≡ anchor_to ys n
unfolding anchor_to
anchor_to_same xs ys zero h = refl
anchor_to_same xs ys (suc n) h = at_same xs ys (suc n) n (anchor_to xs n) h (omega arith)
    ∙ ap (anchor_at ys n) (anchor_to_same xs ys n (λ i l. h i (omega (arith, l))))

pub front_alike : (d e : List ℕ) (n : ℕ) → n ≤ length d → AreAlike (d ++ e) d n
front_alike d e n l = λ i h. ap (λ x. x == 0xB8) (get_or_append_left d e 0 i (omega (arith, l, h)))

pub anchor_to_front : (d e : List ℕ) (n : ℕ) → n ≤ length d → anchor_to (d ++ e) n ≡ anchor_to d n
anchor_to_front d e n l = anchor_to_same (d ++ e) d n (front_alike d e n l)

pub anchor_take : (d : List ℕ) (n : ℕ) → n ≤ length d → anchor (take n d) ≡ anchor_to d n
unfolding anchor
anchor_take d n l = grind (arith, length-take-le, anchor_to_same, get_or-take)

-- behind more packets
pub anchor_behind : (d e : List ℕ) → anchor_to (d ++ e) (length d) ≡ anchor d
unfolding anchor
anchor_behind d e = anchor_to_front d e (length d) (omega arith)

-- ---- one more

pub anchor_push : (d : List ℕ) (s : ℕ) → anchor (d ++ s ∷ []) ≡ anchor_at (d ++ s ∷ []) (length d) (anchor d)
unfolding anchor anchor_to
anchor_push d s = grind (arith, length_push, anchor_behind)

-- a new anchor at this packet, where it is a mark
abbrev pub new_anchor : List ℕ → ℕ → Option ℕ
new_anchor d s = cond (s == 0xB8) (Some (length d)) None

-- whether the packet takes an anchor at j away
abbrev pub ends_with : List ℕ → ℕ → ℕ → Bool
ends_with d s j = ((length d - j) % 624 == 0) && not (s == 0xB8) && not (has_mark d (length d - 624))

pub mark_push : (d : List ℕ) (s : ℕ) → has_mark (d ++ s ∷ []) (length d) ≡ (s == 0xB8)
mark_push d s = ap (λ x. x == 0xB8) (get_or_push d s 0 (length d) refl)

pub anchor_free : (d : List ℕ) (s : ℕ) → anchor d ≡ None → anchor (d ++ s ∷ []) ≡ new_anchor d s
anchor_free d s h = grind (arith, anchor_push, mark_push)

-- ---- an anchor is a mark among the packets

pub anchor_to_below : (d : List ℕ) (n j : ℕ) → anchor_to d n ≡ Some j → j < n
unfolding anchor_to
anchor_to_below d zero j h = cc
anchor_to_below d (suc n) j h = by_before (anchor_to d n) (λ i e. anchor_to_below d n i e) h
  where
    by_new : (b : Bool) → cond b (Some n) None ≡ Some j → j < suc n
    by_new true e = let q : n ≡ j = cc in omega (arith, q)
    by_new false e = cc

    by_old : (i : ℕ) (b : Bool) → i < n → cond b None (Some i) ≡ Some j → j < suc n
    by_old i true l e = cc
    by_old i false l e = let q : i ≡ j = cc in omega (arith, q, l)

    by_before : (o : Option ℕ) → ((i : ℕ) → o ≡ Some i → i < n) → anchor_at d n o ≡ Some j → j < suc n
    by_before None f g = by_new (has_mark d n) g
    by_before (Some i) f g = by_old i (ends_lock d n i) (f i refl) g

pub anchor_below : (d : List ℕ) (j : ℕ) → anchor d ≡ Some j → j < length d
unfolding anchor
anchor_below d j h = anchor_to_below d (length d) j h

-- where there is an anchor, it stays or is lost
pub anchor_next : (d : List ℕ) (s j : ℕ) → anchor d ≡ Some j
    → anchor (d ++ s ∷ []) ≡ cond (ends_with d s j) None (Some j)
anchor_next d s j h = grind (arith, anchor_below, anchor_push, mark_push, front_alike)

-- ---- an anchor stays where no packet takes it away

abbrev pub Stays : List ℕ → ℕ → ℕ → ℕ → Type 0
Stays d j n m = (i : ℕ) → n ≤ i → i < n + m → ends_lock d i j ≡ false

pub stays : (d : List ℕ) (j n m : ℕ) → anchor_to d n ≡ Some j → Stays d j n m → anchor_to d (n + m) ≡ Some j
unfolding anchor_to
stays d j n zero h f = let e : n + 0 ≡ n = omega arith in ap (anchor_to d) e ∙ h
stays d j n (suc m) h f =
    let e : n + suc m ≡ suc (n + m) = omega arith in
    ap (anchor_to d) e
    ∙ ap (anchor_at d (n + m)) (stays d j n m h (λ i l k. f i l (omega (arith, k))))
    ∙ ap (λ b. cond b None (Some j)) (f (n + m) (omega arith) (omega arith))

-- an anchor that is one among earlier packets was so from then on
pub stood : (d : List ℕ) (j n m : ℕ) → j < n → anchor_to d (n + m) ≡ Some j → anchor_to d n ≡ Some j
unfolding anchor_to
stood d j n zero l h = let e : n ≡ n + 0 = omega arith in ap (anchor_to d) e ∙ h
stood d j n (suc m) l h =
    let e : suc (n + m) ≡ n + suc m = omega arith in
    by_before (anchor_to d (n + m)) (stood d j n m l) (ap (anchor_to d) e ∙ h)
  where
    by_new : (b : Bool) → cond b (Some (n + m)) None ≡ Some j → anchor_to d n ≡ Some j
    by_new true e = let q : n + m ≡ j = cc in absurd (omega (arith, q, l))
    by_new false e = cc

    by_old : (i : ℕ) (b : Bool) → (Some i ≡ Some j → anchor_to d n ≡ Some j) → cond b None (Some i) ≡ Some j
        → anchor_to d n ≡ Some j
    by_old i true f e = cc
    by_old i false f e = f e

    by_before : (o : Option ℕ) → (o ≡ Some j → anchor_to d n ≡ Some j) → anchor_at d (n + m) o ≡ Some j
        → anchor_to d n ≡ Some j
    by_before None f g = by_new (has_mark d (n + m)) g
    by_before (Some i) f g = by_old i (ends_lock d (n + m) i) f g

-- and no packet since took it away
pub none_ended : (d : List ℕ) (j n m : ℕ) → j < n → anchor_to d (n + m) ≡ Some j → Stays d j n m
unfolding anchor_to
none_ended d j n m l h = λ i f g.
    let e : suc i + (n + m - suc i) ≡ n + m = omega arith in
    let k : n + (i - n) ≡ i = omega arith in
    let b : n + (n + m - n) ≡ n + m = omega arith in
    let now : anchor_to d (suc i) ≡ Some j = stood d j (suc i) (n + m - suc i) (omega arith) (ap (anchor_to d) e ∙ h) in
    let u : i + (n + m - i) ≡ n + m = omega arith in
    let before : anchor_to d i ≡ Some j = stood d j i (n + m - i) (omega arith) (ap (anchor_to d) u ∙ h) in
    by_test (ends_lock d i j) (sym (ap (anchor_at d i) before) ∙ now)
  where
    by_test : (b : Bool) → cond b None (Some j) ≡ Some j → b ≡ false
    by_test true e = cc
    by_test false e = refl

-- an anchor is a mark
pub anchor_is_mark : (d : List ℕ) (n j : ℕ) → anchor_to d n ≡ Some j → has_mark d j ≡ true
unfolding anchor_to
anchor_is_mark d zero j h = cc
anchor_is_mark d (suc n) j h = by_before (anchor_to d n) (λ i e. anchor_is_mark d n i e) h
  where
    by_new : (b : Bool) → has_mark d n ≡ b → cond b (Some n) None ≡ Some j → has_mark d j ≡ true
    by_new true t e = let q : n ≡ j = cc in ap (has_mark d) (sym q) ∙ t
    by_new false t e = cc

    by_old : (i : ℕ) (b : Bool) → has_mark d i ≡ true → cond b None (Some i) ≡ Some j → has_mark d j ≡ true
    by_old i true t e = cc
    by_old i false t e = let q : i ≡ j = cc in ap (has_mark d) (sym q) ∙ t

    by_before : (o : Option ℕ) → ((i : ℕ) → o ≡ Some i → has_mark d i ≡ true) → anchor_at d n o ≡ Some j
        → has_mark d j ≡ true
    by_before None f g = by_new (has_mark d n) refl g
    by_before (Some i) f g = by_old i (ends_lock d n i) (f i refl) g
