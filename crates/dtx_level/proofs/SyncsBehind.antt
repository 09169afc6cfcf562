-- The syncs of symbols behind others.
use Rattle.std.proofs.Common.{◌≡◌, ℕ, ℤ, zero, suc, ◌+◌, ◌<◌, ◌≤◌, Bool, true, false, cond, Option, Some, None}
use Rattle.std.proofs.Common.{option_map, List, [], ◌∷◌, ◌++◌, length, map, filter, refl, ap, ◌∙◌, arith, length-append}
use Rattle.std.proofs.lemmas.Bool.{cond-true, cond-false, lt-leb, leb-true}
use Rattle.dtx_acquire.specs.Acquired.{due, is_met}
use Rattle.dtx_acquire.proofs.PlacesLemmas.{least_gives, least_here, least_skip, whole_there}
use Rattle.dtx_acquire.proofs.SyncsLemmas.{met_behind}
use Rattle.dtx_level.specs.Shown.{least_shown, shows}
use Rattle.dtx_level.proofs.Shows.{past_end}
use Rattle.dtx_level.specs.Syncs.{all_syncs, behind, syncs_from, syncs_where}
use Rattle.dtx_level.proofs.Shows.{least_shown_behind, shows_behind}

-- ---- one behind another

behind_behind : (front v : List ℤ) (p : ℕ)
    → behind (front ++ v) (length front + p) ≡ option_map (λ i. length front + i) (behind v p)
unfolding behind
behind_behind front v p = pushed (is_met v p) (is_met (front ++ v) (length front + p)) (shows v (due p))
    (shows (front ++ v) (due (length front + p))) (Some (due p)) (Some (due (length front + p)))
    (least_shown v (p + 832)) (least_shown (front ++ v) (length front + p + 832)) (met_behind front v p)
    (ap (shows (front ++ v)) (omega arith) ∙ shows_behind front v (p + 260416)) (ap (λ k. Some k) (omega arith))
    (ap (least_shown (front ++ v)) (omega arith) ∙ least_shown_behind front v (p + 832))
  where
    pushed : (m m1 g g1 : Bool) (s s1 : Option ℕ) (l l1 : Option ℕ) → m1 ≡ m → g1 ≡ g
        → s1 ≡ option_map (λ i. length front + i) s → l1 ≡ option_map (λ i. length front + i) l
        → cond m1 (cond g1 s1 l1) None ≡ option_map (λ i. length front + i) (cond m (cond g s l) None)
    pushed true m1 true g1 s s1 l l1 e f h i = cond-true m1 (cond g1 s1 l1) None e ∙ cond-true g1 s1 l1 f ∙ h
    pushed true m1 false g1 s s1 l l1 e f h i = cond-true m1 (cond g1 s1 l1) None e ∙ cond-false g1 s1 l1 f ∙ i
    pushed false m1 g g1 s s1 l l1 e f h i = cond-false m1 (cond g1 s1 l1) None e

syncs_behind : (front v : List ℤ) (n : ℕ) (o : Option ℕ)
    → syncs_from (front ++ v) n (option_map (λ i. length front + i) o) ≡ map (λ i. length front + i) (syncs_from v n o)
unfolding syncs_from
syncs_behind front v zero o = refl
syncs_behind front v (suc n) None = refl
syncs_behind front v (suc n) (Some s) = ap (λ xs. (length front + s) ∷ xs)
    (ap (syncs_from (front ++ v) n) (behind_behind front v s) ∙ syncs_behind front v n (behind v s))

-- each sync is behind the one before
later : (v : List ℤ) (p s : ℕ) → behind v p ≡ Some s → (p < s) × (s < length v)
unfolding behind is_met
later v p s e = grind (arith, leb-true, least_gives)

-- that there are enough steps for all
abbrev IsEnough : List ℤ → ℕ → Option ℕ → Type 0
IsEnough v n o = (s : ℕ) → o ≡ Some s → (s < length v) × (length v ≤ n + s)

syncs_enough : (v : List ℤ) (n m : ℕ) (o : Option ℕ) → IsEnough v n o → IsEnough v m o
    → syncs_from v n o ≡ syncs_from v m o
unfolding syncs_from
syncs_enough v zero zero o h k = refl
syncs_enough v zero (suc m) None h k = refl
syncs_enough v zero (suc m) (Some s) h k = absurd (let w = h s refl in omega (arith, w.0, w.1))
syncs_enough v (suc n) zero None h k = refl
syncs_enough v (suc n) zero (Some s) h k = absurd (let w = k s refl in omega (arith, w.0, w.1))
syncs_enough v (suc n) (suc m) None h k = refl
syncs_enough v (suc n) (suc m) (Some s) h k = ap (λ xs. s ∷ xs) (syncs_enough v n m (behind v s)
    (λ t e. (let w = later v s t e in let a = h s refl in (w.1, omega (arith, w.0, a.1))))
    (λ t e. (let w = later v s t e in let a = k s refl in (w.1, omega (arith, w.0, a.1)))))

enough_first : (v : List ℤ) (n : ℕ) → length v ≤ n → IsEnough v n (least_shown v 0)
enough_first v n l s e = grind (arith, least_gives)

-- ---- all

-- where no place of a front shows a sync
pub all_skip : (front v : List ℤ) → ((p : ℕ) → p < length front → shows (front ++ v) p ≡ false)
    → all_syncs (front ++ v) ≡ map (λ i. length front + i) (all_syncs v)
unfolding all_syncs
all_skip front v h = ap (syncs_from (front ++ v) (length (front ++ v))) least
    ∙ syncs_behind front v (length (front ++ v)) (least_shown v 0) ∙ ap (map (λ i. length front + i))
    (grind (arith, syncs_enough, enough_first, length-append))
  where
    least : least_shown (front ++ v) 0 ≡ option_map (λ i. length front + i) (least_shown v 0)
    least = least_skip shows past_end (front ++ v) 0 (length front) (omega arith) (λ i l m. h i m)
        ∙ ap (least_shown (front ++ v)) (omega arith) ∙ least_shown_behind front v 0

-- where a sync is in front, and the next one is behind a front
pub all_next : (front v : List ℤ) → shows (front ++ v) 0 ≡ true → 0 < length front
    → behind (front ++ v) 0 ≡ option_map (λ i. length front + i) (least_shown v 0)
    → all_syncs (front ++ v) ≡ 0 ∷ map (λ i. length front + i) (all_syncs v)
unfolding all_syncs syncs_from
all_next front v h some e =
    rw (least_here shows past_end (front ++ v) 0 h, all_from (length (front ++ v)) (length-append front v))
  where
    all_from : (n : ℕ) → n ≡ length front + length v → syncs_from (front ++ v) n (Some 0)
        ≡ 0 ∷ map (λ i. length front + i) (syncs_from v (length v) (least_shown v 0))
    all_from zero l = absurd (omega arith)
    all_from (suc n) l = ap (λ xs. 0 ∷ xs) (ap (syncs_from (front ++ v) n) e ∙ syncs_behind front v n (least_shown v 0)
        ∙ ap (map (λ i. length front + i))
        (syncs_enough v n (length v) (least_shown v 0) (enough_first v n (omega arith)) (grind (arith, enough_first))))

pub unmet : (v : List ℤ) (p : ℕ) → length v < 261248 → is_met v p ≡ false
unfolding is_met
unmet v p l = lt-leb (p + 260416 + 832) (length v) (omega arith)

-- the last one
pub all_last : (v : List ℤ) → length v < 261248 → shows v 0 ≡ true → all_syncs v ≡ 0 ∷ []
unfolding all_syncs syncs_from behind
all_last v l h =
    let there = whole_there shows past_end v 0 h in
    ap (syncs_from v (length v)) (least_here shows past_end v 0 h) ∙ one_from (length v) (omega (arith, there))
  where
    ends : (n : ℕ) (o : Option ℕ) → o ≡ None → syncs_from v n o ≡ []
    ends zero o e = refl
    ends (suc n) o e = ap (syncs_from v (suc n)) e

    one_from : (n : ℕ) → 0 < n → syncs_from v n (Some 0) ≡ 0 ∷ []
    one_from zero l = absurd (omega arith)
    one_from (suc n) m = ap (λ xs. 0 ∷ xs) (ends n (behind v 0) (cond-false (is_met v 0) _ None (unmet v 0 l)))

-- ---- those that are wanted

filtered : (wanted : Bool → Bool) (front v : List ℤ) (places : List ℕ)
    → filter (λ p. wanted (is_met (front ++ v) p)) (map (λ i. length front + i) places)
    ≡ map (λ i. length front + i) (filter (λ p. wanted (is_met v p)) places)
filtered wanted front v [] = refl
filtered wanted front v (p ∷ places) = kept (wanted (is_met v p)) (wanted (is_met (front ++ v) (length front + p)))
    (filter (λ p. wanted (is_met (front ++ v) p)) (map (λ i. length front + i) places))
    (filter (λ p. wanted (is_met v p)) places) (ap wanted (met_behind front v p)) (filtered wanted front v places)
  where
    kept : (b c : Bool) (xs ys : List ℕ) → c ≡ b → xs ≡ map (λ i. length front + i) ys
        → cond c ((length front + p) ∷ xs) xs ≡ map (λ i. length front + i) (cond b (p ∷ ys) ys)
    kept true c xs ys e f = cond-true c ((length front + p) ∷ xs) xs e ∙ ap (λ zs. (length front + p) ∷ zs) f
    kept false c xs ys e f = cond-false c ((length front + p) ∷ xs) xs e ∙ f

-- some places, or none
abbrev pub places_where : Bool → List ℕ → List ℕ
places_where wanted places = cond wanted places []

pub where_skip : (wanted : Bool → Bool) (front v : List ℤ) → ((p : ℕ) → p < length front → shows (front ++ v) p ≡ false)
    → syncs_where wanted (front ++ v) ≡ map (λ i. length front + i) (syncs_where wanted v)
unfolding syncs_where
where_skip wanted front v h = grind (arith, all_skip, filtered)

pub where_next : (wanted : Bool → Bool) (front v : List ℤ) → shows (front ++ v) 0 ≡ true → is_met (front ++ v) 0 ≡ true
    → 0 < length front → behind (front ++ v) 0 ≡ option_map (λ i. length front + i) (least_shown v 0)
    → syncs_where wanted (front ++ v)
    ≡ places_where (wanted true) (0 ∷ []) ++ map (λ i. length front + i) (syncs_where wanted v)
unfolding syncs_where
where_next wanted front v h met some e = grind (arith, all_next, filtered)
