-- Places, syncs and fields of symbols behind others.
use Rattle.std.proofs.Common.{◌≡◌, ℕ, ℤ, pos, zero, suc, ◌+◌, ◌-◌, ◌<◌, ◌≤◌, Bool, true, false, cond, leb, Option, Some}
use Rattle.std.proofs.Common.{None, option_map, List, ◌∷◌, ◌++◌, length, map, get_or, refl, ap, ◌∙◌, arith}
use Rattle.std.proofs.Common.{length-append}
use Rattle.std.proofs.lemmas.Bool.{cond-true, cond-false, cases_lt, le-leb, leb-true, lt-leb}
use Rattle.std.proofs.lemmas.List.{get_or-append_right}
use Rattle.dtx_lists.proofs.Range.{map-range_same}
use Rattle.dtx_acquire.specs.Agreement.{agrees, least_from, unlike, unlike_at}
use Rattle.dtx_acquire.specs.Acquired.{Sync, begun_at, behind, due, is_met, syncs_from}
use Rattle.dtx_acquire.proofs.PlacesLemmas.{least_behind, least_gives}

-- ---- agreement

pub symbol_behind : (front v : List ℤ) (p : ℕ) → get_or (front ++ v) (length front + p) (pos 0) ≡ get_or v p (pos 0)
symbol_behind front v p = grind (arith, get_or-append_right)

unlike_at_behind : (front v : List ℤ) (p i : ℕ) → unlike_at (front ++ v) (length front + p) i ≡ unlike_at v p i
unfolding unlike_at
unlike_at_behind front v p i = grind (arith, symbol_behind)

pub unlike_behind : (front v : List ℤ) (p i n : ℕ) → unlike (front ++ v) (length front + p) i n ≡ unlike v p i n
unfolding unlike
unlike_behind front v p i n = grind (arith, map-range_same, unlike_at_behind)

pub order_behind : (k p x n m : ℕ) → m ≡ k + n → leb (k + p + x) m ≡ leb (p + x) n
order_behind k p x n m e = grind (arith, cases_lt, lt-leb, le-leb)

pub agrees_behind : (front v : List ℤ) (p : ℕ) → agrees (front ++ v) (length front + p) ≡ agrees v p
unfolding agrees
agrees_behind front v p = grind (arith, order_behind, length-append, unlike_behind)

pub met_behind : (front v : List ℤ) (p : ℕ) → is_met (front ++ v) (length front + p) ≡ is_met v p
unfolding is_met
met_behind front v p = grind (arith, order_behind, length-append)

pub least_from_behind : (front v : List ℤ) (p : ℕ)
    → least_from (front ++ v) (length front + p) ≡ option_map (λ i. length front + i) (least_from v p)
least_from_behind front v p = least_behind agrees front v p (agrees_behind front v)

-- ---- syncs

-- a sync so many symbols later
abbrev pub later_by : ℕ → Sync → Sync
later_by k sync = record { place = k + sync.place; begins = sync.begins }

abbrev pub sync_of : Bool → ℕ → Sync
sync_of begins place = record { place = place; begins = begins }

pub begun_later : (k : ℕ) (o : Option ℕ) → begun_at (option_map (λ i. k + i) o) ≡ option_map (later_by k) (begun_at o)
begun_later k None = refl
begun_later k (Some p) = refl

behind_behind : (front v : List ℤ) (p : ℕ)
    → behind (front ++ v) (length front + p) ≡ option_map (later_by (length front)) (behind v p)
unfolding behind
behind_behind front v p =
    let there : length front + p + 260416 ≡ length front + (p + 260416) = omega arith in
    let next : length front + p + 1 ≡ length front + (p + 1) = omega arith in
    pushed (is_met v p) (is_met (front ++ v) (length front + p)) (agrees v (due p))
    (agrees (front ++ v) (due (length front + p))) (Some (sync_of false (due p)))
    (Some (sync_of false (due (length front + p)))) (least_from v (p + 1))
    (least_from (front ++ v) (length front + p + 1)) (met_behind front v p)
    (ap (agrees (front ++ v)) there ∙ agrees_behind front v (p + 260416)) (ap (λ k. Some (sync_of false k)) there)
    (ap (least_from (front ++ v)) next ∙ least_from_behind front v (p + 1))
  where
    pushed : (m m1 g g1 : Bool) (s s1 : Option Sync) (l l1 : Option ℕ) → m1 ≡ m → g1 ≡ g
        → s1 ≡ option_map (later_by (length front)) s → l1 ≡ option_map (λ i. length front + i) l
        → cond m1 (cond g1 s1 (begun_at l1)) None
        ≡ option_map (later_by (length front)) (cond m (cond g s (begun_at l)) None)
    pushed true m1 true g1 s s1 l l1 e f h i =
        cond-true m1 (cond g1 s1 (begun_at l1)) None e ∙ cond-true g1 s1 (begun_at l1) f ∙ h
    pushed true m1 false g1 s s1 l l1 e f h i = grind (arith, cond-true, cond-false, begun_later)
    pushed false m1 g g1 s s1 l l1 e f h i = cond-false m1 (cond g1 s1 (begun_at l1)) None e

pub syncs_behind : (front v : List ℤ) (n : ℕ) (o : Option Sync)
    → syncs_from (front ++ v) n (option_map (later_by (length front)) o)
    ≡ map (later_by (length front)) (syncs_from v n o)
unfolding syncs_from
syncs_behind front v zero o = refl
syncs_behind front v (suc n) None = refl
syncs_behind front v (suc n) (Some s) = ap (λ xs. later_by (length front) s ∷ xs)
    (ap (syncs_from (front ++ v) n) (behind_behind front v s.place) ∙ syncs_behind front v n (behind v s.place))

-- each sync is behind the one before
pub later : (v : List ℤ) (p : ℕ) (s : Sync) → behind v p ≡ Some s → (p < s.place) × (s.place < length v)
unfolding behind is_met
later v p s e = grind (arith, least_gives, leb-true)

-- that there are enough steps for all
abbrev pub IsEnough : List ℤ → ℕ → Option Sync → Type 0
IsEnough v n o = (s : Sync) → o ≡ Some s → (s.place < length v) × (length v ≤ n + s.place)

pub syncs_enough : (v : List ℤ) (n m : ℕ) (o : Option Sync) → IsEnough v n o → IsEnough v m o
    → syncs_from v n o ≡ syncs_from v m o
unfolding syncs_from
syncs_enough v zero zero o h k = refl
syncs_enough v zero (suc m) None h k = refl
syncs_enough v zero (suc m) (Some s) h k = absurd (let w = h s refl in omega (arith, w.0, w.1))
syncs_enough v (suc n) zero None h k = refl
syncs_enough v (suc n) zero (Some s) h k = absurd (let w = k s refl in omega (arith, w.0, w.1))
syncs_enough v (suc n) (suc m) None h k = refl
syncs_enough v (suc n) (suc m) (Some s) h k = ap (λ xs. s ∷ xs) (syncs_enough v n m (behind v s.place)
    (λ t e. (let w = later v s.place t e in let a = h s refl in (w.1, omega (arith, w.0, a.1))))
    (λ t e. (let w = later v s.place t e in let a = k s refl in (w.1, omega (arith, w.0, a.1)))))
