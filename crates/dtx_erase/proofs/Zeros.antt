-- The search for the places at which a recurrence vanishes, which ends when as many are found as its order says.
use Rattle.std.proofs.Common.{◌≡◌, ℕ, zero, suc, ◌+◌, ◌-◌, ◌<◌, ◌≤◌, ◌==◌, ◌&&◌, ◌||◌, not, cond, Bool, true, false}
use Rattle.std.proofs.Common.{List, length, set, refl, ap, ◌∙◌, subst, arith}
use Rattle.std.proofs.lemmas.Bool.{eqb-true, eqb-false}
use Rattle.std.proofs.lemmas.List.{get_or-set_same, get_or-set_other}
use Rattle.dtx_laws.specs.Locator.{others, is_marked, power_at}
use Rattle.dtx_erase.proofs.Marked.{others_by, length_chosen}

length_by : (n q : ℕ) (mark : ℕ → Bool) → q < n
    → length (others n mark n (q + 1)) ≡ cond (mark q) 1 0 + length (others n mark n q)
length_by n q mark l =
    ap length (others_by n q mark (mark q) l refl) ∙ length_chosen (mark q) (power_at n q) (others n mark n q)

longer : (n q d : ℕ) (mark : ℕ → Bool) → q + d ≤ n → length (others n mark n q) ≤ length (others n mark n (q + d))
longer n q zero mark l = grind arith
longer n q (suc d) mark l = omega (
  arith,
  longer n q d mark (omega arith),
  length_by n (q + d) mark (omega arith),
  ap (λ j. length (others n mark n j)) (next q d),
)
  where
    next : (q d : ℕ) → q + suc d ≡ q + d + 1
    next q d = omega arith

-- where none are left, none is found
pub none_missed : (n q l left : ℕ) (mark : ℕ → Bool) → q < n → left + length (others n mark n q) ≡ l
    → length (others n mark n n) ≤ l → (not (left == 0) && mark q) ≡ mark q
none_missed n q l left mark m e few = by_cases (left == 0) (mark q) refl refl
  where
    whole : length (others n mark n (q + 1)) ≤ length (others n mark n n)
    whole = subst (λ j. length (others n mark n (q + 1)) ≤ length (others n mark n j)) (omega arith)
        (longer n (q + 1) (n - (q + 1)) mark (omega arith))

    by_cases : (u v : Bool) → (left == 0) ≡ u → mark q ≡ v → (not (left == 0) && mark q) ≡ mark q
    by_cases true true t h =
        absurd (omega (arith, eqb-true left 0 t, whole, length_by n q mark m, ap (λ w. cond {A = ℕ} w 1 0) h))
    by_cases true false t h = grind arith
    by_cases false v t h = ap (λ w. not w && mark q) t

-- one place more
pub one_more : (f : ℕ → Bool) (all : List Bool) (q : ℕ) (x : Bool) → q < length all → x ≡ f q
    → ((p : ℕ) → p < q → is_marked all p ≡ f p) → (p : ℕ) → p < q + 1 → is_marked (set all q x) p ≡ f p
one_more f all q x l e h p m = grind (arith, get_or-set_same, get_or-set_other)

pub left_over : (n q l left next : ℕ) (mark : ℕ → Bool) (u : Bool) → q < n → u ≡ mark q
    → next ≡ left - cond u 1 0 → (u ≡ true → 0 < left)
    → left + length (others n mark n q) ≡ l → next + length (others n mark n (q + 1)) ≡ l
left_over n q l left next mark true m e s p h = grind (arith, length_by)
left_over n q l left next mark false m e s p h =
    omega (arith, s, h, length_by n q mark m, ap (λ w. cond {A = ℕ} w 1 0) e)

-- what is found was left
pub some_left : (left : ℕ) (v u : Bool) → u ≡ (not (left == 0) && v) → u ≡ true → 0 < left
some_left left v u e t = grind (arith, eqb-false)

pub itself : (m v : Bool) → m ≡ true → m ≡ (m || v)
itself true v e = refl
itself false v e = cc
