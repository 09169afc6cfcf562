-- Marked places, and how many there are.
use Rattle.std.proofs.Common.{◌≡◌, ℕ, zero, suc, ◌+◌, ◌<◌, ◌≤◌, ◌⊎◌, inl, inr, ◌==◌, ◌&&◌, ◌||◌, not, cond, Bool, true}
use Rattle.std.proofs.Common.{false, List, [], ◌∷◌, length, get_or, take, add-one, refl, sym, ap, ap₂, ◌∙◌, subst₂}
use Rattle.std.proofs.Common.{arith}
use Rattle.std.proofs.lemmas.Bool.{ne_eqb, eq-eqb, eqb-true}
use Rattle.std.proofs.lemmas.List.{take_all}
use Rattle.dtx_laws.specs.Locator.{is_marked, power_at, others}
use Rattle.dtx_erase.specs.Mending.{lost}

pub length_chosen : (u : Bool) (x : ℕ) (xs : List ℕ) → length (cond u (x ∷ xs) xs) ≡ cond u 1 0 + length xs
length_chosen true x xs = omega arith
length_chosen false x xs = omega arith

-- ---- how many there are

lost_more : (marks : List Bool) (q : ℕ) → q < length marks
    → lost (take (suc q) marks) ≡ cond (get_or marks q false) 1 0 + lost (take q marks)
lost_more [] q l = absurd (omega arith)
lost_more (m ∷ marks) zero l = refl
lost_more (m ∷ marks) (suc q) l = omega (arith, lost_more marks q (omega arith))

-- place n is none of them
none_left_out : (n q : ℕ) (u : Bool) → q < n → (u && not (q == n)) ≡ u
none_left_out n q true l = ap not (ne_eqb q n (λ e. omega arith))
none_left_out n q false l = refl

length_before : (n q : ℕ) (marks : List Bool) → length marks ≡ n → q ≤ n
    → length (others n (is_marked marks) n q) ≡ lost (take q marks)
unfolding others
length_before n zero marks e l = refl
length_before n (suc q) marks e l =
    ap (λ u. length (cond u (power_at n q ∷ others n (is_marked marks) n q) (others n (is_marked marks) n q)))
    (grind (arith, none_left_out)) ∙ length_chosen (is_marked marks q) (power_at n q) (others n (is_marked marks) n q)
    ∙ ap (λ (j : ℕ). cond (is_marked marks q) 1 0 + j) (length_before n q marks e (omega arith))
    ∙ sym (lost_more marks q (omega arith))

-- as many powers as places are marked
pub length_marked : (n : ℕ) (marks : List Bool) → length marks ≡ n
    → length (others n (is_marked marks) n n) ≡ lost marks
length_marked n marks e = length_before n n marks e (omega arith) ∙ ap lost (take_all n marks (omega (arith, e)))

-- ---- of two kinds

chosen_either : (a b v : Bool) (x : ℕ) (xs ys zs : List ℕ) → length xs ≤ length ys + length zs
    → length (cond ((a || b) && v) (x ∷ xs) xs)
    ≤ length (cond (a && v) (x ∷ ys) ys) + length (cond (b && v) (x ∷ zs) zs)
chosen_either true true true x xs ys zs l = omega arith
chosen_either true true false x xs ys zs l = l
chosen_either true false true x xs ys zs l = omega arith
chosen_either true false false x xs ys zs l = l
chosen_either false true true x xs ys zs l = omega arith
chosen_either false true false x xs ys zs l = l
chosen_either false false true x xs ys zs l = l
chosen_either false false false x xs ys zs l = l

pub others_either : (n p q : ℕ) (a b : ℕ → Bool)
    → length (others n (λ j. a j || b j) p q) ≤ length (others n a p q) + length (others n b p q)
unfolding others
others_either n p zero a b = omega arith
others_either n p (suc q) a b =
    chosen_either (a q) (b q) (not (q == p)) (power_at n q) (others n (λ j. a j || b j) p q) (others n a p q)
    (others n b p q) (others_either n p q a b)

-- ---- with a place and without it

pub not_last : (n q : ℕ) → q < n → not (q == n) ≡ true
not_last n q l = none_left_out n q true l

-- with one place more
pub others_by : (n q : ℕ) (mark : ℕ → Bool) (u : Bool) → q < n → mark q ≡ u
    → others n mark n (q + 1) ≡ cond u (power_at n q ∷ others n mark n q) (others n mark n q)
unfolding others
others_by n q mark u l t = grind (arith, add-one, not_last)

-- before a place it makes no difference
others_past : (n p q : ℕ) (mark : ℕ → Bool) → p < n → q ≤ p → others n mark p q ≡ others n mark n q
unfolding others
others_past n p zero mark m l = refl
others_past n p (suc q) mark m l = ap₂ (λ (u : Bool) (ys : List ℕ). cond (mark q && u) (power_at n q ∷ ys) ys)
    (ap not (ne_eqb q p (λ e. omega arith)) ∙ sym (not_last n q (omega arith))) (others_past n p q mark m (omega arith))

-- a marked place's power is one of them, whatever the order: R tells a list from another order of it
pub others_with : (R : List ℕ → List ℕ → Type 0) → ((ys : List ℕ) → R ys ys)
    → ((x y : ℕ) (ys zs : List ℕ) → R ys (x ∷ zs) → R (y ∷ ys) (x ∷ y ∷ zs))
    → (n p q : ℕ) (mark : ℕ → Bool) → q ≤ n → p < q → mark p ≡ true
    → R (others n mark n q) (power_at n p ∷ others n mark p q)
unfolding others
others_with R same moved n p zero mark l m t = absurd (omega arith)
others_with R same moved n p (suc q) mark l m t =
    by_place (place_order p q m) (λ r. others_with R same moved n p q mark (omega arith) r t)
  where
    place_order : (p q : ℕ) → p < suc q → (p ≡ q) ⊎ (p < q)
    place_order p q m = grind arith

    by_itself : (u v : Bool) → v ≡ true → (u && v) ≡ u
    by_itself true v e = e
    by_itself false v e = refl

    left_out : (v : Bool) → q ≡ p → (v && not (q == p)) ≡ false
    left_out true e = ap not (eq-eqb q p e)
    left_out false e = refl

    by_mark : (u : Bool) → R (others n mark n q) (power_at n p ∷ others n mark p q)
        → R (cond u (power_at n q ∷ others n mark n q) (others n mark n q))
        (power_at n p ∷ cond u (power_at n q ∷ others n mark p q) (others n mark p q))
    by_mark true h = moved (power_at n p) (power_at n q) (others n mark n q) (others n mark p q) h
    by_mark false h = h

    by_place : (p ≡ q) ⊎ (p < q) → (p < q → R (others n mark n q) (power_at n p ∷ others n mark p q))
        → R (cond (mark q && not (q == n)) (power_at n q ∷ others n mark n q) (others n mark n q))
        (power_at n p ∷ cond (mark q && not (q == p)) (power_at n q ∷ others n mark p q) (others n mark p q))
    by_place (inl e) rest = subst₂ R
        (ap₂ (λ (x : ℕ) (ys : List ℕ). x ∷ ys) (ap (power_at n) e) (others_past n p q mark (omega arith) (omega arith))
        ∙ sym (ap (λ u. cond u (power_at n q ∷ others n mark n q) (others n mark n q))
        (ap₂ ◌&&◌ (ap mark (sym e) ∙ t) (not_last n q (omega arith)))))
        (ap (λ u. power_at n p ∷ cond u (power_at n q ∷ others n mark p q) (others n mark p q))
        (sym (left_out (mark q) (sym e)))) (same (power_at n p ∷ others n mark p q))
    by_place (inr r) rest = subst₂ R (ap (λ u. cond u (power_at n q ∷ others n mark n q) (others n mark n q))
        (sym (by_itself (mark q) (not (q == n)) (not_last n q (omega arith)))))
        (ap (λ u. power_at n p ∷ cond u (power_at n q ∷ others n mark p q) (others n mark p q))
        (sym (by_itself (mark q) (not (q == p)) (ap not (ne_eqb q p (λ e. omega arith)))))) (by_mark (mark q) (rest r))

pub length_with : (n p : ℕ) (mark : ℕ → Bool) → p < n → mark p ≡ true
    → length (others n mark n n) ≡ suc (length (others n mark p n))
length_with n p mark m t =
    others_with (λ ys zs. length ys ≡ length zs) (λ ys. refl) (λ x y ys zs h. ap suc h) n p n mark (omega arith) m t

-- an unmarked place is none of them
pub others_all : (n p q : ℕ) (mark : ℕ → Bool) → q ≤ n → mark p ≡ false → others n mark p q ≡ others n mark n q
unfolding others
others_all n p zero mark l t = refl
others_all n p (suc q) mark l t = ap₂ (λ (u : Bool) (ys : List ℕ). cond u (power_at n q ∷ ys) ys)
    (same (q == p) refl) (others_all n p q mark (omega arith) t)
  where
    same : (u : Bool) → (q == p) ≡ u → (mark q && not (q == p)) ≡ (mark q && not (q == n))
    same true e = grind (arith, eqb-true)
    same false e = ap (λ v. mark q && not v) e ∙ sym (ap (λ v. mark q && v) (not_last n q (omega arith)))
