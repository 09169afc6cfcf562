-- Which vectors are kept, and how many.
use Rattle.std.proofs.Common.{◌≡◌, ℕ, zero, suc, ◌+◌, ◌<◌, ◌≤◌, ◌⊎◌, inl, inr, ◌==◌, ◌&&◌, not, cond, Bool, true, false}
use Rattle.std.proofs.Common.{List, [], ◌∷◌, length, get_or, set, take, replicate, refl, sym, ap, ap₂, ◌∙◌, subst}
use Rattle.std.proofs.Common.{arith}
use Rattle.std.proofs.lemmas.List.{length-take-le, get_or-set_same, get_or-set_other}
use Rattle.std.proofs.lemmas.Bool.{ne_eqb}
use Rattle.dtx_galois.specs.Field.{AreBytes}
use Rattle.dtx_laws.specs.Locator.{IsLocator, combination}
use Rattle.dtx_laws.proofs.PartsLemmas.{bytes_take}
use Rattle.dtx_correct.specs.Elimination.{Solves, count, vector, IsUnit}

pub zeros_at : (n k : ℕ) → ◌≡◌ {A = ℕ} (get_or (replicate n 0) k 0) 0
zeros_at zero k = refl
zeros_at (suc n) zero = refl
zeros_at (suc n) (suc k) = zeros_at n k

pub bytes_set : (xs : List ℕ) (i x : ℕ) → AreBytes xs → x < 256 → AreBytes (set xs i x)
bytes_set [] i x b l = tt
bytes_set (y ∷ ys) zero x b l = (l, b.1)
bytes_set (y ∷ ys) (suc i) x b l = (b.0, bytes_set ys i x b.1 l)

pub count_none : (keep : ℕ → Bool) (w : ℕ) → ((j : ℕ) → j < w → keep j ≡ false) → count keep w ≡ 0
unfolding count
count_none keep zero h = refl
count_none keep (suc w) h =
    ap₂ (λ (u : Bool) (n : ℕ). cond u 1 0 + n) (h w (omega arith)) (count_none keep w (λ j l. h j (omega arith)))

pub count_all : (keep : ℕ → Bool) (w : ℕ) → ((j : ℕ) → j < w → keep j ≡ true) → count keep w ≡ w
unfolding count
count_all keep zero h = refl
count_all keep (suc w) h =
    ap₂ (λ (u : Bool) (n : ℕ). cond u 1 0 + n) (h w (omega arith)) (count_all keep w (λ j l. h j (omega arith)))
    ∙ one_more w
  where
    one_more : (w : ℕ) → 1 + w ≡ suc w
    one_more w = omega arith

count_same : (a b : ℕ → Bool) (w : ℕ) → ((j : ℕ) → j < w → a j ≡ b j) → count a w ≡ count b w
unfolding count
count_same a b zero h = refl
count_same a b (suc w) h =
    ap₂ (λ (u : Bool) (n : ℕ). cond u 1 0 + n) (h w (omega arith)) (count_same a b w (λ j l. h j (omega arith)))

one_at_most : (u : Bool) → cond u 1 0 ≤ 1
one_at_most true = omega arith
one_at_most false = omega arith

cond_same : (u v : Bool) → u ≡ v → ◌≡◌ {A = ℕ} (cond u 1 0) (cond v 1 0)
cond_same u v e = ap {B = ℕ} (λ z. cond z 1 0) e

same_or_not : (p w : ℕ) → (w ≡ p) ⊎ (w ≡ p → ⊥)
same_or_not p w = grind arith

count_step : (a b : ℕ → Bool) (p w : ℕ) → (w ≡ p) ⊎ (w ≡ p → ⊥) → ((j : ℕ) → j < suc w → (j ≡ p → ⊥) → a j ≡ b j)
    → count a w ≤ count b w + 1 → cond (a w) 1 0 + count a w ≤ cond (b w) 1 0 + count b w + 1
count_step a b p w (inl e) h i = grind (arith, one_at_most, count_same)
count_step a b p w (inr d) h i = omega (arith, i, cond_same (a w) (b w) (h w (omega arith) d))

-- where only p may be given up, one at most is
pub count_less : (a b : ℕ → Bool) (p w : ℕ) → ((j : ℕ) → j < w → (j ≡ p → ⊥) → a j ≡ b j) → count a w ≤ count b w + 1
unfolding count
count_less a b p zero h = omega arith
count_less a b p (suc w) h = count_step a b p w (same_or_not p w) h (count_less a b p w (λ j l d. h j (omega arith) d))

pub solves_same : (w e : ℕ) (s : ℕ → ℕ) (a b : ℕ → Bool) (v u : ℕ → List ℕ) → Solves w e s a v
    → ((k : ℕ) → k < w → b k ≡ true → a k ≡ true) → ((k : ℕ) → k < w → u k ≡ v k) → Solves w e s b u
solves_same w e s a b v u h f g = record {
  long = λ k l. ap length (g k l) ∙ h.long k l;
  bytes = λ k l. subst AreBytes (sym (g k l)) (h.bytes k l);
  own = λ k l t. ap (λ xs. get_or xs k 0) (g k l) ∙ h.own k l (f k l t);
  apart = λ k j l m t r d. ap (λ xs. get_or xs j 0) (g k l) ∙ h.apart k j l m (f k l t) (f j m r) d;
  annuls = λ k i l t m. ap (λ xs. combination xs s i) (g k l) ∙ h.annuls k i l (f k l t) m;
}

-- after place p is set to false
cases_same : (kept : List Bool) (p k : ℕ) → p < length kept → (k ≡ p) ⊎ (k ≡ p → ⊥)
    → get_or (set kept p false) k false ≡ true → (get_or kept k false && not (k == p)) ≡ true
cases_same kept p k l (inl e) t = grind (arith, get_or-set_same)
cases_same kept p k l (inr d) t = grind (arith, get_or-set_other, ne_eqb)

pub kept_before : (kept : List Bool) (p k : ℕ) → p < length kept → get_or (set kept p false) k false ≡ true
    → (get_or kept k false && not (k == p)) ≡ true
kept_before kept p k l t = cases_same kept p k l (same_or_not p k) t

pub unit_solves : (w : ℕ) (s : ℕ → ℕ) (a : ℕ → Bool) (v : ℕ → List ℕ) → ((k : ℕ) → k < w → length (v k) ≡ w)
    → ((k : ℕ) → k < w → AreBytes (v k)) → ((k : ℕ) → k < w → get_or (v k) k 0 ≡ 1)
    → ((k j : ℕ) → k < w → j < w → (k ≡ j → ⊥) → get_or (v k) j 0 ≡ 0) → Solves w 0 s a v
unit_solves w s a v l b o z = record {
  long = l;
  bytes = b;
  own = λ k m t. o k m;
  apart = λ k j m n t u d. z k j m n d;
  annuls = λ k i m t n. absurd (none i n);
}
  where
    none : (i : ℕ) → i < 0 → ⊥
    none i n = omega arith

-- ---- unit vectors

-- what holds of each row below i, after row i is written
pub rows_more : (P : ℕ → List ℕ → Type 0) (xs : List (List ℕ)) (i : ℕ) (x : List ℕ) → i < length xs
    → ((k : ℕ) → k < i → P k (get_or xs k [])) → P i x → (k : ℕ) → k < i + 1 → P k (get_or (set xs i x) k [])
rows_more P xs i x l h q k m = elim (last_or_below i k m) [
  | inl e ↦
      subst (λ (j : ℕ). P j (get_or (set xs i x) j [])) (sym e) (subst (P i) (sym (get_or-set_same xs i x [] l)) q)
  | inr r ↦ subst (P k) (sym (get_or-set_other xs i k x [] (λ s. below_not i k r s))) (h k r)
]
  where
    last_or_below : (i k : ℕ) → k < i + 1 → (k ≡ i) ⊎ (k < i)
    last_or_below i k m = grind arith

    below_not : (i k : ℕ) → k < i → k ≡ i → ⊥
    below_not i k r s = omega arith

get_take : (w : ℕ) (xs : List ℕ) (j : ℕ) → j < w → get_or (take w xs) j 0 ≡ get_or xs j 0
get_take zero xs j l = absurd (omega arith)
get_take (suc w) [] j l = refl
get_take (suc w) (x ∷ xs) zero l = refl
get_take (suc w) (x ∷ xs) (suc j) l = get_take w xs j (omega arith)

pub units_solve : (w : ℕ) (s : ℕ → ℕ) (a : ℕ → Bool) (vectors : List (List ℕ)) → w ≤ 128
    → ((k : ℕ) → k < w → IsUnit k (get_or vectors k [])) → Solves w 0 s a (vector w vectors)
units_solve w s a vectors m h = unit_solves w s a (vector w vectors)
    (λ k l. length-take-le w (get_or vectors k []) (omega (arith, (h k l).long)))
    (λ k l. bytes_take w (get_or vectors k []) (h k l).bytes)
    (λ k l. get_take w (get_or vectors k []) k l ∙ (h k l).own)
    (λ k j l n d. get_take w (get_or vectors k []) j n ∙ (h k l).others j (λ e. d (sym e)))

-- a kept vector of t + 1 entries that solves t equations is a locator
pub kept_locator : (t e k : ℕ) (s : ℕ → ℕ) (keep : ℕ → Bool) (v : ℕ → List ℕ) → Solves (t + 1) e s keep v → t ≤ e
    → k < t + 1 → keep k ≡ true → IsLocator t s (v k)
kept_locator t e k s keep v h m l u = grind arith
