-- What holds of each entry, one write further.
use Rattle.std.proofs.Common.{ℕ, zero, suc, ◌+◌, ◌<◌, ◌≤◌, ◌≢◌, inl, inr, List, length, get_or, slice_set, sym, subst}
use Rattle.std.proofs.Common.{arith}
use Rattle.std.proofs.lemmas.Bool.{cases_eq}
use Rattle.std.proofs.lemmas.List.{get_or-set_same, get_or-set_other}

-- at one entry
pub by_entry : {A : Type 0} (P : ℕ → A → Type 0) (xs : List A) (n : ℕ) (x : A) → n < length xs → P n x
    → (k : ℕ) (d : A) → (k ≢ n → P k (get_or xs k d)) → P k (get_or (slice_set xs n x) k d)
by_entry P xs n x l p k d f = elim (cases_eq k n) [
  | inl e ↦ subst (λ i. P i (get_or (slice_set xs n x) i d)) (sym e) (subst (P n) (sym (get_or-set_same xs n x d l)) p)
  | inr e ↦ subst (P k) (sym (get_or-set_other xs n k x d e)) (f e)
]

-- upwards
pub written_below : {A : Type 0} (P : ℕ → A → Type 0) (xs : List A) (n : ℕ) (x : A) → n < length xs
    → ((k : ℕ) (d : A) → k < n → P k (get_or xs k d)) → P n x
    → (k : ℕ) (d : A) → k < n + 1 → P k (get_or (slice_set xs n x) k d)
written_below P xs n x l f p k d h = by_entry P xs n x l p k d (λ e. f k d (omega arith))

-- downwards
pub written_above : {A : Type 0} (P : ℕ → A → Type 0) (xs : List A) (n : ℕ) (x : A) → n < length xs
    → ((k : ℕ) (d : A) → n < k → P k (get_or xs k d)) → P n x
    → (k : ℕ) (d : A) → n ≤ k → P k (get_or (slice_set xs n x) k d)
written_above P xs n x l f p k d h = by_entry P xs n x l p k d (λ e. f k d (omega arith))

-- each of four
pub four : (P : ℕ → Type 0) → P 0 → P 1 → P 2 → P 3 → (k : ℕ) → k < 4 → P k
four P a b c d zero l = a
four P a b c d (suc zero) l = b
four P a b c d (suc (suc zero)) l = c
four P a b c d (suc (suc (suc zero))) l = d
four P a b c d (suc (suc (suc (suc k)))) l = absurd (omega arith)
