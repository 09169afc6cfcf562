-- A list that is two others, one behind the other, by its elements.
use Rattle.std.proofs.Common.{◌≡◌, ℕ, ◌+◌, ◌-◌, ◌<◌, ◌≤◌, ◌⊎◌, List, ◌++◌, length, get_or, sym, ◌∙◌, subst, arith, inl}
use Rattle.std.proofs.Common.{inr}
use Rattle.std.proofs.lemmas.Bool.{cases_lt}
use Rattle.std.proofs.lemmas.List.{ext_get_or, get_or_append_left, get_or-append_right, length-append}

pub append_from_parts : {A : Type 0} (d : A) (xs ys zs : List A) (m n : ℕ) → length xs ≡ m + n → length ys ≡ m
    → length zs ≡ n
    → ((k : ℕ) → k < m → get_or xs k d ≡ get_or ys k d) → ((k : ℕ) → k < n → get_or xs (m + k) d ≡ get_or zs k d)
    → xs ≡ ys ++ zs
append_from_parts d xs ys zs m n long first second f g = ext_get_or d xs (ys ++ zs) (grind (arith, length-append))
    (λ k l. let l2 : k < m + n = subst (λ (x : ℕ). k < x) long l in by_cases k l2 (cases_lt k m))
  where
    back : (k : ℕ) → m ≤ k → m + (k - m) ≡ k
    back k l = omega arith

    by_cases : (k : ℕ) → k < m + n → (k < m) ⊎ (m ≤ k) → get_or xs k d ≡ get_or (ys ++ zs) k d
    by_cases k l (inl below) = f k below ∙ sym (get_or_append_left ys zs d k (omega arith))
    by_cases k l (inr above) = grind (arith, get_or-append_right)
