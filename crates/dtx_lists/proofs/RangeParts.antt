-- A list over a range in two parts, of which the second is counted anew.
use Rattle.std.proofs.Common.{◌≡◌, ℕ, ◌+◌, ◌-◌, ◌<◌, ◌≤◌, ◌⊎◌, ◌++◌, map, length, get_or, sym, ap₂, ◌∙◌, subst, arith}
use Rattle.std.proofs.Common.{inl, inr}
use Rattle.std.specs.List.{range_with_len}
use Rattle.std.proofs.lemmas.Bool.{cases_lt}
use Rattle.std.proofs.lemmas.List.{ext_get_or, get_or_append_left, get_or-append_right, length-append}
use Rattle.std.proofs.lemmas.List.FromFn.{get_or-map-range_with_len, length-map-range_with_len}

pub map-range_parts : (f g : ℕ → ℕ) (m n : ℕ) → ((k : ℕ) → k < n → f (m + k) ≡ g k)
    → map f (range_with_len 0 (m + n)) ≡ map f (range_with_len 0 m) ++ map g (range_with_len 0 n)
map-range_parts f g m n h =
    let whole : length (map f (range_with_len 0 (m + n))) ≡ m + n = length-map-range_with_len f 0 (m + n) in
    let first : length (map f (range_with_len 0 m)) ≡ m = length-map-range_with_len f 0 m in
    let second : length (map g (range_with_len 0 n)) ≡ n = length-map-range_with_len g 0 n in
    ext_get_or 0 (map f (range_with_len 0 (m + n))) (map f (range_with_len 0 m) ++ map g (range_with_len 0 n))
    (whole ∙ sym (length-append (map f (range_with_len 0 m)) (map g (range_with_len 0 n))
    ∙ ap₂ (λ (x y : ℕ). x + y) first second))
    (λ k l. let l2 : k < m + n = subst (λ (x : ℕ). k < x) whole l in by_cases k l2 (cases_lt k m))
  where
    back : (k : ℕ) → m ≤ k → m + (k - m) ≡ k
    back k l = omega arith

    by_cases : (k : ℕ) → k < m + n → (k < m) ⊎ (m ≤ k) → get_or (map f (range_with_len 0 (m + n))) k 0
        ≡ get_or (map f (range_with_len 0 m) ++ map g (range_with_len 0 n)) k 0
    by_cases k l (inl below) = grind (arith, get_or-map-range_with_len, get_or_append_left, length-map-range_with_len)
    by_cases k l (inr above) = grind (arith, get_or-map-range_with_len, get_or-append_right, length-map-range_with_len)
