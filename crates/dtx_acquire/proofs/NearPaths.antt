-- What paths cost over symbols that lie near those of one: it alone costs least.
use Rattle.std.proofs.Common.{◌≡◌, ℕ, ℤ, suc, ◌+◌, ◌-◌, ◌*◌, ◌<◌, ◌≤◌, ◌-ℤ◌, ◌⊎◌, inl, inr, nat_abs, List, [], ◌∷◌}
use Rattle.std.proofs.Common.{length, map, subst, refl, arith}
use Rattle.std.proofs.lemmas.Bool.{cases_lt}
use Rattle.std.proofs.lemmas.Int.{ints}
use Rattle.dtx_soft.proofs.MovedLemmas.{distance-cons}
use Rattle.dtx_soft.specs.Paths.{cost, squared, symbol_at}

-- that each symbol lies near that of its level
abbrev pub AreNearest : ℕ → List ℤ → List ℕ → Type 0
AreNearest c [] levels = Unit {0}
AreNearest c (x ∷ xs) [] = ⊥
AreNearest c (x ∷ xs) (z ∷ levels) = (nat_abs (x -ℤ symbol_at c z) < c) × AreNearest c xs levels

further : (c y k : ℕ) (x : ℤ) → nat_abs (x -ℤ symbol_at c y) < c
    → nat_abs (x -ℤ symbol_at c y) < nat_abs (x -ℤ symbol_at c (y + suc k))
unfolding symbol_at
further c y k x h = omega (arith, ints)

nearer : (c y k : ℕ) (x : ℤ) → nat_abs (x -ℤ symbol_at c (y + suc k)) < c
    → nat_abs (x -ℤ symbol_at c (y + suc k)) < nat_abs (x -ℤ symbol_at c y)
unfolding symbol_at
nearer c y k x h = omega (arith, ints)

squares_rise : (a b : ℕ) → a < b → a * a < b * b
squares_rise a b l = grind arith

-- any other level costs more
closest : (c y z : ℕ) (x : ℤ) → nat_abs (x -ℤ symbol_at c y) < c
    → (squared x (symbol_at c y) < squared x (symbol_at c z)) ⊎ (z ≡ y)
unfolding squared
closest c y z x h = by_order (cases_lt y z) (cases_lt z y)
  where
    by_order : (y < z) ⊎ (z ≤ y) → (z < y) ⊎ (y ≤ z) → (nat_abs (x -ℤ symbol_at c y) * nat_abs (x -ℤ symbol_at c y)
        < nat_abs (x -ℤ symbol_at c z) * nat_abs (x -ℤ symbol_at c z)) ⊎ (z ≡ y)
    by_order (inl l) m =
        let e : y + suc (z - suc y) ≡ z = omega arith in
        inl (squares_rise (nat_abs (x -ℤ symbol_at c y)) (nat_abs (x -ℤ symbol_at c z))
        (subst (λ n. nat_abs (x -ℤ symbol_at c y) < nat_abs (x -ℤ symbol_at c n)) e (further c y (z - suc y) x h)))
    by_order (inr l) (inl m) =
        let e : z + suc (y - suc z) ≡ y = omega arith in
        inl (squares_rise (nat_abs (x -ℤ symbol_at c y)) (nat_abs (x -ℤ symbol_at c z)) (grind (arith, nearer)))
    by_order (inr l) (inr m) = inr (omega arith)

cost-cons : (c z : ℕ) (x : ℤ) (xs : List ℤ) (levels : List ℕ)
    → cost c (x ∷ xs) (z ∷ levels) ≡ squared x (symbol_at c z) + cost c xs levels
unfolding cost
cost-cons c z x xs levels = distance-cons x (symbol_at c z) xs (map (symbol_at c) levels)

-- no other levels cost less
costs_least : (c : ℕ) (xs : List ℤ) (levels others : List ℕ) → length levels ≡ length xs → length others ≡ length xs
    → AreNearest c xs levels → cost c xs levels ≤ cost c xs others
costs_least c [] [] [] l m h = omega arith
costs_least c [] (z ∷ levels) others l m h = absurd (omega arith)
costs_least c [] [] (y ∷ others) l m h = absurd (omega arith)
costs_least c (x ∷ xs) [] others l m h = absurd (omega arith)
costs_least c (x ∷ xs) (z ∷ levels) [] l m h = absurd (omega arith)
costs_least c (x ∷ xs) (z ∷ levels) (y ∷ others) l m h =
    let rest = costs_least c xs levels others (omega arith) (omega arith) h.1 in
    let a = cost-cons c z x xs levels in
    let b = cost-cons c y x xs others in
    by_level (closest c z y x h.0) rest a b
  where
    by_level : (squared x (symbol_at c z) < squared x (symbol_at c y)) ⊎ (y ≡ z) → cost c xs levels ≤ cost c xs others
        → cost c (x ∷ xs) (z ∷ levels) ≡ squared x (symbol_at c z) + cost c xs levels
        → cost c (x ∷ xs) (y ∷ others) ≡ squared x (symbol_at c y) + cost c xs others
        → cost c (x ∷ xs) (z ∷ levels) ≤ cost c (x ∷ xs) (y ∷ others)
    by_level (inl k) rest a b = omega (arith, k, rest, a, b)
    by_level (inr e) rest a b = grind arith

-- and those that cost no more are the same
pub costs_same : (c : ℕ) (xs : List ℤ) (levels others : List ℕ) → length levels ≡ length xs
    → length others ≡ length xs → AreNearest c xs levels → cost c xs others ≤ cost c xs levels → others ≡ levels
costs_same c [] [] [] l m h k = refl
costs_same c [] (z ∷ levels) others l m h k = absurd (omega arith)
costs_same c [] [] (y ∷ others) l m h k = absurd (omega arith)
costs_same c (x ∷ xs) [] others l m h k = absurd (omega arith)
costs_same c (x ∷ xs) (z ∷ levels) [] l m h k = absurd (omega arith)
costs_same c (x ∷ xs) (z ∷ levels) (y ∷ others) l m h k =
    let rest = costs_least c xs levels others (omega arith) (omega arith) h.1 in
    let a = cost-cons c z x xs levels in
    let b = cost-cons c y x xs others in
    by_level (closest c z y x h.0) rest a b (λ n. costs_same c xs levels others (omega arith) (omega arith) h.1 n)
  where
    by_level : (squared x (symbol_at c z) < squared x (symbol_at c y)) ⊎ (y ≡ z) → cost c xs levels ≤ cost c xs others
        → cost c (x ∷ xs) (z ∷ levels) ≡ squared x (symbol_at c z) + cost c xs levels
        → cost c (x ∷ xs) (y ∷ others) ≡ squared x (symbol_at c y) + cost c xs others
        → (cost c xs others ≤ cost c xs levels → others ≡ levels) → y ∷ others ≡ z ∷ levels
    by_level (inl n) rest a b on = absurd (omega (arith, n, rest, a, b, k))
    by_level (inr e) rest a b on = grind arith
