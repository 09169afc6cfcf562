-- What the function of least paths gives, and that there is one least path.
use Rattle.std.proofs.Common.{◌≡◌, ℕ, zero, suc, ℤ, ◌+◌, ◌*◌, ◌/◌, ◌<◌, ◌≤◌, ◌⊎◌, inl, inr, Bool, true, false, cond}
use Rattle.std.proofs.Common.{Some, List, [], ◌∷◌, ◌++◌, length, map, drop, unwrap_or, refl, get_or, sym, ap, ap₂, ◌∙◌}
use Rattle.std.proofs.Common.{subst, arith}
use Rattle.std.proofs.lemmas.Bool.{cases_lt, le-leb, leb-true, true≢false, and_parts, and_from}
use Rattle.std.specs.List.{range_with_len, flat_map, list_all, find, AllByRecursion}
use Rattle.dtx_lists.proofs.Range.{range_cases}
use Rattle.dtx_soft.specs.Paths.{IsPath, cost, next_state}
use Rattle.dtx_soft.specs.Least.{AreInOrder, IsLeast, all_paths, costs_least, first_least, least_path, paths_from}

-- ---- elements of a list of lists

abbrev pub IsIn : List ℕ → List (List ℕ) → Type 0
IsIn x [] = ⊥
IsIn x (y ∷ ys) = (x ≡ y) ⊎ IsIn x ys

in_left : (x : List ℕ) (ys zs : List (List ℕ)) → IsIn x ys → IsIn x (ys ++ zs)
in_left x [] zs h = absurd h
in_left x (y ∷ ys) zs (inl e) = inl e
in_left x (y ∷ ys) zs (inr h) = inr (in_left x ys zs h)

in_right : (x : List ℕ) (ys zs : List (List ℕ)) → IsIn x zs → IsIn x (ys ++ zs)
in_right x [] zs h = h
in_right x (y ∷ ys) zs h = inr (in_right x ys zs h)

in_map : (z : ℕ) (x : List ℕ) (ys : List (List ℕ)) → IsIn x ys → IsIn (z ∷ x) (map (λ y. z ∷ y) ys)
in_map z x [] h = absurd h
in_map z x (y ∷ ys) (inl e) = inl (ap (λ y. z ∷ y) e)
in_map z x (y ∷ ys) (inr h) = inr (in_map z x ys h)

-- a list of the part of some number of a range
in_flat : (f : ℕ → List (List ℕ)) (x : List ℕ) (b a n : ℕ) → a ≤ b → b < a + n → IsIn x (f b)
    → IsIn x (flat_map f (range_with_len a n))
in_flat f x b a zero l m h = absurd (omega arith)
in_flat f x b a (suc n) l m h = by_place (range_cases a b l) (λ p. in_flat f x b (a + 1) n p (omega arith) h)
  where
    by_place : (a ≡ b) ⊎ (a + 1 ≤ b) → (a + 1 ≤ b → IsIn x (flat_map f (range_with_len (a + 1) n)))
        → IsIn x (f a ++ flat_map f (range_with_len (a + 1) n))
    by_place (inl e) behind = grind (arith, in_left)
    by_place (inr p) behind = in_right x (f a) (flat_map f (range_with_len (a + 1) n)) (behind p)

pub all_at : (P : List ℕ → Type 0) (xs : List (List ℕ)) (x : List ℕ) → AllByRecursion P xs → IsIn x xs → P x
all_at P [] x h i = absurd i
all_at P (y ∷ ys) x h (inl e) = subst (λ z. P z) (sym e) h.0
all_at P (y ∷ ys) x h (inr i) = all_at P ys x h.1 i

all_append : (P : List ℕ → Type 0) (xs ys : List (List ℕ)) → AllByRecursion P xs → AllByRecursion P ys
    → AllByRecursion P (xs ++ ys)
all_append P [] ys h k = k
all_append P (x ∷ xs) ys h k = (h.0, all_append P xs ys h.1 k)

all_map : (P Q : List ℕ → Type 0) (z : ℕ) (xs : List (List ℕ)) → ((x : List ℕ) → P x → Q (z ∷ x))
    → AllByRecursion P xs → AllByRecursion Q (map (λ x. z ∷ x) xs)
all_map P Q z [] f h = tt
all_map P Q z (x ∷ xs) f h = (f x h.0, all_map P Q z xs f h.1)

all_flat : (P : List ℕ → Type 0) (f : ℕ → List (List ℕ)) (a n : ℕ)
    → ((k : ℕ) → a ≤ k → k < a + n → AllByRecursion P (f k)) → AllByRecursion P (flat_map f (range_with_len a n))
all_flat P f a zero h = tt
all_flat P f a (suc n) h = all_append P (f a) (flat_map f (range_with_len (a + 1) n)) (h a (omega arith) (omega arith))
    (all_flat P f (a + 1) n (λ k l m. h k (omega arith) (omega arith)))

-- what a test says of all, and the other way
pub tested_at : (p : List ℕ → Bool) (xs : List (List ℕ)) (x : List ℕ) → list_all p xs ≡ true → IsIn x xs → p x ≡ true
tested_at p [] x h i = absurd i
tested_at p (y ∷ ys) x h (inl e) = ap p e ∙ (and_parts (p y) (list_all p ys) h).0
tested_at p (y ∷ ys) x h (inr i) = tested_at p ys x (and_parts (p y) (list_all p ys) h).1 i

pub tested_all : (p : List ℕ → Bool) (xs : List (List ℕ)) → ((x : List ℕ) → IsIn x xs → p x ≡ true)
    → list_all p xs ≡ true
tested_all p [] h = refl
tested_all p (x ∷ xs) h = and_from (p x) (list_all p xs) (h x (inl refl)) (tested_all p xs (λ y i. h y (inr i)))

-- ---- all paths

abbrev pub IsAPath : ℕ → ℕ → List ℕ → Type 0
IsAPath n state levels = (length levels ≡ n) × IsPath state levels

pub next_small : (state z : ℕ) → state < 4 → next_state state z < 4
unfolding next_state
next_small state z l = omega arith

-- every level of a path is below 8
pub path_small : (state : ℕ) (levels : List ℕ) → IsPath state levels → (k : ℕ) → k < length levels
    → get_or levels k 0 < 8
path_small state [] path k l = absurd (omega arith)
path_small state (z ∷ levels) path zero l = path.0
path_small state (z ∷ levels) path (suc k) l = path_small (next_state state z) levels path.2 k (omega arith)

paths_are : (n state : ℕ) → state < 4 → AllByRecursion (IsAPath n state) (paths_from n state)
unfolding paths_from
paths_are zero state l = ((refl, tt), tt)
paths_are (suc n) state l = all_flat (IsAPath (suc n) state)
    (λ k. map (λ levels. (2 * k + state / 2) ∷ levels) (paths_from n (next_state state (2 * k + state / 2)))) 0 4
    (λ k a b. all_map (IsAPath n (next_state state (2 * k + state / 2))) (IsAPath (suc n) state) (2 * k + state / 2)
    (paths_from n (next_state state (2 * k + state / 2))) (λ levels h. (ap suc h.0, (omega arith, omega arith, h.1)))
    (paths_are n (next_state state (2 * k + state / 2)) (next_small state (2 * k + state / 2) l)))

paths_have : (n state : ℕ) (levels : List ℕ) → state < 4 → length levels ≡ n → IsPath state levels
    → IsIn levels (paths_from n state)
unfolding paths_from
paths_have zero state [] l e h = inl refl
paths_have zero state (z ∷ levels) l e h = absurd (omega arith)
paths_have (suc n) state [] l e h = absurd (omega arith)
paths_have (suc n) state (z ∷ levels) l e (small, begins, path) =
    in_flat (λ k. map (λ levels. (2 * k + state / 2) ∷ levels) (paths_from n (next_state state (2 * k + state / 2))))
    (z ∷ levels) (z / 2) 0 4 (omega arith) (omega arith)
    (subst (λ y. IsIn (z ∷ levels) (map (λ levels. y ∷ levels) (paths_from n (next_state state y)))) (omega arith)
    (in_map z levels (paths_from n (next_state state z))
    (paths_have n (next_state state z) levels (next_small state z l) (omega arith) path)))

-- a path behind its start
abbrev pub IsStarted : ℕ → List ℕ → Type 0
IsStarted n [] = ⊥
IsStarted n (state ∷ levels) = (state < 4) × IsAPath n state levels

pub all_are : (n : ℕ) → AllByRecursion (IsStarted n) (all_paths n)
unfolding all_paths
all_are n = all_flat (IsStarted n) (λ start. map (λ levels. start ∷ levels) (paths_from n start)) 0 4
    (λ k a b. all_map (IsAPath n k) (IsStarted n) k (paths_from n k) (λ levels h. (omega arith, h))
    (paths_are n k (omega arith)))

pub all_have : (n start : ℕ) (levels : List ℕ) → start < 4 → length levels ≡ n → IsPath start levels
    → IsIn (start ∷ levels) (all_paths n)
unfolding all_paths
all_have n start levels l e path =
    in_flat (λ start. map (λ levels. start ∷ levels) (paths_from n start)) (start ∷ levels) start 0 4 (omega arith)
    (omega arith) (in_map start levels (paths_from n start) (paths_have n start levels l e path))

-- ---- their order

abbrev pub AreOrdered : List (List ℕ) → Type 0
AreOrdered [] = Unit {0}
AreOrdered (x ∷ xs) = AllByRecursion (AreInOrder x) xs × AreOrdered xs

ordered_append : (xs ys : List (List ℕ)) → AreOrdered xs → AreOrdered ys
    → AllByRecursion (λ x. AllByRecursion (AreInOrder x) ys) xs → AreOrdered (xs ++ ys)
ordered_append [] ys h k m = k
ordered_append (x ∷ xs) ys h k m = (all_append (AreInOrder x) xs ys h.0 m.0, ordered_append xs ys h.1 k m.1)

ordered_map : (z : ℕ) (xs : List (List ℕ)) → AreOrdered xs → AreOrdered (map (λ x. z ∷ x) xs)
ordered_map z [] h = tt
ordered_map z (x ∷ xs) h =
    (all_map (AreInOrder x) (AreInOrder (z ∷ x)) z xs (λ y k. inr (refl, k)) h.0, ordered_map z xs h.1)

any_all : (xs : List (List ℕ)) → AllByRecursion (λ _. Unit {0}) xs
any_all [] = tt
any_all (x ∷ xs) = (tt, any_all xs)

ordered_flat : (g : ℕ → ℕ) (f : ℕ → List (List ℕ)) (a n : ℕ) → ((j k : ℕ) → j < k → g j < g k)
    → ((k : ℕ) → AreOrdered (f k)) → AreOrdered (flat_map (λ k. map (λ x. g k ∷ x) (f k)) (range_with_len a n))
ordered_flat g f a zero rises h = tt
ordered_flat g f a (suc n) rises h =
    ordered_append (map (λ x. g a ∷ x) (f a)) (flat_map (λ k. map (λ x. g k ∷ x) (f k)) (range_with_len (a + 1) n))
    (ordered_map (g a) (f a) (h a)) (ordered_flat g f (a + 1) n rises h)
    (all_map (λ _. Unit {0}) (λ x. AllByRecursion (AreInOrder x)
    (flat_map (λ k. map (λ x. g k ∷ x) (f k)) (range_with_len (a + 1) n))) (g a) (f a)
    (λ x _. all_flat (AreInOrder (g a ∷ x)) (λ k. map (λ x. g k ∷ x) (f k)) (a + 1) n
    (λ k l m. all_map (λ _. Unit {0}) (AreInOrder (g a ∷ x)) (g k) (f k) (λ y _. inl (rises a k (omega arith)))
    (any_all (f k)))) (any_all (f a)))

paths_ordered : (n state : ℕ) → AreOrdered (paths_from n state)
unfolding paths_from
paths_ordered zero state = (tt, tt)
paths_ordered (suc n) state =
    ordered_flat (λ k. 2 * k + state / 2) (λ k. paths_from n (next_state state (2 * k + state / 2))) 0 4
    (λ j k l. omega arith) (λ k. paths_ordered n (next_state state (2 * k + state / 2)))

pub all_ordered : (n : ℕ) → AreOrdered (all_paths n)
unfolding all_paths
all_ordered n = ordered_flat (λ k. k) (λ k. paths_from n k) 0 4 (λ j k l. l) (λ k. paths_ordered n k)

pub in_order_self : (xs : List ℕ) → AreInOrder xs xs
in_order_self [] = tt
in_order_self (x ∷ xs) = inr (refl, in_order_self xs)

pub in_order_both : (xs ys : List ℕ) → AreInOrder xs ys → AreInOrder ys xs → xs ≡ ys
in_order_both [] [] h k = refl
in_order_both [] (y ∷ ys) h k = absurd k
in_order_both (x ∷ xs) [] h k = absurd h
in_order_both (x ∷ xs) (y ∷ ys) (inl l) (inl m) = absurd (omega arith)
in_order_both (x ∷ xs) (y ∷ ys) (inl l) (inr m) = let e = m.0 in absurd (omega arith)
in_order_both (x ∷ xs) (y ∷ ys) (inr l) (inl m) = let e = l.0 in absurd (omega arith)
in_order_both (x ∷ xs) (y ∷ ys) (inr l) (inr m) = ap₂ ◌∷◌ l.0 (in_order_both xs ys l.1 m.1)

-- ---- the first that passes a test

pub record IsFirst (p : List ℕ → Bool) (xs : List (List ℕ)) (x found : List ℕ) : Type 0 where
  pub within : IsIn found xs
  pub passes : p found ≡ true
  pub before : AreInOrder found x

pub first_found : (p : List ℕ → Bool) (xs : List (List ℕ)) (x : List ℕ) → AreOrdered xs → IsIn x xs → p x ≡ true
    → IsFirst p xs x (unwrap_or (find p xs) [])
first_found p [] x h i t = absurd i
first_found p (y ∷ ys) x h i t = by_test (p y) refl i (λ behind. first_found p ys x h.1 behind t)
  where
    by_test : (b : Bool) → p y ≡ b → (x ≡ y) ⊎ IsIn x ys → (IsIn x ys → IsFirst p ys x (unwrap_or (find p ys) []))
        → IsFirst p (y ∷ ys) x (unwrap_or (cond b (Some y) (find p ys)) [])
    by_test true e (inl same) on = grind (arith, in_order_self)
    by_test true e (inr behind) on = record {
      within = inl refl;
      passes = e;
      before = all_at (AreInOrder y) ys x h.0 behind;
    }
    by_test false e (inl same) on = absurd (true≢false (sym t ∙ ap p same ∙ e))
    by_test false e (inr behind) on =
        let rest = on behind in
        record { within = inr rest.within; passes = rest.passes; before = rest.before }

-- ---- the least of a list of paths

pub record HasMinimum (f : List ℕ → ℕ) (xs : List (List ℕ)) : Type 0 where
  pub path : List ℕ
  pub inside : IsIn path xs
  pub below : (other : List ℕ) → IsIn other xs → f path ≤ f other

minimum : (f : List ℕ → ℕ) (x : List ℕ) (xs : List (List ℕ)) → HasMinimum f (x ∷ xs)
minimum f x [] = record { path = x; inside = inl refl; below = only }
  where
    only : (other : List ℕ) → IsIn other (x ∷ []) → f x ≤ f other
    only other (inl e) = (let same = ap f e in omega (arith, same))
    only other (inr i) = absurd i
minimum f x (y ∷ ys) = joined (minimum f y ys)
  where
    joined : HasMinimum f (y ∷ ys) → HasMinimum f (x ∷ (y ∷ ys))
    joined rest = by_order (cases_lt (f x) (f rest.path))
      where
        by_order : (f x < f rest.path) ⊎ (f rest.path ≤ f x) → HasMinimum f (x ∷ (y ∷ ys))
        by_order (inl l) = grind arith
        by_order (inr l) = record { path = rest.path; inside = inr rest.inside; below = above }
          where
            above : (other : List ℕ) → IsIn other (x ∷ (y ∷ ys)) → f rest.path ≤ f other
            above other (inl e) = (let same = ap f e in omega (arith, same, l))
            above other (inr i) = rest.below other i

pub minimum_in : (f : List ℕ → ℕ) (xs : List (List ℕ)) (x : List ℕ) → IsIn x xs → HasMinimum f xs
minimum_in f [] x i = absurd i
minimum_in f (y ∷ ys) x i = minimum f y ys

-- the first in order of those that cost least
pub record IsLeastIn (scale : ℕ) (symbols : List ℤ) (paths : List (List ℕ)) (path : List ℕ) : Type 0 where
  pub inside : IsIn path paths
  pub least : (other : List ℕ) → IsIn other paths
      → cost scale symbols (drop 1 path) ≤ cost scale symbols (drop 1 other)
  pub first : (other : List ℕ) → IsIn other paths
      → cost scale symbols (drop 1 other) ≡ cost scale symbols (drop 1 path) → AreInOrder path other

costs_below : (scale : ℕ) (symbols : List ℤ) (paths : List (List ℕ)) (path : List ℕ)
    → ((other : List ℕ) → IsIn other paths → cost scale symbols (drop 1 path) ≤ cost scale symbols (drop 1 other))
    → costs_least scale symbols paths path ≡ true
unfolding costs_least
costs_below scale symbols paths path h = grind (arith, tested_all, le-leb)

costs_at : (scale : ℕ) (symbols : List ℤ) (paths : List (List ℕ)) (path other : List ℕ)
    → costs_least scale symbols paths path ≡ true → IsIn other paths
    → cost scale symbols (drop 1 path) ≤ cost scale symbols (drop 1 other)
unfolding costs_least
costs_at scale symbols paths path other t i = grind (arith, leb-true, tested_at)

-- where there is some path, the function gives it
pub least_in : (scale : ℕ) (symbols : List ℤ) (paths : List (List ℕ)) (some : List ℕ) → AreOrdered paths
    → IsIn some paths → IsLeastIn scale symbols paths (first_least scale symbols paths)
least_in scale symbols paths some ordered i = record {
  inside = best.within;
  least = λ other j. costs_at scale symbols paths (first_least scale symbols paths) other best.passes j;
  first = λ other j e. (found other j (grind (arith, costs_below, costs_at, best))).before;
}
  where
    least : HasMinimum (λ path. cost scale symbols (drop 1 path)) paths
    least = minimum_in (λ path. cost scale symbols (drop 1 path)) paths some i

    found : (x : List ℕ) → IsIn x paths → costs_least scale symbols paths x ≡ true
        → IsFirst (costs_least scale symbols paths) paths x (first_least scale symbols paths)
    found x j t = first_found (costs_least scale symbols paths) paths x ordered j t

    best : IsFirst (costs_least scale symbols paths) paths least.path (first_least scale symbols paths)
    best = found least.path least.inside (costs_below scale symbols paths least.path least.below)

-- and there is no other one
pub least_in_is : (scale : ℕ) (symbols : List ℤ) (paths : List (List ℕ)) (path : List ℕ) → AreOrdered paths
    → IsLeastIn scale symbols paths path → first_least scale symbols paths ≡ path
least_in_is scale symbols paths path ordered h =
    let found = least_in scale symbols paths path ordered h.inside in
    let a = found.least path h.inside in
    let b = h.least (first_least scale symbols paths) found.inside in
    in_order_both (first_least scale symbols paths) path (found.first path h.inside (omega (arith, a, b))) (grind arith)

-- ---- the least path

is_least_in : (scale : ℕ) (symbols : List ℤ) (start : ℕ) (levels : List ℕ) → IsLeast scale symbols start levels
    → IsLeastIn scale symbols (all_paths (length symbols)) (start ∷ levels)
is_least_in scale symbols start levels h = grind (arith, all_have, all_at, all_are)

-- what is a least path is the one that the function gives
pub least_path_is : (scale : ℕ) (symbols : List ℤ) (start : ℕ) (levels : List ℕ)
    → IsLeast scale symbols start levels → least_path scale symbols ≡ start ∷ levels
unfolding least_path
least_path_is scale symbols start levels h =
    least_in_is scale symbols (all_paths (length symbols)) (start ∷ levels) (all_ordered (length symbols))
    (is_least_in scale symbols start levels h)

-- so its levels are
pub least_levels_are : (scale : ℕ) (symbols : List ℤ) (start : ℕ) (levels : List ℕ)
    → IsLeast scale symbols start levels → drop 1 (least_path scale symbols) ≡ levels
least_levels_are scale symbols start levels h = ap (drop 1) (least_path_is scale symbols start levels h)

-- some path of n levels from state 0
some_path : (n state : ℕ) → state < 4 → (levels : List ℕ) × (length levels ≡ n) × IsPath state levels
some_path zero state l = ([], refl, tt)
some_path (suc n) state l =
    let rest = some_path n (next_state state (state / 2)) (next_small state (state / 2) l) in
    ((state / 2) ∷ rest.0, ap suc rest.1, (omega arith, omega arith, rest.2))

-- what the function gives is a least path
pub least_path_found : (scale : ℕ) (symbols : List ℤ)
    → IsLeast scale symbols (get_or (least_path scale symbols) 0 0) (drop 1 (least_path scale symbols))
unfolding least_path
least_path_found scale symbols = from_path (first_least scale symbols (all_paths (length symbols)))
    (grind (arith, all_at, all_are, found)) found
  where
    found : IsLeastIn scale symbols (all_paths (length symbols))
        (first_least scale symbols (all_paths (length symbols)))
    found =
        let some = some_path (length symbols) 0 (omega arith) in
        least_in scale symbols (all_paths (length symbols)) (0 ∷ some.0) (all_ordered (length symbols))
        (all_have (length symbols) 0 some.0 (omega arith) some.1 some.2)

    from_path : (path : List ℕ) → IsStarted (length symbols) path
        → IsLeastIn scale symbols (all_paths (length symbols)) path
        → IsLeast scale symbols (get_or path 0 0) (drop 1 path)
    from_path [] k h = absurd k
    from_path (start ∷ levels) k h = record {
      begins = k.0;
      long = k.1.0;
      path = k.1.1;
      least = λ state others l n path. h.least (state ∷ others) (all_have (length symbols) state others l n path);
      first = λ state others l n path. h.first (state ∷ others) (all_have (length symbols) state others l n path);
    }
