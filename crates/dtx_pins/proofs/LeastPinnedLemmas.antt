-- What the function of least paths under pins gives, and that there is one such path.
use Rattle.std.proofs.Common.{◌≡◌, ℕ, zero, suc, ℤ, ◌+◌, ◌*◌, ◌/◌, ◌%◌, ◌<◌, ◌≤◌, ◌⊎◌, inl, inr, Bool, true, false}
use Rattle.std.proofs.Common.{cond, List, [], ◌∷◌, length, drop, refl, get_or, sym, ap, ◌∙◌, arith}
use Rattle.std.proofs.lemmas.Bool.{true≢false}
use Rattle.std.specs.List.{filter, AllByRecursion}
use Rattle.dtx_soft.specs.Paths.{IsPath, cost, next_state}
use Rattle.dtx_soft.specs.Least.{AreInOrder, IsLeast, all_paths, first_least, least_levels, least_path, least_start}
use Rattle.dtx_soft.proofs.LeastPathLemmas.{AreOrdered, IsIn, IsLeastIn, IsStarted, all_are, all_at, all_have}
use Rattle.dtx_soft.proofs.LeastPathLemmas.{all_ordered, least_in, least_in_is, least_path_found, least_path_is}
use Rattle.dtx_soft.proofs.LeastPathLemmas.{next_small}
use Rattle.dtx_pins.specs.Pins.{Agrees, AgreesFrom, agrees, pair_of, pin_at}
use Rattle.dtx_pins.specs.LeastPinned.{IsLeastPinned, least_pinned_levels, least_pinned_path, least_pinned_start}
use Rattle.dtx_pins.specs.LeastPinned.{pinned_paths}
use Rattle.dtx_pins.proofs.Agreements.{agreement_told, agreement_tested, agrees_all}

-- ---- the paths that pass a test

filtered_in : (p : List ℕ → Bool) (xs : List (List ℕ)) (x : List ℕ) → IsIn x xs → p x ≡ true → IsIn x (filter p xs)
filtered_in p [] x i t = absurd i
filtered_in p (y ∷ ys) x i t = by_test (p y) refl i (λ behind. filtered_in p ys x behind t)
  where
    by_test : (b : Bool) → p y ≡ b → (x ≡ y) ⊎ IsIn x ys → (IsIn x ys → IsIn x (filter p ys))
        → IsIn x (cond b (y ∷ filter p ys) (filter p ys))
    by_test true e (inl same) on = inl same
    by_test true e (inr behind) on = inr (on behind)
    by_test false e (inl same) on = absurd (true≢false (sym t ∙ ap p same ∙ e))
    by_test false e (inr behind) on = on behind

filtered_all : (p : List ℕ → Bool) (P : List ℕ → Type 0) (xs : List (List ℕ)) → AllByRecursion P xs
    → AllByRecursion P (filter p xs)
filtered_all p P [] h = tt
filtered_all p P (y ∷ ys) h = by_test (p y) (filtered_all p P ys h.1)
  where
    by_test : (b : Bool) → AllByRecursion P (filter p ys) → AllByRecursion P (cond b (y ∷ filter p ys) (filter p ys))
    by_test true rest = (h.0, rest)
    by_test false rest = rest

filtered_passes : (p : List ℕ → Bool) (xs : List (List ℕ)) → AllByRecursion (λ x. p x ≡ true) (filter p xs)
filtered_passes p [] = tt
filtered_passes p (y ∷ ys) = by_test (p y) refl (filtered_passes p ys)
  where
    by_test : (b : Bool) → p y ≡ b → AllByRecursion (λ x. p x ≡ true) (filter p ys)
        → AllByRecursion (λ x. p x ≡ true) (cond b (y ∷ filter p ys) (filter p ys))
    by_test true e rest = (e, rest)
    by_test false e rest = rest

filtered_ordered : (p : List ℕ → Bool) (xs : List (List ℕ)) → AreOrdered xs → AreOrdered (filter p xs)
filtered_ordered p [] h = tt
filtered_ordered p (y ∷ ys) h = by_test (p y) (filtered_ordered p ys h.1)
  where
    by_test : (b : Bool) → AreOrdered (filter p ys) → AreOrdered (cond b (y ∷ filter p ys) (filter p ys))
    by_test true rest = (filtered_all p (AreInOrder y) ys h.0, rest)
    by_test false rest = rest

-- ---- the paths that agree with pins

abbrev passes_of : List ℕ → List ℕ → Bool
passes_of pins path = agrees pins (drop 1 path)

pinned_have : (pins : List ℕ) (n start : ℕ) (levels : List ℕ) → start < 4 → length levels ≡ n → IsPath start levels
    → Agrees pins levels → IsIn (start ∷ levels) (pinned_paths pins n)
unfolding pinned_paths
pinned_have pins n start levels l e path h = grind (arith, filtered_in, all_have, agreement_tested)

pinned_are : (pins : List ℕ) (n : ℕ) → AllByRecursion (IsStarted n) (pinned_paths pins n)
unfolding pinned_paths
pinned_are pins n = filtered_all (passes_of pins) (IsStarted n) (all_paths n) (all_are n)

pinned_agree : (pins : List ℕ) (n : ℕ) → AllByRecursion (λ path. agrees pins (drop 1 path) ≡ true) (pinned_paths pins n)
unfolding pinned_paths
pinned_agree pins n = filtered_passes (passes_of pins) (all_paths n)

pinned_ordered : (pins : List ℕ) (n : ℕ) → AreOrdered (pinned_paths pins n)
unfolding pinned_paths
pinned_ordered pins n = filtered_ordered (passes_of pins) (all_paths n) (all_ordered n)

-- ---- the least of them

-- what is known of a path that agrees, behind its start
abbrev IsAgreed : ℕ → List ℕ → List ℕ → Type 0
IsAgreed n pins path = IsStarted n path × Agrees pins (drop 1 path)

agreed_in : (pins : List ℕ) (n : ℕ) (path : List ℕ) → IsIn path (pinned_paths pins n) → IsAgreed n pins path
agreed_in pins n path i = (
  all_at (IsStarted n) (pinned_paths pins n) path (pinned_are pins n) i,
  agreement_told pins (drop 1 path) (grind (arith, all_at, pinned_agree)),
)

is_least_in : (scale : ℕ) (pins : List ℕ) (symbols : List ℤ) (start : ℕ) (levels : List ℕ)
    → IsLeastPinned scale pins symbols start levels
    → IsLeastIn scale symbols (pinned_paths pins (length symbols)) (start ∷ levels)
is_least_in scale pins symbols start levels h = grind (arith, pinned_have, agreed_in)

-- what is a least path under pins is the one that the function gives
pub least_pinned_is : (scale : ℕ) (pins : List ℕ) (symbols : List ℤ) (start : ℕ) (levels : List ℕ)
    → IsLeastPinned scale pins symbols start levels → least_pinned_path scale pins symbols ≡ start ∷ levels
unfolding least_pinned_path
least_pinned_is scale pins symbols start levels h =
    least_in_is scale symbols (pinned_paths pins (length symbols)) (start ∷ levels)
    (pinned_ordered pins (length symbols)) (is_least_in scale pins symbols start levels h)

pub least_pinned_levels_are : (scale : ℕ) (pins : List ℕ) (symbols : List ℤ) (start : ℕ) (levels : List ℕ)
    → IsLeastPinned scale pins symbols start levels → least_pinned_levels scale pins symbols ≡ levels
least_pinned_levels_are scale pins symbols start levels h = grind (arith, least_pinned_is)

-- ---- there always is one, since each pair can be given from each state

abbrev told_level : ℕ → ℕ → ℕ → ℕ
told_level pin former state = 4 * ((pin / 2 + former) % 2) + 2 * (pin % 2) + state / 2

pair_given : (pin former state : ℕ) → pin < 4 → former < 2 → state < 4
    → pair_of former (told_level pin former state) ≡ pin
pair_given pin former state k l m = omega arith

some_agreed : (n : ℕ) (pins : List ℕ) (former state : ℕ) → former < 2 → state < 4
    → (levels : List ℕ) × (length levels ≡ n) × IsPath state levels × AgreesFrom former pins levels
some_agreed zero pins former state l m = ([], refl, tt, tt)
some_agreed (suc n) pins former state l m =
    let rest = some_agreed n (drop 1 pins) (told_level (pin_at pins 0) former state / 4)
    (next_state state (told_level (pin_at pins 0) former state)) (omega arith) (grind (arith, next_small)) in (
      told_level (pin_at pins 0) former state ∷ rest.0,
      ap suc rest.1,
      (omega arith, omega arith, rest.2),
      ((λ p. pair_given (pin_at pins 0) former state p l m), rest.3),
    )

pub least_pinned_found : (scale : ℕ) (pins : List ℕ) (symbols : List ℤ)
    → IsLeastPinned scale pins symbols (least_pinned_start scale pins symbols) (least_pinned_levels scale pins symbols)
unfolding least_pinned_path
least_pinned_found scale pins symbols = from_path (first_least scale symbols (pinned_paths pins (length symbols)))
    (agreed_in pins (length symbols) (first_least scale symbols (pinned_paths pins (length symbols))) found.inside)
    found
  where
    found : IsLeastIn scale symbols (pinned_paths pins (length symbols))
        (first_least scale symbols (pinned_paths pins (length symbols)))
    found =
        let some = some_agreed (length symbols) pins 0 0 (omega arith) (omega arith) in
        least_in scale symbols (pinned_paths pins (length symbols)) (0 ∷ some.0) (pinned_ordered pins (length symbols))
        (pinned_have pins (length symbols) 0 some.0 (omega arith) some.1 some.2 (agrees_all 0 pins some.0 some.3))

    from_path : (path : List ℕ) → IsAgreed (length symbols) pins path
        → IsLeastIn scale symbols (pinned_paths pins (length symbols)) path
        → IsLeastPinned scale pins symbols (get_or path 0 0) (drop 1 path)
    from_path [] k h = absurd k.0
    from_path (start ∷ levels) k h = record {
      begins = k.0.0;
      long = k.0.1.0;
      path = k.0.1.1;
      agrees = k.1;
      least = λ state others l n path told. h.least (state ∷ others) (grind (arith, pinned_have));
      first = λ state others l n path told. h.first (state ∷ others)
          (pinned_have pins (length symbols) state others l n path told);
    }

-- ---- more and fewer pins

-- without pins it is the least path
pub without_pins_is : (scale : ℕ) (pins : List ℕ) (symbols : List ℤ) → ((t : ℕ) → t < length symbols
    → 4 ≤ pin_at pins t) → least_pinned_path scale pins symbols ≡ least_path scale symbols
without_pins_is scale pins symbols none =
    least_pinned_is scale pins symbols (least_start scale symbols) (least_levels scale symbols) pinned_too
    ∙ sym (least_path_is scale symbols (least_start scale symbols) (least_levels scale symbols) h)
  where
    h : IsLeast scale symbols (least_start scale symbols) (least_levels scale symbols)
    h = least_path_found scale symbols

    pinned_too : IsLeastPinned scale pins symbols (least_start scale symbols) (least_levels scale symbols)
    pinned_too = record {
      begins = h.begins;
      long = h.long;
      path = h.path;
      agrees = λ t l p. absurd (let e = h.long in let m = none t (omega (arith, e, l)) in omega (arith, m, p));
      least = λ state others l n path told. h.least state others l n path;
      first = λ state others l n path told e. h.first state others l n path e;
    }

-- Where each path that agrees with some pins agrees with others too, the least path under these costs no more.
pub fewer_pins_cost_less : (scale : ℕ) (more pins : List ℕ) (symbols : List ℤ)
    → ((levels : List ℕ) → length levels ≡ length symbols → Agrees more levels → Agrees pins levels)
    → cost scale symbols (least_pinned_levels scale pins symbols)
    ≤ cost scale symbols (least_pinned_levels scale more symbols)
fewer_pins_cost_less scale more pins symbols h =
    let a = least_pinned_found scale pins symbols in
    let b = least_pinned_found scale more symbols in
    a.least (least_pinned_start scale more symbols) (least_pinned_levels scale more symbols) b.begins b.long b.path
    (h (least_pinned_levels scale more symbols) b.long b.agrees)
