-- A byte of a run is marked where one of five symbols is missing.
use Rattle.std.proofs.Common.{◌≡◌, ℕ, ℤ, zero, suc, ◌+◌, ◌-◌, ◌*◌, ◌/◌, ◌%◌, ◌<◌, ◌≤◌, ◌==◌, ◌⊎◌, ◌||◌, inl, Bool, true}
use Rattle.std.proofs.Common.{false, List, [], length, map, drop, get_or, refl, sym, ap, ◌∙◌, arith}
use Rattle.std.proofs.lemmas.Bool.{cond-false, ne_eqb}
use Rattle.dtx_slice.specs.Unrolled.{symbol_place, coder_of}
use Rattle.dtx_slice.proofs.InverseLemmas.{place_within}
use Rattle.dtx_receiver.specs.Bytes.{groups_of}
use Rattle.dtx_erase.specs.Marks.{is_missing, missing_in, was_missing, is_marked}
use Rattle.dtx_bursts.specs.Burst.{symbol_at}
use Rattle.dtx_bursts.proofs.Bytes.{AreWhole, data_is, early_is}
use Rattle.dtx_bursts.proofs.Places.{position, position_of, next_position}

missing_is : (run : List (List ℤ)) (d : ℕ) → AreWhole run → d < 3312 * groups_of run
    → get_or (missing_in run) d false ≡ is_missing (symbol_at run (position d))
unfolding missing_in
missing_is run d whole l = data_is is_missing run d false whole l

-- the symbol of coder e before round r
was_is : (run : List (List ℤ)) (r e : ℕ) → AreWhole run → 0 < length run → r ≤ 276 * groups_of run
    → was_missing run r e ≡ is_missing (symbol_at run (position_of r e))
unfolding was_missing
was_is run zero e whole some l = early_is is_missing run e false whole some
was_is run (suc r) e whole some l = ap (λ n. was_missing run n e) (omega arith) ∙ later r (omega (arith, l))
    ∙ ap (λ n. is_missing (symbol_at run (position_of n e))) (sym (omega arith))
  where
    later : (r : ℕ) → r < 276 * groups_of run
        → was_missing run (r + 1) e ≡ is_missing (symbol_at run (position_of (r + 1) e))
    later r m = cond-false (r + 1 == 0) (get_or (map is_missing (drop 820 (get_or run 0 []))) ((e + 4) % 12) false)
        (get_or (missing_in run) (symbol_place 0 (r + 1 - 1) e) false) (ne_eqb (r + 1) 0 (λ z. omega (arith, z)))
        ∙ ap (λ n. get_or (missing_in run) (symbol_place 0 n e) false) (omega arith)
        ∙ missing_is run (symbol_place 0 r e) whole (place_within 0 r e (groups_of run) m)
        ∙ ap (λ n. is_missing (symbol_at run n)) (sym (next_position r e))

-- ---- a byte

-- the symbol is missing before round 4 * (y / 12) + i
abbrev missing_before : List (List ℤ) → ℕ → ℕ → Bool
missing_before run y i = is_missing (symbol_at run (position_of (4 * (y / 12) + i) (coder_of 0 y)))

-- One of its five symbols is missing, or none is.
abbrev pub MarkedOrNot : List (List ℤ) → ℕ → Type 0
MarkedOrNot run y = ((i : ℕ) × (i < 5) × (missing_before run y i ≡ true) × (is_marked run y ≡ true))
    ⊎ (((i : ℕ) → i < 5 → missing_before run y i ≡ false) × (is_marked run y ≡ false))

five : (a b c d e : Bool) (f : ℕ → Bool) → f 0 ≡ a → f 1 ≡ b → f 2 ≡ c → f 3 ≡ d → f 4 ≡ e
    → ((i : ℕ) × (i < 5) × (f i ≡ true) × ((a || (b || (c || (d || e)))) ≡ true))
    ⊎ (((i : ℕ) → i < 5 → f i ≡ false) × ((a || (b || (c || (d || e)))) ≡ false))
five true b c d e f x0 x1 x2 x3 x4 = inl (0, omega arith, x0, refl)
five false true c d e f x0 x1 x2 x3 x4 = inl (1, omega arith, x1, refl)
five false false true d e f x0 x1 x2 x3 x4 = inl (2, omega arith, x2, refl)
five false false false true e f x0 x1 x2 x3 x4 = inl (3, omega arith, x3, refl)
five false false false false true f x0 x1 x2 x3 x4 = inl (4, omega arith, x4, refl)
five false false false false false f x0 x1 x2 x3 x4 = grind arith

pub marked_or_not : (run : List (List ℤ)) (y : ℕ) → AreWhole run → 0 < length run → y < 828 * groups_of run
    → MarkedOrNot run y
unfolding is_marked
marked_or_not run y whole some l =
    let r : ℕ = 4 * (y / 12) in
    let e : ℕ = coder_of 0 y in
    five (was_missing run r e) (was_missing run (r + 1) e) (was_missing run (r + 2) e) (was_missing run (r + 3) e)
    (was_missing run (r + 4) e) (missing_before run y) (at 0 (omega arith) (omega arith)) (at 1 (omega arith) refl)
    (at 2 (omega arith) refl) (at 3 (omega arith) refl) (at 4 (omega arith) refl)
  where
    at : (i : ℕ) {n : ℕ} → i < 5 → 4 * (y / 12) + i ≡ n → missing_before run y i ≡ was_missing run n (coder_of 0 y)
    at i k z = grind (arith, was_is)
