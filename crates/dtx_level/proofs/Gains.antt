-- A gain and a constant undone, symbol by symbol.
use Rattle.std.proofs.Common.{◌≡◌, ◌≢◌, ℕ, ℤ, pos, negsuc, neg_ℤ, zero, suc, ◌+◌, ◌-◌, ◌*◌, ◌<◌, ◌≤◌, ◌+ℤ◌, ◌-ℤ◌, ◌*ℤ◌}
use Rattle.std.proofs.Common.{nat_abs, refl, ap, ◌∙◌, arith}
use Rattle.std.specs.Int.{int_div_euclid}
use Rattle.std.proofs.lemmas.Bool.{cond-true, cond-false, le-ltb}
use Rattle.std.proofs.lemmas.Int.{clamps, ints}
use Rattle.std.proofs.lemmas.Nat.{div-mul-add}
use Rattle.dtx_level.specs.Levelled.{levelled_symbol, nearest, next_whole}
use Rattle.dtx_level.specs.Measures.{constant_in_hundredths, gain_in_hundredths}

-- ---- quotients

-- of a multiple
next_up : (k g : ℕ) → 0 < g → next_whole (pos (k * g)) (pos g) ≡ pos k
unfolding next_whole
next_up k g l = grind (arith, div-mul-add)

-- of a multiple below 0
next_down : (j g m : ℕ) → 0 < g → suc m ≡ suc j * g → next_whole (negsuc m) (pos g) ≡ negsuc j
unfolding next_whole
next_down j g m l e = grind (arith, ints, div-mul-add)

-- what is divided
abbrev number : ℤ → ℤ → ℤ → ℤ
number a b s = pos 40 *ℤ (pos 132612 *ℤ (a *ℤ s +ℤ b) -ℤ pos 132612 *ℤ b)

nearest_above : (n : ℤ) (g : ℕ) → nearest n (pos g) ≡ next_whole n (pos g)
unfolding nearest
nearest_above n g = grind (arith, cond-false, le-ltb)

-- ---- a symbol

undone : (a b s : ℤ) → a ≢ pos 0 → nearest (number a b s) (pos 663060 *ℤ a) ≡ pos 8 *ℤ s
unfolding nearest
undone (pos zero) b s n = absurd (n refl)
undone (pos (suc a)) b (pos s) n =
    let g = 663060 * suc a in
    nearest_above (number (pos (suc a)) b (pos s)) g ∙ ap (λ x. next_whole x (pos g)) (omega (arith, ints))
    ∙ next_up (8 * s) g (omega arith)
undone (pos (suc a)) b (negsuc s) n =
    let g = 663060 * suc a in
    let eight : negsuc (8 * s + 7) ≡ pos 8 *ℤ negsuc s = omega (arith, ints) in
    nearest_above (number (pos (suc a)) b (negsuc s)) g ∙ ap (λ x. next_whole x (pos g)) (omega (arith, ints))
    ∙ next_down (8 * s + 7) g (suc (8 * s + 7) * g - 1) (omega arith) (omega arith) ∙ eight
undone (negsuc a) b (pos s) n =
    let g = 663060 * suc a in
    let is : neg_ℤ (number (negsuc a) b (pos s)) ≡ pos (8 * s * g) = omega (arith, ints) in
    (grind (arith, cond-true)) ∙ ap (λ x. next_whole x (pos g)) is ∙ next_up (8 * s) g (omega arith)
undone (negsuc a) b (negsuc s) n =
    let g = 663060 * suc a in
    let is : neg_ℤ (number (negsuc a) b (negsuc s)) ≡ negsuc (suc (8 * s + 7) * g - 1) = omega (arith, ints) in
    let eight : negsuc (8 * s + 7) ≡ pos 8 *ℤ negsuc s = omega (arith, ints) in
    (grind (arith, cond-true)) ∙ ap (λ x. next_whole x (pos g)) is
    ∙ next_down (8 * s + 7) g (suc (8 * s + 7) * g - 1) (omega arith) (omega arith) ∙ eight

pub symbol_undone : (a b s : ℤ) → a ≢ pos 0 → nat_abs s ≤ 15
    → levelled_symbol (pos 663060 *ℤ a) (pos 132612 *ℤ b) (a *ℤ s +ℤ b) ≡ pos 8 *ℤ s
unfolding levelled_symbol
symbol_undone a b s n l = grind (arith, undone, clamps, ints)

-- ---- hundredths

hundredths_is : (x c : ℤ) → x ≡ pos 13261200 *ℤ c → int_div_euclid (x +ℤ pos 66306) (pos 132612) ≡ pos 100 *ℤ c
hundredths_is x (pos c) e = grind (arith, ints)
hundredths_is x (negsuc c) e = grind (arith, ints)

pub gain_undone : (a : ℤ) → gain_in_hundredths (pos 663060 *ℤ a) ≡ pos 100 *ℤ a
unfolding gain_in_hundredths
gain_undone a = hundredths_is (pos 20 *ℤ (pos 663060 *ℤ a)) a (omega (arith, ints))

pub constant_undone : (b : ℤ) → constant_in_hundredths (pos 132612 *ℤ b) ≡ pos 100 *ℤ b
unfolding constant_in_hundredths
constant_undone b = hundredths_is (pos 100 *ℤ (pos 132612 *ℤ b)) b (omega (arith, ints))
