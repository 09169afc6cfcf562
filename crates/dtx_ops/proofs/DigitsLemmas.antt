-- Twelve states as the digits of a number to the base 8.
use Rattle.std.proofs.Common.{◌≡◌, ℕ, zero, suc, ◌+◌, ◌*◌, ◌/◌, ◌%◌, ◌^◌, ◌<◌, ◌≤◌, List, [], ◌∷◌, ◌++◌, length, refl}
use Rattle.std.proofs.Common.{ap, ◌∙◌, append_assoc, arith}
use Rattle.std.proofs.Math.Nat.{div-div-eq-div-mul, pow-suc, pow-succ', mul_assoc, mul_comm, mul-le-mul_right}
use Rattle.std.proofs.lemmas.List.{append-nil}
use Rattle.std.proofs.lemmas.List.Sums.{fold_push}
use Rattle.std.specs.List.{AllByRecursion, fold}
use Rattle.dtx_ops.specs.Fields.{states_at}
use Rattle.dtx_ops.specs.Spelling.{states_bits}

-- the digits of a number, the lowest last
abbrev pub digits : ℕ → ℕ → List ℕ
digits zero number = []
digits (suc n) number = digits n (number / 8) ++ (number % 8) ∷ []

-- the number of some digits, behind another number
abbrev pub joined : ℕ → List ℕ → ℕ
joined before states = fold (λ before state. 8 * before + state) before states

-- the last digit comes off first
digits_push : (n before state : ℕ) → state < 8 → digits (suc n) (8 * before + state) ≡ digits n before ++ state ∷ []
digits_push n before state h = grind arith

digits_joined : (k before : ℕ) (states : List ℕ) → AllByRecursion (λ s. s < 8) states
    → digits (k + length states) (joined before states) ≡ digits k before ++ states
digits_joined k before [] h = grind (arith, append-nil)
digits_joined k before (s ∷ states) h =
    let e : k + suc (length states) ≡ suc k + length states = omega arith in
    ap (λ (n : ℕ). digits n (joined (8 * before + s) states)) e ∙ digits_joined (suc k) (8 * before + s) states h.1
    ∙ ap (λ (t : List ℕ). t ++ states) (digits_push k before s h.0) ∙ append_assoc (digits k before) (s ∷ []) states

-- the number of its digits
joined_digits : (n number : ℕ) → number < 8 ^ n → joined 0 (digits n number) ≡ number
joined_digits zero number h = omega arith
joined_digits (suc n) number h =
    let before = joined_digits n (number / 8) (omega (arith, pow-suc 8 n)) in
    fold_push (λ before state. 8 * before + state) 0 (digits n (number / 8)) (number % 8) ∙ omega (arith, before)

-- the states in a number are its digits behind the four 0 bits
states_at-digits : (number : ℕ) → states_at number ≡ digits 12 (number / 16)
unfolding states_at
states_at-digits number = simp (div-div-eq-div-mul) refl

pub states_at-bits : (states : List ℕ) → length states ≡ 12 → AllByRecursion (λ s. s < 8) states
    → states_at (states_bits states) ≡ states
unfolding states_bits
states_at-bits states l h =
    let twelve : 12 ≡ 0 + length states = omega arith in
    states_at-digits (16 * joined 0 states) ∙ ap (digits 12) (omega arith)
    ∙ ap (λ (n : ℕ). digits n (joined 0 states)) twelve ∙ digits_joined 0 0 states h

pub bits-states_at : (number : ℕ) → number % 16 ≡ 0 → number < 2 ^ 40 → states_bits (states_at number) ≡ number
unfolding states_bits
bits-states_at number h l =
    let back = joined_digits 12 (number / 16) (omega arith) in
    ap (λ (t : List ℕ). 16 * joined 0 t) (states_at-digits number) ∙ omega (arith, back)

joined_below : (before : ℕ) (states : List ℕ) → AllByRecursion (λ s. s < 8) states
    → joined before states < (before + 1) * 8 ^ length states
joined_below before [] h = omega arith
joined_below before (s ∷ states) h =
    let rest = joined_below (8 * before + s) states h.1 in
    let more : (8 * before + s + 1) * 8 ^ length states ≤ 8 * (before + 1) * 8 ^ length states =
    mul-le-mul_right (8 ^ length states) (omega (arith, h.0)) in
    let split : 8 * (before + 1) * 8 ^ length states ≡ (before + 1) * 8 ^ suc (length states) =
    grind (arith, mul_comm, mul_assoc, pow-succ') in
    omega (arith, rest, more, split)

pub bits_below : (states : List ℕ) → length states ≡ 12 → AllByRecursion (λ s. s < 8) states
    → states_bits states < 2 ^ 40
unfolding states_bits
bits_below states l h = grind (arith, joined_below)

pub bits_pad : (states : List ℕ) → states_bits states % 16 ≡ 0
unfolding states_bits
bits_pad states = omega arith
