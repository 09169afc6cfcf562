-- The rule of each table, by one test over it.
use Rattle.std.proofs.Common.{◌≡◌, ℕ, zero, suc, ◌+◌, ◌-◌, ◌*◌, ◌%◌, ◌<◌, ◌≤◌, ◌==◌, ◌&&◌, true, nat_lt, get_or, refl}
use Rattle.std.proofs.Common.{sym, ap, ap₂, ◌∙◌, arith}
use Rattle.std.proofs.lemmas.Bool.{eqb-true, and_parts, ltb-true}
use Rattle.dtx_galois.specs.Field.{mul, pow}
use Rattle.dtx_lists.proofs.Below.{holds_below, at_below}
use Rattle.dtx_galois.proofs.PowersLemmas.{pow_add, pow_times, pow_mod, power_at, cycle}
use Rattle.dtx_galois.specs.declared.tables.TheConstants.{POWERS, LOGARITHMS}

logarithms_test : holds_below (λ a. get_or POWERS (get_or LOGARITHMS (suc a) 0) 0 == suc a && nat_lt
    (get_or LOGARITHMS (suc a) 0) 255) 255 ≡ true
logarithms_test = refl

logarithm_both : (a : ℕ) → a < 255 → (get_or POWERS (get_or LOGARITHMS (suc a) 0) 0 ≡ suc a)
    × (get_or LOGARITHMS (suc a) 0 < 255)
logarithm_both a l =
    let h : ((get_or POWERS (get_or LOGARITHMS (suc a) 0) 0 == suc a) ≡ true)
    × (nat_lt (get_or LOGARITHMS (suc a) 0) 255 ≡ true) =
    and_parts (get_or POWERS (get_or LOGARITHMS (suc a) 0) 0 == suc a) (nat_lt (get_or LOGARITHMS (suc a) 0) 255)
    (at_below (λ a. get_or POWERS (get_or LOGARITHMS (suc a) 0) 0 == suc a && nat_lt (get_or LOGARITHMS (suc a) 0) 255)
    255 a logarithms_test l) in
    (eqb-true _ _ h.0, ltb-true _ _ h.1)

pub logarithm_at : (a : ℕ) → 0 < a → a < 256 → (pow 2 (get_or LOGARITHMS a 0) ≡ a) × (get_or LOGARITHMS a 0 < 255)
logarithm_at zero p l = absurd (omega arith)
logarithm_at (suc a) p l = grind (arith, logarithm_both, power_at)

pub product_at : (i j a b : ℕ) → pow 2 i ≡ a → pow 2 j ≡ b → pow 2 (i + j) ≡ mul a b
product_at i j a b p q = pow_add 2 i j ∙ ap₂ mul p q

-- 255 exponents further it is the same power
pub around : (n : ℕ) → 255 ≤ n → pow 2 (n - 255) ≡ pow 2 n
around n l = sym (pow_mod (n - 255)) ∙ ap (pow 2) (let e : (n - 255) % 255 ≡ n % 255 = omega arith in e) ∙ pow_mod n

pub inverse_at : (i a : ℕ) → i < 255 → pow 2 i ≡ a → mul a (pow 2 (255 - i)) ≡ 1
inverse_at i a l p =
    ap (λ (x : ℕ). mul x (pow 2 (255 - i))) (sym p) ∙ sym (pow_add 2 i (255 - i)) ∙ ap (pow 2) (omega arith) ∙ cycle

pub power_of : (i a n : ℕ) → pow 2 i ≡ a → pow 2 (i * n % 255) ≡ pow a n
power_of i a n p = pow_mod (i * n) ∙ sym (pow_times 2 i n) ∙ ap (λ (x : ℕ). pow x n) p
