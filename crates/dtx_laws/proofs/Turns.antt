-- One turn of the loop that cancels the other marked places.
use Rattle.std.proofs.Common.{◌≡◌, ℕ, ◌+◌, ◌<◌, ◌==◌, ◌&&◌, not, Bool, true, false, List, ◌∷◌, length, get_or, bit_xor}
use Rattle.std.proofs.Common.{sym, ap, ◌∙◌, arith, add-one}
use Rattle.dtx_galois.specs.Field.{mul, pow}
use Rattle.dtx_laws.specs.Locator.{power_at, others, weight, without, error_at}

others_yes : (n : ℕ) (mark : ℕ → Bool) (p q : ℕ) → (mark q && not (q == p)) ≡ true
    → others n mark p (q + 1) ≡ power_at n q ∷ others n mark p q
unfolding others
others_yes n mark p q t = grind (arith, add-one)

others_no : (n : ℕ) (mark : ℕ → Bool) (p q : ℕ) → (mark q && not (q == p)) ≡ false
    → others n mark p (q + 1) ≡ others n mark p q
unfolding others
others_no n mark p q t = grind (arith, add-one)

pub rest_yes : (n p q m y : ℕ) (mark : ℕ → Bool) (s : ℕ → ℕ) (new old : List ℕ) → (mark q && not (q == p)) ≡ true
    → y ≡ power_at n q
    → ((i : ℕ) → i + length (others n mark p q) < m → get_or old i 0 ≡ without (others n mark p q) s i)
    → ((i : ℕ) → i + 1 < m → get_or new i 0 ≡ bit_xor (get_or old (i + 1) 0) (mul y (get_or old i 0)))
    → (i : ℕ) → i + length (others n mark p (q + 1)) < m → get_or new i 0 ≡ without (others n mark p (q + 1)) s i
unfolding without
rest_yes n p q m y mark s new old t e h c i l = grind (arith, others_yes, add-one)

pub rest_no : (n p q m : ℕ) (mark : ℕ → Bool) (s : ℕ → ℕ) (old : List ℕ) → (mark q && not (q == p)) ≡ false
    → ((i : ℕ) → i + length (others n mark p q) < m → get_or old i 0 ≡ without (others n mark p q) s i)
    → (i : ℕ) → i + length (others n mark p (q + 1)) < m → get_or old i 0 ≡ without (others n mark p (q + 1)) s i
rest_no n p q m mark s old t h i l = grind (arith, others_no)

pub product_yes : (n p q v : ℕ) (mark : ℕ → Bool) (x y : ℕ) → (mark q && not (q == p)) ≡ true → y ≡ power_at n q
    → v ≡ weight x (others n mark p q) → mul (bit_xor x y) v ≡ weight x (others n mark p (q + 1))
unfolding weight
product_yes n p q v mark x y t e h = grind (arith, others_yes)

pub product_no : (n p q v : ℕ) (mark : ℕ → Bool) (x : ℕ) → (mark q && not (q == p)) ≡ false
    → v ≡ weight x (others n mark p q) → v ≡ weight x (others n mark p (q + 1))
product_no n p q v mark x t h = h ∙ sym (ap (weight x) (others_no n mark p q t))

pub error_made : (n p q m : ℕ) (mark : ℕ → Bool) (s : ℕ → ℕ) (rest : List ℕ) (v : ℕ) → q ≡ n
    → ((i : ℕ) → i + length (others n mark p q) < m → get_or rest i 0 ≡ without (others n mark p q) s i)
    → v ≡ weight (power_at n p) (others n mark p q) → length (others n mark p n) < m
    → mul (get_or rest 0 0) (pow v 254) ≡ error_at n mark s p
unfolding error_at
error_made n p q m mark s rest v e h w l = grind arith
