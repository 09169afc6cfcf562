-- One turn of the loop that cancels the marked places.
use Rattle.std.proofs.Common.{◌≡◌, ℕ, suc, ◌+◌, ◌<◌, Bool, true, false, List, ◌∷◌, length, get_or, bit_xor, sym, ap}
use Rattle.std.proofs.Common.{ap₂, ◌∙◌, arith, add-one}
use Rattle.dtx_galois.specs.Field.{mul}
use Rattle.dtx_laws.specs.Locator.{power_at, others, without}
use Rattle.dtx_erase.proofs.Marked.{others_by}

pub rest_yes : (n q m y : ℕ) (mark : ℕ → Bool) (s : ℕ → ℕ) (new old : List ℕ) → q < n → mark q ≡ true → y ≡ power_at n q
    → ((i : ℕ) → i + length (others n mark n q) < m → get_or old i 0 ≡ without (others n mark n q) s i)
    → ((i : ℕ) → i + 1 < m → get_or new i 0 ≡ bit_xor (get_or old (i + 1) 0) (mul y (get_or old i 0)))
    → (i : ℕ) → i + length (others n mark n (q + 1)) < m → get_or new i 0 ≡ without (others n mark n (q + 1)) s i
unfolding without
rest_yes n q m y mark s new old b t e h c i l =
    let o : others n mark n (q + 1) ≡ power_at n q ∷ others n mark n q = others_by n q mark true b t in
    let r : length (others n mark n (q + 1)) ≡ suc (length (others n mark n q)) = ap length o in
    let a : get_or old (i + 1) 0 ≡ without (others n mark n q) s (suc i) = grind (arith, add-one) in
    c i (omega arith) ∙ ap₂ (λ (v w : ℕ). bit_xor v w) a (ap₂ mul e (h i (omega arith)))
    ∙ sym (ap (λ ys. without ys s i) o)

pub rest_no : (n q m : ℕ) (mark : ℕ → Bool) (s : ℕ → ℕ) (old : List ℕ) → q < n → mark q ≡ false
    → ((i : ℕ) → i + length (others n mark n q) < m → get_or old i 0 ≡ without (others n mark n q) s i)
    → (i : ℕ) → i + length (others n mark n (q + 1)) < m → get_or old i 0 ≡ without (others n mark n (q + 1)) s i
rest_no n q m mark s old b t h i l =
    let r : length (others n mark n (q + 1)) ≡ length (others n mark n q) = ap length (others_by n q mark false b t) in
    h i (omega arith) ∙ sym (ap (λ ys. without ys s i) (others_by n q mark false b t))
