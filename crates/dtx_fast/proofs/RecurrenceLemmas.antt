-- Discrepancies are linear, and no recurrence is shorter than the one that the method of Berlekamp and Massey finds.
use Rattle.std.proofs.Common.{◌≡◌, ◌≢◌, ℕ, zero, suc, ◌+◌, ◌-◌, ◌<◌, ◌≤◌, inl, inr, bit_xor, refl, sym, ap, ap₂, ◌∙◌}
use Rattle.std.proofs.Common.{arith, add-one}
use Rattle.std.proofs.lemmas.Bool.{cases_lt}
use Rattle.std.specs.Int.Bits.{xor_zero_r, xor_comm, xor_lt, xor_assoc}
use Rattle.dtx_galois.specs.Field.{mul}
use Rattle.dtx_galois.proofs.LinearLemmas.{mul_left, mul_right, xor_swap}
use Rattle.dtx_galois.proofs.FieldLemmas.{mul_assoc, mul_one, mul_zero, zero_mul, mul_small, mul_swap}
use Rattle.dtx_fast.specs.Recurrence.{discrepancy, IsRecurrence, IsLeast, moved}

-- ---- discrepancies

pub discrepancy_small : (w : ℕ) (c s : ℕ → ℕ) (n : ℕ) → discrepancy w c s n < 256
unfolding discrepancy
discrepancy_small zero c s n = omega arith
discrepancy_small (suc w) c s n =
    xor_lt 8 (discrepancy w c s n) (mul (c w) (s (n - w))) (discrepancy_small w c s n) (mul_small (c w) (s (n - w)))

pub same_coefficients : (w : ℕ) (c d s : ℕ → ℕ) (n : ℕ) → ((k : ℕ) → k < w → c k ≡ d k)
    → discrepancy w c s n ≡ discrepancy w d s n
unfolding discrepancy
same_coefficients zero c d s n h = refl
same_coefficients (suc w) c d s n h =
    ap₂ (λ (x y : ℕ). bit_xor x (mul y (s (n - w)))) (same_coefficients w c d s n (λ k l. h k (omega arith)))
    (h w (omega arith))

pub same_terms : (w : ℕ) (c s r : ℕ → ℕ) (n : ℕ) → ((k : ℕ) → k < w → s (n - k) ≡ r (n - k))
    → discrepancy w c s n ≡ discrepancy w c r n
unfolding discrepancy
same_terms zero c s r n h = refl
same_terms (suc w) c s r n h =
    ap₂ (λ (x y : ℕ). bit_xor x (mul (c w) y)) (same_terms w c s r n (λ k l. h k (omega arith))) (h w (omega arith))

discrepancy_sum : (w : ℕ) (c d s : ℕ → ℕ) (n : ℕ)
    → discrepancy w (λ k. bit_xor (c k) (d k)) s n ≡ bit_xor (discrepancy w c s n) (discrepancy w d s n)
unfolding discrepancy
discrepancy_sum zero c d s n = refl
discrepancy_sum (suc w) c d s n = ap₂ bit_xor (discrepancy_sum w c d s n) (mul_left (c w) (d w) (s (n - w)))
    ∙ xor_swap (discrepancy w c s n) (discrepancy w d s n) (mul (c w) (s (n - w))) (mul (d w) (s (n - w)))

discrepancy_scaled : (w f : ℕ) (c s : ℕ → ℕ) (n : ℕ)
    → discrepancy w (λ k. mul f (c k)) s n ≡ mul f (discrepancy w c s n)
unfolding discrepancy
discrepancy_scaled zero f c s n = sym (mul_zero f)
discrepancy_scaled (suc w) f c s n = ap₂ bit_xor (discrepancy_scaled w f c s n) (mul_assoc f (c w) (s (n - w)))
    ∙ sym (mul_right f (discrepancy w c s n) (mul (c w) (s (n - w))))

-- of a sum of coefficients with a multiple of others
pub discrepancy_mended : (w f : ℕ) (c d s : ℕ → ℕ) (n : ℕ)
    → discrepancy w (λ k. bit_xor (c k) (mul f (d k))) s n ≡ bit_xor (discrepancy w c s n) (mul f (discrepancy w d s n))
discrepancy_mended w f c d s n = rw (discrepancy_sum w c (λ k. mul f (d k)) s n, discrepancy_scaled w f d s n)

-- the first term by itself
discrepancy_first : (w : ℕ) (c s : ℕ → ℕ) (n : ℕ)
    → discrepancy (suc w) c s n ≡ bit_xor (mul (c 0) (s n)) (discrepancy w (λ k. c (suc k)) s (n - 1))
unfolding discrepancy
discrepancy_first zero c s n = xor_comm 0 (mul (c 0) (s (n - 0))) ∙ ap (λ j. bit_xor (mul (c 0) (s j)) 0) (omega arith)
discrepancy_first (suc w) c s n =
    ap₂ (λ (x : ℕ) (j : ℕ). bit_xor x (mul (c (suc w)) (s j))) (discrepancy_first w c s n) (omega arith)
    ∙ xor_assoc (mul (c 0) (s n)) (discrepancy w (λ k. c (suc k)) s (n - 1)) (mul (c (suc w)) (s (n - 1 - w)))

-- coefficients y places on meet the terms y places before
pub discrepancy_moved : (y w : ℕ) (b s : ℕ → ℕ) (n : ℕ)
    → discrepancy (y + w) (moved y b) s n ≡ discrepancy w b s (n - y)
unfolding moved
discrepancy_moved zero w b s n = ap₂ (λ v j. discrepancy v (moved 0 b) s j) (omega arith) (omega arith)
discrepancy_moved (suc y) w b s n = ap (λ v. discrepancy v (moved (suc y) b) s n) (omega arith)
    ∙ discrepancy_first (y + w) (moved (suc y) b) s n
    ∙ ap (λ x. bit_xor x (discrepancy (y + w) (moved y b) s (n - 1))) (zero_mul (s n))
    ∙ xor_comm 0 (discrepancy (y + w) (moved y b) s (n - 1)) ∙ xor_zero_r (discrepancy (y + w) (moved y b) s (n - 1))
    ∙ discrepancy_moved y w b s (n - 1) ∙ ap (discrepancy w b s) (omega arith)

-- coefficients that are 0 add nothing
pub discrepancy_longer : (w v : ℕ) (c s : ℕ → ℕ) (n : ℕ) → ((k : ℕ) → w ≤ k → k < w + v → c k ≡ 0)
    → discrepancy (w + v) c s n ≡ discrepancy w c s n
unfolding discrepancy
discrepancy_longer w zero c s n h = grind arith
discrepancy_longer w (suc v) c s n h = ap (λ u. discrepancy u c s n) (add_suc w v)
    ∙ ap₂ bit_xor (discrepancy_longer w v c s n (λ k l m. h k l (omega arith))) (grind (arith, zero_mul))
    ∙ xor_zero_r (discrepancy w c s n)
  where
    add_suc : (w v : ℕ) → w + suc v ≡ suc (w + v)
    add_suc w v = omega arith

-- one more of a loop's terms
pub discrepancy_next : (w : ℕ) (c s : ℕ → ℕ) (n : ℕ)
    → discrepancy (w + 1) c s n ≡ bit_xor (discrepancy w c s n) (mul (c w) (s (n - w)))
unfolding discrepancy
discrepancy_next w c s n = ap (λ v. discrepancy v c s n) (add-one w)

-- ---- no recurrence is shorter

sum_terms : (w : ℕ) (c s r : ℕ → ℕ) (n : ℕ)
    → discrepancy w c (λ m. bit_xor (s m) (r m)) n ≡ bit_xor (discrepancy w c s n) (discrepancy w c r n)
unfolding discrepancy
sum_terms zero c s r n = refl
sum_terms (suc w) c s r n = ap₂ bit_xor (sum_terms w c s r n) (mul_right (c w) (s (n - w)) (r (n - w)))
    ∙ xor_swap (discrepancy w c s n) (discrepancy w c r n) (mul (c w) (s (n - w))) (mul (c w) (r (n - w)))

scaled_terms : (w f : ℕ) (c s : ℕ → ℕ) (n : ℕ) → discrepancy w c (λ m. mul f (s m)) n ≡ mul f (discrepancy w c s n)
unfolding discrepancy
scaled_terms zero f c s n = sym (mul_zero f)
scaled_terms (suc w) f c s n = ap₂ bit_xor (scaled_terms w f c s n) (mul_swap (c w) f (s (n - w)))
    ∙ sym (mul_right f (discrepancy w c s n) (mul (c w) (s (n - w))))

earlier_terms : (w y : ℕ) (c s : ℕ → ℕ) (n : ℕ) → discrepancy w c (λ m. s (m - y)) n ≡ discrepancy w c s (n - y)
unfolding discrepancy
earlier_terms zero y c s n = refl
earlier_terms (suc w) y c s n =
    ap₂ (λ (x : ℕ) (j : ℕ). bit_xor x (mul (c w) (s j))) (earlier_terms w y c s n) (omega arith)

zero_terms : (w : ℕ) (c : ℕ → ℕ) (n : ℕ) → discrepancy w c (λ m. 0) n ≡ 0
unfolding discrepancy
zero_terms zero c n = refl
zero_terms (suc w) c n = ap₂ bit_xor (zero_terms w c n) (mul_zero (c w))

-- the order of two sums is free: each of the two is the sum over j and k of c j * b k * s (n - j - k)
either_order : (w v : ℕ) (c b s : ℕ → ℕ) (n : ℕ)
    → discrepancy w c (λ m. discrepancy v b s m) n ≡ discrepancy v b (λ m. discrepancy w c s m) n
unfolding discrepancy
either_order zero v c b s n = sym (zero_terms v b n)
either_order (suc w) v c b s n = ap₂ bit_xor (either_order w v c b s n)
    (ap (mul (c w)) (sym (earlier_terms v w b s n)) ∙ sym (scaled_terms v (c w) b (λ m. s (m - w)) n))
    ∙ sym (sum_terms v b (λ m. discrepancy w c s m) (λ m. mul (c w) (s (m - w))) n)

-- where a sequence is 0 before term n, from the oldest on that is met, its first term is left
only_newest : (k : ℕ) (b r : ℕ → ℕ) (n : ℕ) → b 0 ≡ 1 → k ≤ n → ((i : ℕ) → n - k ≤ i → i < n → r i ≡ 0) → r n < 256
    → discrepancy (suc k) b r n ≡ r n
unfolding discrepancy
only_newest zero b r n e l h m = grind (arith, mul_one)
only_newest (suc k) b r n e l h m = ap₂ bit_xor (only_newest k b r n e (omega arith) (λ i p q. h i (omega arith) q) m)
    (ap (mul (b (suc k))) (h (n - suc k) (omega arith) (omega arith)) ∙ mul_zero (b (suc k))) ∙ xor_zero_r (r n)

all_zero_terms : (w : ℕ) (c r : ℕ → ℕ) (n : ℕ) → ((k : ℕ) → k < w → r (n - k) ≡ 0) → discrepancy w c r n ≡ 0
all_zero_terms w c r n h = same_terms w c r (λ m. 0) n h ∙ zero_terms w c n

-- Where c gives the terms of s before n and not term n, what gives those to n with it has at least n + 1 - l
-- coefficients.
pub none_shorter : (n l k : ℕ) (s c b : ℕ → ℕ) → IsRecurrence n l s c → l ≤ n → discrepancy (suc l) c s n ≢ 0
    → IsRecurrence (suc n) k s b → n < l + k
none_shorter n l k s c b p m d q = elim (cases_lt n (l + k)) [
  | inl r ↦ r
  | inr r ↦ absurd (d (contradicts r))
]
  where
    contradicts : l + k ≤ n → discrepancy (suc l) c s n ≡ 0
    contradicts r = sym (grind (arith, only_newest, discrepancy_small))
        ∙ sym (either_order (suc l) (suc k) c b s n) ∙ all_zero_terms (suc l) c (λ i. discrepancy (suc k) b s i) n
        (λ j u. q.next (n - j) (omega arith) (omega arith))

pub least_same : (n l : ℕ) (s : ℕ → ℕ) → IsLeast n l s → IsLeast (suc n) l s
least_same n l s h k b r = h k b (record { newest = r.newest; next = λ i p q. r.next i p (omega arith) })

pub least_longer : (n l : ℕ) (s c : ℕ → ℕ) → IsRecurrence n l s c → l ≤ n → discrepancy (suc l) c s n ≢ 0
    → IsLeast (suc n) (suc n - l) s
least_longer n l s c p m d k b q = omega (arith, none_shorter n l k s c b p m d q)
