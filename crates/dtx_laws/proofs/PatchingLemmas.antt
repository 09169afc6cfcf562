-- Where a word has a correction, what is patched at the places where a locator vanishes is the correction.
use Rattle.std.proofs.Common.{◌≡◌, ◌≢◌, ℕ, zero, suc, ◌-◌, ◌*◌, ◌<◌, ◌≤◌, ◌==◌, ◌&&◌, not, cond, Bool, true, false}
use Rattle.std.proofs.Common.{List, ◌∷◌, length, get_or, bit_xor, refl, sym, ap, ap₂, ◌∙◌, arith}
use Rattle.std.proofs.lemmas.List.{ext_get_or}
use Rattle.std.proofs.lemmas.Bool.{eqb-true, eqb-false}
use Rattle.std.specs.Int.Bits.{xor_zero_r, xor_assoc, xor_self, xor_lt}
use Rattle.dtx_galois.specs.Field.{mul, pow, value, AreBytes}
use Rattle.dtx_galois.proofs.FieldLemmas.{mul_comm, mul_assoc, mul_one, mul_zero, zero_mul, mul_inverse}
use Rattle.dtx_laws.specs.Codeword.{IsCorrection}
use Rattle.dtx_laws.specs.Locator.{IsLocator, low_value, Annuls, power_at, vanishes_at, others, weight, error_at}
use Rattle.dtx_laws.specs.Locator.{patched_at}
use Rattle.dtx_laws.proofs.KernelLemmas.{kernel, same_sequence}
use Rattle.dtx_laws.proofs.PairsLemmas.{pairs, moment_pairs, without_is, only}
use Rattle.dtx_laws.proofs.OthersLemmas.{few_others, weight_at_other, weight_small, weight_not_zero}
use Rattle.dtx_laws.proofs.PartsLemmas.{byte_at}

by_mark : (u : Bool) (w e c : ℕ) → (u ≡ true → e ≡ bit_xor w c) → (u ≡ false → w ≡ c) → cond u (bit_xor w e) w ≡ c
by_mark true w e c h f = ap (bit_xor w) (h refl) ∙ sym (xor_assoc w w c) ∙ ap (λ (z : ℕ). bit_xor z c) (xor_self w)
by_mark false w e c h f = f refl

-- what is left of the sequence, through the weight's inverse
error_from : (d v : ℕ) → d < 256 → v < 256 → v ≢ 0 → mul (mul d v) (pow v 254) ≡ d
error_from d v ld lv h = grind (arith, mul_assoc, mul_inverse, mul_comm, mul_one)

mark_cases : (u : Bool) (d v : ℕ) → (u ≡ true → v ≡ 0) → (u ≡ false → d ≡ 0) → mul d v ≡ 0
mark_cases true d v h f = ap (mul d) (h refl) ∙ mul_zero d
mark_cases false d v h f = ap (λ (z : ℕ). mul z v) (f refl) ∙ zero_mul v

same_by_test : (a b : ℕ) (u : Bool) → (a == b) ≡ u → (a ≢ b → ⊥) → a ≡ b
same_by_test a b true t h = eqb-true a b t
same_by_test a b false t h = absurd (h (eqb-false a b t))

error_is : (n p m : ℕ) (mark : ℕ → Bool) (word code : List ℕ) (s : ℕ → ℕ) → n ≤ 255 → p < n → length word ≡ n
    → length code ≡ n → AreBytes word → AreBytes code
    → ((j : ℕ) → j < m → s j ≡ bit_xor (value word (pow 2 j)) (value code (pow 2 j))) → length (others n mark p n) < m
    → ((q : ℕ) → q < n → mark q ≡ false → get_or word q 0 ≡ get_or code q 0)
    → error_at n mark s p ≡ bit_xor (get_or word p 0) (get_or code p 0)
unfolding error_at power_at
error_is n p m mark word code s l a lw lc bw bc h few f =
    let ys : List ℕ = others n mark p n in
    let d : ℕ = bit_xor (get_or word p 0) (get_or code p 0) in
    let lwc : length word ≡ length code = lw ∙ sym lc in
    ap (λ (z : ℕ). mul z (pow (weight (pow 2 (n - 1 - p)) (others n mark p n)) 254))
    (without_is (others n mark p n) s 0 m (pairs word code) (λ j r. grind (arith, moment_pairs)) (omega arith)
    ∙ only (λ x. weight x (others n mark p n)) word code p (lw ∙ sym lc) (omega arith)
    (λ q r e. mark_cases (mark q) (bit_xor (get_or word q 0) (get_or code q 0))
    (weight (pow 2 (length word - 1 - q)) (others n mark p n)) (λ t. grind (arith, weight_at_other))
    (λ t. ap (λ (z : ℕ). bit_xor z (get_or code q 0)) (f q (omega arith) t) ∙ xor_self (get_or code q 0)))
    ∙ ap (λ z. mul (bit_xor (get_or word p 0) (get_or code p 0)) (weight (pow 2 (z - 1 - p)) (others n mark p n))) lw)
    ∙ error_from (bit_xor (get_or word p 0) (get_or code p 0)) (weight (pow 2 (n - 1 - p)) (others n mark p n))
    (xor_lt 8 (get_or word p 0) (get_or code p 0) (byte_at word p bw) (byte_at code p bc))
    (weight_small (pow 2 (n - 1 - p)) (others n mark p n)) (weight_not_zero n mark p n l a (omega arith))

-- where two words differ at marked places alone, what is patched there is the other word
pub patched_other : (n m : ℕ) (mark : ℕ → Bool) (word code new : List ℕ) (s : ℕ → ℕ) → n ≤ 255 → length word ≡ n
    → length code ≡ n → AreBytes word → AreBytes code
    → ((j : ℕ) → j < m → s j ≡ bit_xor (value word (pow 2 j)) (value code (pow 2 j)))
    → ((q : ℕ) → q < n → mark q ≡ false → get_or word q 0 ≡ get_or code q 0)
    → ((p : ℕ) → p < n → mark p ≡ true → length (others n mark p n) < m)
    → ((p : ℕ) → p < n → get_or new p 0 ≡ patched_at n mark s word p) → length new ≡ n → new ≡ code
patched_other n m mark word code new s l lw lc bw bc h f few hn ln = ext_get_or 0 new code (ln ∙ sym lc) (λ p q.
    let lp : p < n = omega (arith, ln) in
    hn p lp ∙ by_mark (mark p) (get_or word p 0) (error_at n mark s p) (get_or code p 0)
    (λ t. error_is n p m mark word code s l lp lw lc bw bc h (few p lp t) f) (f p lp))

-- where the word has a correction, what is patched at a place is the correction's byte
patched_is : (n k t p : ℕ) (word code locator : List ℕ) (s : ℕ → ℕ) → n ≤ 255 → n - k ≡ 2 * t → 0 < t → AreBytes word
    → length word ≡ n → IsCorrection n k word code
    → IsLocator t s locator → ((i : ℕ) → i < 2 * t → s i ≡ value word (pow 2 i)) → p < n
    → patched_at n (vanishes_at n locator) s word p ≡ get_or code p 0
patched_is n k t p word code locator s l e pos b long c loc h lp =
    by_mark (vanishes_at n locator p) (get_or word p 0) (error_at n (vanishes_at n locator) s p) (get_or code p 0)
    (λ u. error_is n p (2 * t) (vanishes_at n locator) word code s l lp long c.codeword.long b c.codeword.bytes
    (λ i r. h i r ∙ sym (xor_zero_r (value word (pow 2 i))) ∙ ap (bit_xor (value word (pow 2 i))) (grind arith))
    (grind (arith, few_others)) (λ q r u. unmarked q r u)) (λ u. unmarked p lp u)
  where
    annuls : Annuls locator (λ i. value word (pow 2 i)) t
    annuls = λ i r. sym (same_sequence locator s (λ i. value word (pow 2 i)) i (λ i q. h i (omega (arith, loc.long))))
        ∙ loc.annuls i r

    unmarked : (q : ℕ) → q < n → vanishes_at n locator q ≡ false → get_or word q 0 ≡ get_or code q 0
    unmarked q r u = same_by_test (get_or word q 0) (get_or code q 0) (get_or word q 0 == get_or code q 0) refl
        (λ d. eqb-false (low_value locator (power_at n q)) 0 u (unfold power_at in
        kernel n k t word code locator l e b long c loc.bytes loc.long annuls q r d))

-- ---- the whole word

pub others_same : (n : ℕ) (a b : ℕ → Bool) (p c : ℕ) → ((q : ℕ) → q < c → a q ≡ b q) → others n a p c ≡ others n b p c
unfolding others
others_same n a b p zero h = refl
others_same n a b p (suc c) h =
    ap₂ (λ (u : Bool) (ys : List ℕ). cond (u && not (c == p)) (power_at n c ∷ ys) ys) (h c (omega arith))
    (others_same n a b p c (λ q l. h q (omega arith)))

patched_same : (n : ℕ) (a b : ℕ → Bool) (s : ℕ → ℕ) (word : List ℕ) (p : ℕ) → p < n → ((q : ℕ) → q < n → a q ≡ b q)
    → patched_at n a s word p ≡ patched_at n b s word p
unfolding error_at
patched_same n a b s word p l h = grind (arith, others_same)

-- where the word has a correction, it is what is patched at the places where a locator vanishes
pub patched_right : (n k t : ℕ) (word code locator new : List ℕ) (s : ℕ → ℕ) (mark : ℕ → Bool) → n ≤ 255 → n - k ≡ 2 * t
    → 0 < t → AreBytes word → length word ≡ n → IsCorrection n k word code
    → IsLocator t s locator → ((i : ℕ) → i < 2 * t → s i ≡ value word (pow 2 i))
    → ((p : ℕ) → p < n → mark p ≡ vanishes_at n locator p)
    → ((p : ℕ) → p < n → length (others n mark p n) < 2 * t → get_or new p 0 ≡ patched_at n mark s word p)
    → length new ≡ n → new ≡ code
patched_right n k t word code locator new s mark l e pos b long c loc h hm hn ln =
    ext_get_or 0 new code (ln ∙ sym c.codeword.long) (λ p q.
    let lp : p < n = omega (arith, ln) in
    hn p lp (omega (
      arith,
      few_others n p loc.some.0 locator l loc.bytes loc.some.1,
      loc.long,
      ap length (others_same n mark (vanishes_at n locator) p n hm),
    )) ∙ patched_same n mark (vanishes_at n locator) s word p lp hm
    ∙ patched_is n k t p word code locator s l e pos b long c loc h lp)
