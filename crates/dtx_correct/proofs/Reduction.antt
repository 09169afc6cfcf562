-- A vector that solves one more equation at each step: begin with the unit vectors, and give one up for each equation.
use Rattle.std.proofs.Common.{◌≡◌, ℕ, suc, ◌+◌, ◌<◌, ◌⊎◌, ◌==◌, Bool, true, not, ◌&&◌, List, [], ◌∷◌, length, get_or}
use Rattle.std.proofs.Common.{bit_xor, refl, sym, ap, ap₂, ◌∙◌, arith, inl, inr}
use Rattle.std.proofs.lemmas.Bool.{and_parts, not-true, eqb-false}
use Rattle.std.proofs.lemmas.List.{length-map, get_or-map}
use Rattle.std.specs.Int.Bits.{xor_self, xor_zero_r, xor_lt}
use Rattle.dtx_galois.specs.Field.{mul, sums, scaled}
use Rattle.dtx_galois.proofs.LinearLemmas.{mul_left, mul_right, xor_swap}
use Rattle.dtx_galois.proofs.FieldLemmas.{mul_comm, mul_assoc, mul_one, mul_zero, mul_small}
use Rattle.dtx_galois.proofs.WordsLemmas.{length_sums, bytes_sums, bytes_scaled}
use Rattle.dtx_laws.specs.Locator.{combination}
use Rattle.dtx_laws.proofs.PartsLemmas.{sums_at}
use Rattle.dtx_correct.specs.Elimination.{Solves, reduced}

pub combination_sums : (xs ys : List ℕ) (s : ℕ → ℕ) (i : ℕ) → length xs ≡ length ys
    → combination (sums xs ys) s i ≡ bit_xor (combination xs s i) (combination ys s i)
combination_sums [] [] s i l = refl
combination_sums [] (y ∷ ys) s i l = absurd (omega arith)
combination_sums (x ∷ xs) [] s i l = absurd (omega arith)
combination_sums (x ∷ xs) (y ∷ ys) s i l =
    ap₂ bit_xor (mul_left x y (s i)) (combination_sums xs ys s (suc i) (omega arith))
    ∙ xor_swap (mul x (s i)) (mul y (s i)) (combination xs s (suc i)) (combination ys s (suc i))

pub combination_scaled : (f : ℕ) (xs : List ℕ) (s : ℕ → ℕ) (i : ℕ)
    → combination (scaled f xs) s i ≡ mul f (combination xs s i)
combination_scaled f [] s i = sym (mul_zero f)
combination_scaled f (x ∷ xs) s i = ap₂ bit_xor (mul_assoc f x (s i)) (combination_scaled f xs s (suc i))
    ∙ sym (mul_right f (mul x (s i)) (combination xs s (suc i)))

reduced_at : (w e : ℕ) (s : ℕ → ℕ) (a : ℕ → Bool) (v : ℕ → List ℕ) (p g k j : ℕ) → Solves w e s a v → p < w → k < w
    → j < w → get_or (v p) j 0 ≡ 0 → get_or (reduced s e v p g k) j 0 ≡ get_or (v k) j 0
reduced_at w e s a v p g k j h lp lk lj z =
    sums_at (v k) (scaled (mul (combination (v k) s e) g) (v p)) j (omega (arith, h.long k lk))
    (omega (arith, length-map (v p) (mul (mul (combination (v k) s e) g)), h.long p lp))
    ∙ ap (bit_xor (get_or (v k) j 0)) (grind (arith, get_or-map, mul_zero)) ∙ xor_zero_r (get_or (v k) j 0)

reduced_annuls : (s : ℕ → ℕ) (e i : ℕ) (v : ℕ → List ℕ) (p g k : ℕ) → length (v k) ≡ length (v p)
    → combination (reduced s e v p g k) s i ≡ bit_xor (combination (v k) s i)
    (mul (mul (combination (v k) s e) g) (combination (v p) s i))
reduced_annuls s e i v p g k l = grind (arith, combination_sums, length-map, combination_scaled)

pub combination_small : (xs : List ℕ) (s : ℕ → ℕ) (i : ℕ) → combination xs s i < 256
combination_small [] s i = omega arith
combination_small (x ∷ xs) s i =
    xor_lt 8 (mul x (s i)) (combination xs s (suc i)) (mul_small x (s i)) (combination_small xs s (suc i))

-- the new equation
pub cancels : (x f g : ℕ) → x < 256 → mul f g ≡ 1 → bit_xor x (mul (mul x g) f) ≡ 0
cancels x f g l e = rw (mul_assoc x g f, mul_comm g f, e, mul_comm x 1, mul_one x l, xor_self x)

order : (e i : ℕ) → i < e + 1 → (i ≡ e) ⊎ (i < e)
order e i l = grind arith

pub step : (w e : ℕ) (s : ℕ → ℕ) (a : ℕ → Bool) (v : ℕ → List ℕ) (p g : ℕ) → Solves w e s a v → p < w → a p ≡ true
    → mul (combination (v p) s e) g ≡ 1 → Solves w (e + 1) s (λ k. a k && not (k == p)) (reduced s e v p g)
step w e s a v p g h lp ap' f = record {
  long = λ k l. length_sums (v k) (scaled (mul (combination (v k) s e) g) (v p)) ∙ h.long k l;
  bytes = λ k l. bytes_sums (v k) (scaled (mul (combination (v k) s e) g) (v p)) (h.bytes k l)
      (bytes_scaled (mul (combination (v k) s e) g) (v p));
  own = λ k l t. reduced_at w e s a v p g k k h lp l l (h.apart p k lp l ap' (kept k t) (λ q. other k t (sym q)))
      ∙ h.own k l (kept k t);
  apart = λ k j l m t u d. reduced_at w e s a v p g k j h lp l m
      (h.apart p j lp m ap' (kept j u) (λ q. other j u (sym q))) ∙ h.apart k j l m (kept k t) (kept j u) d;
  annuls = λ k i l t m. by_cases k i l (kept k t) (order e i m);
}
  where
    kept : (k : ℕ) → (a k && not (k == p)) ≡ true → a k ≡ true
    kept k t = (and_parts (a k) (not (k == p)) t).0

    other : (k : ℕ) → (a k && not (k == p)) ≡ true → k ≡ p → ⊥
    other k t = eqb-false k p (not-true (k == p) (and_parts (a k) (not (k == p)) t).1)

    by_cases : (k i : ℕ) → k < w → a k ≡ true → (i ≡ e) ⊎ (i < e) → combination (reduced s e v p g k) s i ≡ 0
    by_cases k i l t (inl q) = grind (arith, reduced_annuls, cancels, combination_small)
    by_cases k i l t (inr r) = grind (arith, reduced_annuls, mul_zero)
