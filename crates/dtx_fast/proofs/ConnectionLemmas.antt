-- The product of 1 - y * X over the powers y at the places where a word is wrong is a recurrence of its syndromes.
use Rattle.std.proofs.Common.{◌≡◌, ℕ, zero, suc, ◌+◌, ◌-◌, ◌<◌, ◌≤◌, List, [], ◌∷◌, map, length, bit_xor, refl, sym, ap}
use Rattle.std.proofs.Common.{ap₂, ◌∙◌, arith}
use Rattle.std.proofs.lemmas.List.{length-map}
use Rattle.std.specs.List.{AllByRecursion}
use Rattle.std.specs.Int.Bits.{xor_self, xor_zero_r}
use Rattle.dtx_galois.specs.Field.{mul, pow, value}
use Rattle.dtx_galois.proofs.FieldLemmas.{mul_one, mul_zero, zero_mul}
use Rattle.dtx_galois.proofs.ValuesLemmas.{value_small}
use Rattle.dtx_laws.specs.Codeword.{IsCorrection, distance}
use Rattle.dtx_laws.specs.Locator.{weight, without}
use Rattle.dtx_laws.proofs.MomentsLemmas.{moment, moment_zero, AreZero}
use Rattle.dtx_laws.proofs.PairsLemmas.{without_is}
use Rattle.dtx_laws.proofs.WordsLemmas.{differences, moment_differences, length_differences}
use Rattle.dtx_fast.specs.Recurrence.{discrepancy, moved, connection, IsRecurrence, IsLeast}
use Rattle.dtx_fast.proofs.RecurrenceLemmas.{discrepancy_mended, discrepancy_moved, discrepancy_longer, same_terms}

connection_first : (ys : List ℕ) → connection ys 0 ≡ 1
unfolding connection moved
connection_first [] = refl
connection_first (y ∷ ys) = ap₂ bit_xor (connection_first ys) (mul_zero y)

-- no coefficient stands behind as many places as there are y's
connection_end : (ys : List ℕ) (k : ℕ) → length ys < k → connection ys k ≡ 0
unfolding connection moved
connection_end ys zero l = absurd (omega arith)
connection_end [] (suc k) l = refl
connection_end (y ∷ ys) (suc k) l =
    ap₂ bit_xor (connection_end ys (suc k) (omega arith)) (ap (mul y) (connection_end ys k (omega arith)) ∙ mul_zero y)

-- the combination by the product is the sequence without the y's
connection_is : (ys : List ℕ) (s : ℕ → ℕ) (n : ℕ) → ((j : ℕ) → s j < 256) → length ys ≤ n
    → discrepancy (suc (length ys)) (connection ys) s n ≡ without ys s (n - length ys)
unfolding discrepancy connection without
connection_is [] s n b l = grind (arith, mul_one)
connection_is (y ∷ ys) s n b l =
    discrepancy_mended (suc (suc (length ys))) y (connection ys) (moved 1 (connection ys)) s n
    ∙ ap₂ (λ (u v : ℕ). bit_xor u (mul y v)) (ap (λ w. discrepancy w (connection ys) s n) (one_more (length ys))
    ∙ discrepancy_longer (suc (length ys)) 1 (connection ys) s n (λ k p q. connection_end ys k (omega arith))
    ∙ connection_is ys s n b (omega arith) ∙ ap (without ys s) (next n (length ys) (omega arith)))
    (ap (λ w. discrepancy w (moved 1 (connection ys)) s n) (one_before (length ys))
    ∙ discrepancy_moved 1 (suc (length ys)) (connection ys) s n
    ∙ connection_is ys s (n - 1) b (omega arith) ∙ ap (without ys s) (before n (length ys)))
  where
    one_more : (w : ℕ) → suc (suc w) ≡ suc w + 1
    one_more w = omega arith

    one_before : (w : ℕ) → suc (suc w) ≡ 1 + suc w
    one_before w = omega arith

    next : (n w : ℕ) → suc w ≤ n → n - w ≡ suc (n - suc w)
    next n w l = omega arith

    before : (n w : ℕ) → n - 1 - w ≡ n - suc w
    before n w = omega arith

-- ---- the powers at the wrong places

abbrev pub powers : List (ℕ × ℕ) → List ℕ
powers ps = map (λ p. p.1) ps

abbrev weighed : List ℕ → List (ℕ × ℕ) → List (ℕ × ℕ)
weighed ys ps = map (λ p. (mul p.0 (weight p.1 ys), p.1)) ps

abbrev AreMet : List ℕ → List (ℕ × ℕ) → Type 0
AreMet ys ps = AllByRecursion (λ p. weight p.1 ys ≡ 0) ps

met_more : (y : ℕ) (ys : List ℕ) (ps : List (ℕ × ℕ)) → AreMet ys ps → AreMet (y ∷ ys) ps
unfolding weight
met_more y ys [] h = tt
met_more y ys (p ∷ ps) h = (ap (mul (bit_xor p.1 y)) h.0 ∙ mul_zero (bit_xor p.1 y), met_more y ys ps h.1)

all_met : (ps : List (ℕ × ℕ)) → AreMet (powers ps) ps
unfolding weight
all_met [] = tt
all_met (p ∷ ps) = (
  ap (λ (z : ℕ). mul z (weight p.1 (powers ps))) (xor_self p.1) ∙ zero_mul (weight p.1 (powers ps)),
  met_more p.1 (powers ps) ps (all_met ps),
)

zero_met : (ys : List ℕ) (ps : List (ℕ × ℕ)) → AreMet ys ps → AreZero (weighed ys ps)
zero_met ys [] h = tt
zero_met ys (p ∷ ps) h = (ap (mul p.0) h.0 ∙ mul_zero p.0, zero_met ys ps h.1)

-- the product over the x's of pairs is a recurrence of their moments
connection_recurs : (m : ℕ) (ps : List (ℕ × ℕ)) (s : ℕ → ℕ) → ((j : ℕ) → s j < 256)
    → ((j : ℕ) → j < m → s j ≡ moment j ps) → IsRecurrence m (length ps) s (connection (powers ps))
connection_recurs m ps s b h = record {
  newest = connection_first (powers ps);
  next = λ i l r.
      let long : length (powers ps) ≡ length ps = length-map ps (λ p. p.1) in
      ap (λ w. discrepancy (suc w) (connection (powers ps)) s i) (sym long)
      ∙ connection_is (powers ps) s i b (omega arith)
      ∙ without_is (powers ps) s (i - length (powers ps)) m ps h (omega arith)
      ∙ moment_zero (i - length (powers ps)) (weighed (powers ps) ps) (zero_met (powers ps) ps (all_met ps));
}

recurs_same : (m l : ℕ) (s r c : ℕ → ℕ) → ((j : ℕ) → j < m → s j ≡ r j) → IsRecurrence m l r c → IsRecurrence m l s c
recurs_same m l s r c h p = record {
  newest = p.newest;
  next = λ i q u. same_terms (suc l) c s r i (λ k v. h (i - k) (omega arith)) ∙ p.next i q u;
}

-- what is no longer than any recurrence of a word's syndromes is no longer than there are wrong places
pub least_of_word : (n k m l : ℕ) (word code : List ℕ) (s : ℕ → ℕ) → length word ≡ n → IsCorrection n k word code
    → m ≤ n - k → ((j : ℕ) → j < m → s j ≡ value word (pow 2 j)) → IsLeast m l s → l ≤ distance word code
least_of_word n k m l word code s long c few h least = omega (
  arith,
  length_differences word code,
  least (length (differences word code)) (connection (powers (differences word code)))
      (recurs_same m (length (differences word code)) s (λ j. value word (pow 2 j))
      (connection (powers (differences word code))) h
      (connection_recurs m (differences word code) (λ j. value word (pow 2 j)) (λ j. value_small word (pow 2 j))
      (λ j r. sym (moment_differences j word code (long ∙ sym c.codeword.long)
      ∙ ap (bit_xor (value word (pow 2 j))) (c.codeword.vanishes j (omega arith))
      ∙ xor_zero_r (value word (pow 2 j)))))),
)
