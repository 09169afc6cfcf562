-- Weighed words: each byte times the weight of its place, which is 0 where the place is marked. Those of codewords are
-- codewords of a code with as many parity bytes less as places are marked, so a mending becomes a correction.
use Rattle.std.proofs.Common.{◌≡◌, ◌≢◌, ℕ, zero, suc, ◌+◌, ◌-◌, ◌*◌, ◌<◌, ◌≤◌, ◌==◌, ◌||◌, cond, Bool, true, false}
use Rattle.std.proofs.Common.{List, [], ◌∷◌, map, length, get_or, bit_xor, refl, sym, ap, ap₂, ◌∙◌, subst, arith}
use Rattle.std.proofs.lemmas.Bool.{eq-eqb, eqb-true, or_cases}
use Rattle.std.specs.Int.Bits.{xor_self, xor_lt}
use Rattle.dtx_galois.specs.Field.{mul, pow, value, AreBytes}
use Rattle.dtx_galois.proofs.FieldLemmas.{mul_zero, mul_small, xor_zero, no_divisors}
use Rattle.dtx_galois.proofs.LinearLemmas.{mul_left}
use Rattle.dtx_galois.proofs.PowersLemmas.{pow_swap}
use Rattle.dtx_laws.specs.Codeword.{IsCorrection, distance}
use Rattle.dtx_laws.specs.Locator.{weight, without}
use Rattle.dtx_laws.proofs.MomentsLemmas.{moment}
use Rattle.dtx_laws.proofs.OthersLemmas.{weight_small}
use Rattle.dtx_laws.proofs.PairsLemmas.{without_is}
use Rattle.dtx_laws.proofs.PartsLemmas.{byte_at}
use Rattle.dtx_erase.specs.Mending.{lost, unmarked_distance, IsMending}

-- each byte with the power of 2 at its place
abbrev terms : List ℕ → List (ℕ × ℕ)
terms [] = []
terms (x ∷ xs) = (x, pow 2 (length xs)) ∷ terms xs

moment_terms : (i : ℕ) (xs : List ℕ) → moment i (terms xs) ≡ value xs (pow 2 i)
unfolding value
moment_terms i [] = refl
moment_terms i (x ∷ xs) = ap₂ bit_xor (ap (mul x) (pow_swap 2 (length xs) i)) (moment_terms i xs)

-- each byte times the weight of its place
abbrev pub weighed : List ℕ → List ℕ → List ℕ
weighed ys [] = []
weighed ys (x ∷ xs) = mul x (weight (pow 2 (length xs)) ys) ∷ weighed ys xs

pub length_weighed : (ys xs : List ℕ) → length (weighed ys xs) ≡ length xs
length_weighed ys [] = refl
length_weighed ys (x ∷ xs) = ap suc (length_weighed ys xs)

pub bytes_weighed : (ys xs : List ℕ) → AreBytes (weighed ys xs)
bytes_weighed ys [] = tt
bytes_weighed ys (x ∷ xs) = (mul_small x (weight (pow 2 (length xs)) ys), bytes_weighed ys xs)

terms_weighed : (ys xs : List ℕ) → map (λ p. (mul p.0 (weight p.1 ys), p.1)) (terms xs) ≡ terms (weighed ys xs)
terms_weighed ys [] = refl
terms_weighed ys (x ∷ xs) = ap₂ (λ (m : ℕ) (ps : List (ℕ × ℕ)). (mul x (weight (pow 2 (length xs)) ys), pow 2 m) ∷ ps)
    (sym (length_weighed ys xs)) (terms_weighed ys xs)

-- cancelling the marked places from the syndromes leaves those of the weighed word
pub value_weighed : (ys word : List ℕ) (s : ℕ → ℕ) (i m : ℕ) → ((j : ℕ) → j < m → s j ≡ value word (pow 2 j))
    → i + length ys < m → without ys s i ≡ value (weighed ys word) (pow 2 i)
value_weighed ys word s i m h l = without_is ys s i m (terms word) (λ j r. h j r ∙ sym (moment_terms j word)) l
    ∙ ap (moment i) (terms_weighed ys word) ∙ moment_terms i (weighed ys word)

vanishes_weighed : (ys code : List ℕ) (i m : ℕ) → ((j : ℕ) → j < m → value code (pow 2 j) ≡ 0) → i + length ys < m
    → value (weighed ys code) (pow 2 i) ≡ 0
vanishes_weighed ys code i m h l = sym (value_weighed ys code (λ j. value code (pow 2 j)) i m (λ j r. refl) l)
    ∙ without_is ys (λ j. value code (pow 2 j)) i m [] h l

weighed_at : (ys xs : List ℕ) (p : ℕ) → p < length xs
    → get_or (weighed ys xs) p 0 ≡ mul (get_or xs p 0) (weight (pow 2 (length xs - 1 - p)) ys)
weighed_at ys [] p l = absurd (omega arith)
weighed_at ys (x ∷ xs) zero l = ap (λ n. mul x (weight (pow 2 n) ys)) (omega arith)
weighed_at ys (x ∷ xs) (suc p) l =
    weighed_at ys xs p (omega arith) ∙ ap (λ n. mul (get_or xs p 0) (weight (pow 2 n) ys)) (omega arith)

-- where a place has a weight, a difference stays one
pub weighed_differ : (n p : ℕ) (ys word code : List ℕ) → length word ≡ n → length code ≡ n → AreBytes word
    → AreBytes code → p < n → weight (pow 2 (n - 1 - p)) ys ≢ 0 → get_or word p 0 ≢ get_or code p 0
    → get_or (weighed ys word) p 0 ≢ get_or (weighed ys code) p 0
weighed_differ n p ys word code lw lc bw bc l w d e =
    let x : ℕ = get_or word p 0 in
    let y : ℕ = get_or code p 0 in
    let v : ℕ = weight (pow 2 (n - 1 - p)) ys in
    d (xor_zero (get_or word p 0) (get_or code p 0) (no_divisors (bit_xor (get_or word p 0) (get_or code p 0))
    (weight (pow 2 (n - 1 - p)) ys)
    (xor_lt 8 (get_or word p 0) (get_or code p 0) (byte_at word p bw) (byte_at code p bc))
    (weight_small (pow 2 (n - 1 - p)) ys) w
    (mul_left (get_or word p 0) (get_or code p 0) (weight (pow 2 (n - 1 - p)) ys)
    ∙ ap₂ bit_xor (at word lw) (at code lc)
    ∙ ap (λ (z : ℕ). bit_xor z (get_or (weighed ys code) p 0)) e ∙ xor_self (get_or (weighed ys code) p 0))))
  where
    at : (xs : List ℕ) → length xs ≡ n
        → mul (get_or xs p 0) (weight (pow 2 (n - 1 - p)) ys) ≡ get_or (weighed ys xs) p 0
    at xs e = grind (arith, weighed_at)

-- ---- as many differences as at unmarked places

cost_by : (u v : Bool) → (v ≡ true → u ≡ true) → cond u 0 1 ≤ cond v 0 1
cost_by true true h = omega arith
cost_by true false h = omega arith
cost_by false true h = grind arith
cost_by false false h = omega arith

weighed_cost : (m : Bool) (x y v : ℕ) → (m ≡ true → v ≡ 0) → cond (mul x v == mul y v) 0 1 ≤ cond (m || x == y) 0 1
weighed_cost m x y v h = grind (arith, cost_by, eq-eqb, or_cases, mul_zero, eqb-true)

pub distance_weighed : (ys : List ℕ) (marks : List Bool) (word code : List ℕ) → length marks ≡ length word
    → length word ≡ length code
    → ((p : ℕ) → p < length word → get_or marks p false ≡ true → weight (pow 2 (length word - 1 - p)) ys ≡ 0)
    → distance (weighed ys word) (weighed ys code) ≤ unmarked_distance marks word code
distance_weighed ys [] [] code l e h = omega arith
distance_weighed ys [] (x ∷ xs) code l e h = absurd (omega arith)
distance_weighed ys (m ∷ marks) [] code l e h = absurd (omega arith)
distance_weighed ys (m ∷ marks) (x ∷ xs) [] l e h = absurd (omega arith)
distance_weighed ys (m ∷ marks) (x ∷ xs) (c ∷ cs) l e h =
    let same : length xs ≡ length cs = omega arith in
    omega (
      arith,
      subst (λ (j : ℕ). cond (mul x (weight (pow 2 (length xs)) ys) == mul c (weight (pow 2 j) ys)) 0 1
          ≤ cond (m || x == c) 0 1) same (weighed_cost m x c (weight (pow 2 (length xs)) ys)
          (λ t. ap (λ j. weight (pow 2 j) ys) (last (length xs)) ∙ h 0 (omega arith) t)),
      distance_weighed ys marks xs cs (omega arith) same (λ p r t. grind (arith, inner)),
    )
  where
    last : (n : ℕ) → n ≡ suc n - 1 - 0
    last n = omega arith

    inner : (n p : ℕ) → n - 1 - p ≡ suc n - 1 - suc p
    inner n p = omega arith

-- ---- the weighed mending is a correction

pub weighed_correction : (n k t : ℕ) (ys : List ℕ) (marks : List Bool) (word code : List ℕ) → length word ≡ n
    → length marks ≡ n → length ys ≡ lost marks → lost marks + 2 * t ≤ n - k → n - k ≤ lost marks + 2 * t + 1
    → ((p : ℕ) → p < n → get_or marks p false ≡ true → weight (pow 2 (n - 1 - p)) ys ≡ 0)
    → IsMending n k marks word code → IsCorrection n (n - 2 * t) (weighed ys word) (weighed ys code)
weighed_correction n k t ys marks word code lw lm ly few most z p =
    grind (arith, length_weighed, bytes_weighed, vanishes_weighed, distance_weighed)
