-- Where a word has a correction, what is repaired by a shortest recurrence of its syndromes is the correction.
use Rattle.std.proofs.Common.{◌≡◌, ◌≢◌, ℕ, zero, suc, ◌+◌, ◌-◌, ◌*◌, ◌<◌, ◌≤◌, ◌==◌, cond, Bool, true, false, List, []}
use Rattle.std.proofs.Common.{◌∷◌, length, get_or, set, bit_xor, refl, sym, ap, ap₂, ◌∙◌, subst, arith, add-one}
use Rattle.std.proofs.lemmas.List.{ext_get_or, get_or-set_same, get_or-set_other, length-map}
use Rattle.std.proofs.lemmas.Bool.{eqb-true, eqb-false, eq-eqb, ne_eqb}
use Rattle.std.specs.List.{AllByRecursion}
use Rattle.std.specs.Int.Bits.{xor_assoc, xor_self, xor_zero_r, xor_comm, xor_lt}
use Rattle.dtx_galois.specs.Field.{mul, pow, value, AreBytes, AreDifferent}
use Rattle.dtx_galois.proofs.LinearLemmas.{mul_right}
use Rattle.dtx_galois.proofs.FieldLemmas.{mul_comm, mul_assoc, mul_one, mul_zero, zero_mul, mul_small, mul_inverse}
use Rattle.dtx_galois.proofs.FieldLemmas.{pow_small, no_divisors}
use Rattle.dtx_galois.proofs.PowersLemmas.{pow_one, pow_mul, powers_differ}
use Rattle.dtx_laws.specs.Codeword.{IsCorrection, distance}
use Rattle.dtx_laws.specs.Locator.{combination, low_value, power_at}
use Rattle.dtx_laws.proofs.KernelLemmas.{kernel, same_sequence, combination_is}
use Rattle.dtx_laws.proofs.MomentsLemmas.{moment, ArePairs, Lacks, AreApart}
use Rattle.dtx_laws.proofs.PairsLemmas.{pairs, moment_pairs, only}
use Rattle.dtx_laws.proofs.PartsLemmas.{byte_at}
use Rattle.dtx_laws.proofs.WordsLemmas.{differences, length_differences, apart_differences, pairs_differences}
use Rattle.dtx_fast.proofs.ConnectionLemmas.{powers}
use Rattle.dtx_fast.proofs.QuotientLemmas.{length_turned, bytes_turned, combination_turned, quotient_small, other_zero}
use Rattle.dtx_fast.proofs.QuotientLemmas.{fewer_zeros, turned_small}
use Rattle.dtx_fast.specs.Recurrence.{discrepancy, IsRecurrence, turned, quotient, walked, error_value, inverse_at}
use Rattle.dtx_fast.specs.Recurrence.{repaired_at}

-- ---- the walk

-- of two elements whose product is 1
inverse_powers : (x y n c : ℕ) → mul x y ≡ 1 → c < 256 → mul (pow x n) (mul c (pow y n)) ≡ c
inverse_powers x y n c e l = ap (mul (pow x n)) (mul_comm c (pow y n)) ∙ sym (mul_assoc (pow x n) (pow y n) c)
    ∙ ap (λ (z : ℕ). mul z c) (sym (pow_mul x y n) ∙ ap (λ (z : ℕ). pow z n) e ∙ pow_one n) ∙ mul_one c l

-- the walk's value is the locator's at the inverse element, over a power
walked_is : (w x y : ℕ) (c : ℕ → ℕ) → mul x y ≡ 1 → ((k : ℕ) → c k < 256)
    → low_value (turned (suc w) c) x ≡ mul (pow x w) (walked (suc w) c y)
unfolding turned walked pow
walked_is zero x y c e b = simp (mul_zero, xor_zero_r, xor_comm, inverse_powers)
walked_is (suc w) x y c e b =
    ap₂ (λ (u v : ℕ). bit_xor u v) (sym (inverse_powers x y (suc w) (c (suc w)) e (b (suc w))))
    (ap (mul x) (walked_is w x y c e b) ∙ sym (grind (arith, mul_assoc)) ∙ one_more x w (walked (suc w) c y))
    ∙ xor_comm (mul (pow x (suc w)) (mul (c (suc w)) (pow y (suc w)))) (mul (pow x (suc w)) (walked (suc w) c y))
    ∙ sym (mul_right (pow x (suc w)) (walked (suc w) c y) (mul (c (suc w)) (pow y (suc w))))
  where
    one_more : (x w v : ℕ) → mul (mul x (pow x w)) v ≡ mul (pow x (suc w)) v
    one_more x w v = refl

not_zero : (x y : ℕ) → mul x y ≡ 1 → x ≢ 0
not_zero x y e z = grind (arith, zero_mul)

pub powers_not_zero : (x y n : ℕ) → mul x y ≡ 1 → pow x n ≢ 0
powers_not_zero x y n e = not_zero (pow x n) (pow y n) (sym (pow_mul x y n) ∙ ap (λ (z : ℕ). pow z n) e ∙ pow_one n)

walked_small : (w y : ℕ) (c : ℕ → ℕ) → walked w c y < 256
unfolding walked
walked_small zero y c = omega arith
walked_small (suc w) y c =
    xor_lt 8 (walked w c y) (mul (c w) (pow y w)) (walked_small w y c) (mul_small (c w) (pow y w))

zero_of_walk : (w x y : ℕ) (c : ℕ → ℕ) → mul x y ≡ 1 → ((k : ℕ) → c k < 256) → walked (suc w) c y ≡ 0
    → low_value (turned (suc w) c) x ≡ 0
zero_of_walk w x y c e b z = walked_is w x y c e b ∙ ap (mul (pow x w)) z ∙ mul_zero (pow x w)

walk_of_zero : (w x y : ℕ) (c : ℕ → ℕ) → mul x y ≡ 1 → ((k : ℕ) → c k < 256) → low_value (turned (suc w) c) x ≡ 0
    → walked (suc w) c y ≡ 0
walk_of_zero w x y c e b z =
    no_divisors (walked (suc w) c y) (pow x w) (walked_small (suc w) y c) (pow_small x w) (powers_not_zero x y w e)
    (mul_comm (walked (suc w) c y) (pow x w) ∙ sym (walked_is w x y c e b) ∙ z)

pub two_inverse : mul 2 (pow 2 254) ≡ 1
two_inverse = mul_inverse 2 (omega arith) (omega arith)

inverse_at_is : (n p : ℕ) → mul (power_at n p) (inverse_at n p) ≡ 1
unfolding power_at inverse_at
inverse_at_is n p = rw (← pow_mul 2 (pow 2 254) (n - 1 - p), two_inverse, pow_one (n - 1 - p))

-- ---- the wrong places

bytes_powers : (ps : List (ℕ × ℕ)) → ArePairs ps → AreBytes (powers ps)
bytes_powers [] h = tt
bytes_powers (p ∷ ps) h = (h.0.1, bytes_powers ps h.1)

lacking_powers : (x : ℕ) (ps : List (ℕ × ℕ)) → Lacks x ps → AllByRecursion (λ y. y ≢ x) (powers ps)
lacking_powers x [] h = tt
lacking_powers x (p ∷ ps) h = (h.0, lacking_powers x ps h.1)

different_powers : (ps : List (ℕ × ℕ)) → AreApart ps → AreDifferent (powers ps)
different_powers [] h = tt
different_powers (p ∷ ps) h = (lacking_powers p.1 ps h.0, different_powers ps h.1)

all_by_test : (P : ℕ → Type 0) (t : Bool) (d x : ℕ) (ps : List (ℕ × ℕ)) → (t ≡ false → P x)
    → AllByRecursion P (powers ps) → AllByRecursion P (powers (cond t ps ((d, x) ∷ ps)))
all_by_test P true d x ps h r = r
all_by_test P false d x ps h r = (h refl, r)

-- what holds at each place where two words differ
all_places : (P : ℕ → Type 0) (xs ys : List ℕ) → length xs ≡ length ys
    → ((r : ℕ) → r < length xs → get_or xs r 0 ≢ get_or ys r 0 → P (pow 2 (length xs - 1 - r)))
    → AllByRecursion P (powers (differences xs ys))
all_places P [] ys l h = tt
all_places P (x ∷ xs) [] l h = tt
all_places P (x ∷ xs) (y ∷ ys) l h = all_by_test P (x == y) (bit_xor x y) (pow 2 (length xs)) (differences xs ys)
    (λ t. subst (λ n. P (pow 2 n)) (omega arith) (h 0 (omega arith) (eqb-false x y t)))
    (all_places P xs ys (omega arith) (λ r m d. subst (λ n. P (pow 2 n)) (omega arith) (h (suc r) (omega arith) d)))

-- ---- the value at a place

-- by whatever vanishes at the other wrong places
value_by : (n p m : ℕ) (q word code : List ℕ) (s : ℕ → ℕ) → p < n → length word ≡ n → length code ≡ n
    → ((j : ℕ) → j < m → s j ≡ bit_xor (value word (pow 2 j)) (value code (pow 2 j))) → length q ≤ m
    → ((r : ℕ) → r < n → (r ≡ p → ⊥)
    → mul (bit_xor (get_or word r 0) (get_or code r 0)) (low_value q (pow 2 (n - 1 - r))) ≡ 0)
    → combination q s 0 ≡ mul (bit_xor (get_or word p 0) (get_or code p 0)) (low_value q (pow 2 (n - 1 - p)))
value_by n p m q word code s l lw lc h few z = same_sequence q s (λ j. moment j (pairs word code)) 0
    (λ j r. h j (omega arith) ∙ sym (moment_pairs j word code (lw ∙ sym lc))) ∙ combination_is q 0 (pairs word code)
    ∙ only (low_value q) word code p (lw ∙ sym lc) (omega arith) (λ r a d. grind arith)
    ∙ ap (λ k. mul (bit_xor (get_or word p 0) (get_or code p 0)) (low_value q (pow 2 (k - 1 - p)))) lw

-- what is 0 or times what isn't 0, through the inverse
error_from : (d v : ℕ) → d < 256 → v < 256 → (d ≢ 0 → v ≢ 0) → mul (mul d v) (pow v 254) ≡ d
error_from zero v ld lv h = ap (λ (z : ℕ). mul z (pow v 254)) (zero_mul v) ∙ zero_mul (pow v 254)
error_from (suc d) v ld lv h = grind (arith, mul_assoc, mul_inverse, mul_comm, mul_one)

-- what the lemmas below take: a word with a correction, and a recurrence of its syndromes that isn't longer than there
-- are wrong places
record IsFound (n k t l : ℕ) (word code : List ℕ) (s c : ℕ → ℕ) : Type 0 where
  short : n ≤ 255
  half : n - k ≡ 2 * t
  bytes : AreBytes word
  long : length word ≡ n
  correction : IsCorrection n k word code
  small : (j : ℕ) → c j < 256
  syndromes : (i : ℕ) → i < 2 * t → s i ≡ value word (pow 2 i)
  recurs : IsRecurrence (2 * t) l s c
  least : l ≤ distance word code

not_longer : (n k t l : ℕ) (word code : List ℕ) (s c : ℕ → ℕ) → IsFound n k t l word code s c → l ≤ t
not_longer n k t l word code s c f = omega (arith, f.half, f.least, f.correction.near)

-- the recurrence vanishes at each wrong place
vanishes : (n k t l p : ℕ) (word code : List ℕ) (s c : ℕ → ℕ) → IsFound n k t l word code s c → p < n
    → get_or word p 0 ≢ get_or code p 0 → low_value (turned (suc l) c) (pow 2 (n - 1 - p)) ≡ 0
vanishes n k t l p word code s c f m d =
    kernel n k t word code (turned (suc l) c) f.short f.half f.bytes f.long f.correction
    (bytes_turned (suc l) c f.small) (grind (arith, length_turned, not_longer)) (λ i r.
    let a : l ≤ t = not_longer n k t l word code s c f in
    sym (same_sequence (turned (suc l) c) s (λ j. value word (pow 2 j)) i (λ j u. grind (arith, length_turned)))
    ∙ combination_turned l c s i ∙ f.recurs.next (i + l) (omega arith) (omega arith)) p m d

equal_or_not : (a b : ℕ) (u : Bool) (P : Type 0) → (a == b) ≡ u → (a ≡ b → P) → (a ≢ b → P) → P
equal_or_not a b true P e h g = h (eqb-true a b e)
equal_or_not a b false P e h g = g (eqb-false a b e)

places_differ : (n p r : ℕ) → n ≤ 255 → p < n → r < n → (r ≡ p → ⊥) → pow 2 (n - 1 - r) ≢ pow 2 (n - 1 - p)
places_differ n p r l a b d = grind (arith, powers_differ)

-- the quotient by a place at which the recurrence vanishes is 0 at each other wrong place
others_vanish : (n k t l p r : ℕ) (word code : List ℕ) (s c : ℕ → ℕ) → IsFound n k t l word code s c → p < n → r < n
    → (r ≡ p → ⊥) → low_value (turned (suc l) c) (pow 2 (n - 1 - p)) ≡ 0 → get_or word r 0 ≢ get_or code r 0
    → low_value (turned l (quotient (pow 2 (n - 1 - p)) c)) (pow 2 (n - 1 - r)) ≡ 0
others_vanish n k t l p r word code s c f a b d z e =
    other_zero l (pow 2 (n - 1 - p)) (pow 2 (n - 1 - r)) c f.small (pow_small 2 (n - 1 - p)) (pow_small 2 (n - 1 - r))
    (places_differ n p r f.short a b d) z (vanishes n k t l r word code s c f b e)

-- and not at the place itself, where it is wrong
own_not_zero : (n k t l p : ℕ) (word code : List ℕ) (s c : ℕ → ℕ) → IsFound n k t (suc l) word code s c → p < n
    → low_value (turned (suc (suc l)) c) (pow 2 (n - 1 - p)) ≡ 0 → get_or word p 0 ≢ get_or code p 0
    → low_value (turned (suc l) (quotient (pow 2 (n - 1 - p)) c)) (pow 2 (n - 1 - p)) ≢ 0
own_not_zero n k t l p word code s c f a z d e =
    too_many (length (powers (differences word code))) l (distance word code)
    (length-map (differences word code) (λ q. q.1) ∙ length_differences word code)
    (fewer_zeros l (quotient (pow 2 (n - 1 - p)) c) (powers (differences word code))
    (unfold quotient in f.recurs.newest) (λ j. quotient_small (pow 2 (n - 1 - p)) c j f.small)
    (bytes_powers (differences word code) (pairs_differences word code f.bytes f.correction.codeword.bytes))
    (different_powers (differences word code) (apart_differences word code (omega (arith, f.long, f.short))))
    (all_places (λ x. low_value (turned (suc l) (quotient (pow 2 (n - 1 - p)) c)) x ≡ 0) word code
    (f.long ∙ sym f.correction.codeword.long) (λ r m u. rw f.long
    (equal_or_not r p (r == p) (low_value (turned (suc l) (quotient (pow 2 (n - 1 - p)) c)) (pow 2 (n - 1 - r)) ≡ 0)
    refl (λ same. ap (λ j. low_value (turned (suc l) (quotient (pow 2 (n - 1 - p)) c)) (pow 2 (n - 1 - j))) same ∙ e)
    (λ other. others_vanish n k t (suc l) p r word code s c f a (omega (arith, f.long)) other z u))))) f.least
  where
    too_many : (a l e : ℕ) → a ≡ e → a ≤ l → suc l ≤ e → ⊥
    too_many a l e p q r = omega arith

-- the value at a place at which the recurrence vanishes is the error there
value_is : (n k t l p : ℕ) (word code : List ℕ) (s c : ℕ → ℕ) → IsFound n k t l word code s c → p < n
    → low_value (turned (suc l) c) (pow 2 (n - 1 - p)) ≡ 0
    → error_value l c s (pow 2 (n - 1 - p)) ≡ bit_xor (get_or word p 0) (get_or code p 0)
unfolding error_value
value_is n k t zero p word code s c f a z =
    absurd (not_one (c 0) (pow 2 (n - 1 - p)) f.recurs.newest (unfold turned in z))
  where
    not_one : (c x : ℕ) → c ≡ 1 → bit_xor c (mul x 0) ≡ 0 → ⊥
    not_one c x e z = grind (arith, mul_zero)
value_is n k t (suc l) p word code s c f a z =
    let x : ℕ = pow 2 (n - 1 - p) in
    ap (λ (u : ℕ). mul u (pow (low_value (turned (suc l) (quotient (pow 2 (n - 1 - p)) c)) (pow 2 (n - 1 - p))) 254))
    (ap (discrepancy (suc l) (quotient (pow 2 (n - 1 - p)) c) s) (omega arith)
    ∙ sym (combination_turned l (quotient (pow 2 (n - 1 - p)) c) s 0)
    ∙ value_by n p (2 * t) (turned (suc l) (quotient (pow 2 (n - 1 - p)) c)) word code s a f.long
    f.correction.codeword.long (λ i r. f.syndromes i r ∙ sym (xor_zero_r (value word (pow 2 i)))
    ∙ ap (bit_xor (value word (pow 2 i))) (sym (f.correction.codeword.vanishes i (omega (arith, f.half)))))
    (omega (arith, length_turned (suc l) (quotient (pow 2 (n - 1 - p)) c), not_longer n k t (suc l) word code s c f))
    (λ r b d. equal_or_not (get_or word r 0) (get_or code r 0) (get_or word r 0 == get_or code r 0)
    (mul (bit_xor (get_or word r 0) (get_or code r 0))
    (low_value (turned (suc l) (quotient (pow 2 (n - 1 - p)) c)) (pow 2 (n - 1 - r))) ≡ 0) refl
    (λ same. ap (λ (u : ℕ). mul (bit_xor u (get_or code r 0))
    (low_value (turned (suc l) (quotient (pow 2 (n - 1 - p)) c)) (pow 2 (n - 1 - r)))) same
    ∙ ap (λ (u : ℕ). mul u (low_value (turned (suc l) (quotient (pow 2 (n - 1 - p)) c)) (pow 2 (n - 1 - r))))
    (xor_self (get_or code r 0))
    ∙ zero_mul (low_value (turned (suc l) (quotient (pow 2 (n - 1 - p)) c)) (pow 2 (n - 1 - r))))
    (λ other. ap (mul (bit_xor (get_or word r 0) (get_or code r 0)))
    (others_vanish n k t (suc l) p r word code s c f a b d z other)
    ∙ mul_zero (bit_xor (get_or word r 0) (get_or code r 0)))))
    ∙ error_from (bit_xor (get_or word p 0) (get_or code p 0))
    (low_value (turned (suc l) (quotient (pow 2 (n - 1 - p)) c)) (pow 2 (n - 1 - p)))
    (xor_lt 8 (get_or word p 0) (get_or code p 0) (byte_at word p f.bytes) (byte_at code p f.correction.codeword.bytes))
    (grind (arith, turned_small, quotient_small)) (λ u. own_not_zero n k t l p word code s c f a z
    (λ same. u (ap (λ (v : ℕ). bit_xor v (get_or code p 0)) same ∙ xor_self (get_or code p 0))))

-- ---- the whole word

by_test : (u : Bool) (w e c : ℕ) → (u ≡ true → e ≡ bit_xor w c) → (u ≡ false → w ≡ c) → cond u (bit_xor w e) w ≡ c
by_test true w e c h g = rw (h refl, ← xor_assoc w w c, xor_self w, xor_comm 0 c, xor_zero_r c)
by_test false w e c h g = g refl

repaired_is : (n k t l p : ℕ) (word code : List ℕ) (s c : ℕ → ℕ) → IsFound n k t l word code s c → p < n
    → repaired_at n l c s word p ≡ get_or code p 0
repaired_is n k t l p word code s c f a =
    by_test (walked (suc l) c (inverse_at n p) == 0) (get_or word p 0) (error_value l c s (power_at n p))
    (get_or code p 0) (λ u. unfold power_at in value_is n k t l p word code s c f a
    (zero_of_walk l (power_at n p) (inverse_at n p) c (inverse_at_is n p) f.small (grind (arith, eqb-true))))
    (λ u. equal_or_not (get_or word p 0) (get_or code p 0) (get_or word p 0 == get_or code p 0)
    (get_or word p 0 ≡ get_or code p 0) refl (λ same. same)
    (λ other. absurd (eqb-false (walked (suc l) c (inverse_at n p)) 0 u
    (walk_of_zero l (power_at n p) (inverse_at n p) c (inverse_at_is n p) f.small
    (unfold power_at in vanishes n k t l p word code s c f a other)))))

-- where a word has a correction, it is what is repaired by a shortest recurrence of the word's syndromes
pub repaired_right : (n k t l : ℕ) (word code new : List ℕ) (s c : ℕ → ℕ) → n ≤ 255 → n - k ≡ 2 * t → AreBytes word
    → length word ≡ n → IsCorrection n k word code → ((j : ℕ) → c j < 256)
    → ((i : ℕ) → i < 2 * t → s i ≡ value word (pow 2 i)) → IsRecurrence (2 * t) l s c → l ≤ distance word code
    → length new ≡ n → ((p : ℕ) → p < n → get_or new p 0 ≡ repaired_at n l c s word p) → new ≡ code
repaired_right n k t l word code new s c short half bytes long correction small syndromes recurs least ln h =
    ext_get_or 0 new code (ln ∙ sym correction.codeword.long)
    (λ p q. h p (omega (arith, ln)) ∙ repaired_is n k t l p word code s c (record {
      short = short;
      half = half;
      bytes = bytes;
      long = long;
      correction = correction;
      small = small;
      syndromes = syndromes;
      recurs = recurs;
      least = least;
    }) (omega (arith, ln)))

-- ---- by the places at which the walk comes to 0

zero_repaired : (n l p : ℕ) (c s : ℕ → ℕ) (word : List ℕ) → walked (l + 1) c (inverse_at n p) ≡ 0
    → repaired_at n l c s word p ≡ bit_xor (get_or word p 0) (error_value l c s (power_at n p))
zero_repaired n l p c s word e = grind (arith, eq-eqb, add-one)

other_repaired : (n l p : ℕ) (c s : ℕ → ℕ) (word : List ℕ) → walked (l + 1) c (inverse_at n p) ≢ 0
    → repaired_at n l c s word p ≡ get_or word p 0
other_repaired n l p c s word d = grind (arith, ne_eqb, add-one)

-- the place of the exponent e is repaired, and up to the exponent f none is to be
pub patched_more : (n l e f x : ℕ) (c s : ℕ → ℕ) (word now walk : List ℕ) → length now ≡ n → e < n
    → ((p : ℕ) → p < n → get_or walk (n - 1 - p) 0 ≡ walked (l + 1) c (inverse_at n p)) → get_or walk e 0 ≡ 0
    → ((q : ℕ) → e + 1 ≤ q → q < f → q < n → get_or walk q 0 ≢ 0) → x ≡ error_value l c s (power_at n (n - 1 - e))
    → ((p : ℕ) → p < n → n ≤ p + e → get_or now p 0 ≡ repaired_at n l c s word p)
    → ((p : ℕ) → p + e < n → get_or now p 0 ≡ get_or word p 0) → (p : ℕ) → p < n → n ≤ p + f
    → get_or (set now (n - 1 - e) (bit_xor (get_or now (n - 1 - e) 0) x)) p 0 ≡ repaired_at n l c s word p
patched_more n l e f x c s word now walk long le w z g v done left p lp h =
    grind (arith, get_or-set_same, zero_repaired, get_or-set_other, other_repaired)
