-- Where a word has a mending, what is patched at the marked places and where a locator of the others vanishes is the
-- mending.
use Rattle.std.proofs.Common.{◌≡◌, ◌≢◌, ℕ, zero, suc, ◌+◌, ◌-◌, ◌*◌, ◌<◌, ◌≤◌, ◌==◌, ◌||◌, Bool, true, false, List}
use Rattle.std.proofs.Common.{length, get_or, take, bit_xor, refl, sym, ap, ◌∙◌, subst, arith, add-one}
use Rattle.std.proofs.lemmas.Bool.{eqb-true, eqb-false}
use Rattle.std.specs.Int.Bits.{xor_zero_r, xor_comm}
use Rattle.dtx_galois.specs.Field.{mul, pow, value, AreBytes}
use Rattle.dtx_galois.proofs.FieldLemmas.{mul_comm}
use Rattle.dtx_galois.proofs.ValuesLemmas.{value_more}
use Rattle.dtx_laws.specs.Codeword.{IsCorrection}
use Rattle.dtx_laws.specs.Locator.{low_value, is_marked, power_at, vanishes_at, others, weight, without, patched_at}
use Rattle.dtx_laws.proofs.KernelLemmas.{kernel, same_sequence}
use Rattle.dtx_laws.proofs.OthersLemmas.{few_others, weight_at_other, weight_not_zero}
use Rattle.dtx_laws.proofs.PatchingLemmas.{others_same, patched_other}
use Rattle.dtx_laws.proofs.PartsLemmas.{byte_at}
use Rattle.dtx_fast.proofs.ConnectionLemmas.{least_of_word}
use Rattle.dtx_fast.proofs.QuotientLemmas.{length_turned, bytes_turned, combination_turned}
use Rattle.dtx_fast.specs.Recurrence.{IsRecurrence, IsLeast, turned}
use Rattle.dtx_erase.specs.Mending.{lost, IsMending}
use Rattle.dtx_erase.proofs.Marked.{length_marked, others_either, length_with, others_all}
use Rattle.dtx_erase.proofs.Weighed.{weighed, bytes_weighed, length_weighed, value_weighed, weighed_differ}
use Rattle.dtx_erase.proofs.Weighed.{weighed_correction}

-- ---- the locator

-- the coefficients of a recurrence, the newest first, as a polynomial with the highest coefficient first
value_turned : (cs : List ℕ) (x w : ℕ) → w ≤ length cs → AreBytes cs
    → value (take w cs) x ≡ low_value (turned w (λ i. get_or cs i 0)) x
unfolding turned value
value_turned cs x zero l b = refl
value_turned cs x (suc w) l b = ap (λ j. value (take j cs) x) (sym (add-one w))
    ∙ value_more cs w x (omega arith) (byte_at cs w b) ∙ ap (λ (z : ℕ). bit_xor z (get_or cs w 0))
    (rw (mul_comm (value (take w cs) x) x, value_turned cs x w (omega arith) b))
    ∙ xor_comm (mul x (low_value (turned w (λ i. get_or cs i 0)) x)) (get_or cs w 0)

last_of_turned : (w : ℕ) (c : ℕ → ℕ) → get_or (turned (suc w) c) w 0 ≡ c 0
unfolding turned
last_of_turned zero c = refl
last_of_turned (suc w) c = last_of_turned w c

-- What the lemmas below take: of n bytes f = lost marks are marked, and c is a recurrence of order l of the first 2 * t
-- terms of r, which is what cancelling the marked places leaves of the syndromes s.
pub record AreMarked (n k t : ℕ) (marks : List Bool) (word : List ℕ) (s r : ℕ → ℕ) : Type 0 where
  pub short : n ≤ 255
  pub within : n - k ≤ n
  pub bytes : AreBytes word
  pub long : length word ≡ n
  pub marks_long : length marks ≡ n
  pub few : lost marks + 2 * t ≤ n - k
  pub most : n - k ≤ lost marks + 2 * t + 1
  pub syndromes : (i : ℕ) → i < n - k → s i ≡ value word (pow 2 i)
  pub rest : (i : ℕ) → i < 2 * t → r i ≡ without (others n (is_marked marks) n n) s i

abbrev marked : ℕ → List Bool → List ℕ
marked n marks = others n (is_marked marks) n n

weight_zero : (n p : ℕ) (marks : List Bool) → p < n → get_or marks p false ≡ true
    → weight (pow 2 (n - 1 - p)) (marked n marks) ≡ 0
unfolding power_at
weight_zero n p marks l t = weight_at_other n (is_marked marks) n p n l t (λ e. omega arith)

weight_some : (n p : ℕ) (marks : List Bool) → n ≤ 255 → p < n → is_marked marks p ≡ false
    → weight (pow 2 (n - 1 - p)) (marked n marks) ≢ 0
unfolding power_at
weight_some n p marks l m t = subst (λ (ys : List ℕ). weight (pow 2 (n - 1 - p)) ys ≢ 0) (grind (arith, others_all))
    (weight_not_zero n (is_marked marks) p n l m (omega arith))

correction_of : (n k t : ℕ) (marks : List Bool) (word code : List ℕ) (s r : ℕ → ℕ) → AreMarked n k t marks word s r
    → IsMending n k marks word code
    → IsCorrection n (n - 2 * t) (weighed (marked n marks) word) (weighed (marked n marks) code)
correction_of n k t marks word code s r a p =
    weighed_correction n k t (marked n marks) marks word code a.long a.marks_long (length_marked n marks a.marks_long)
    a.few a.most (λ q l u. weight_zero n q marks l u) p

values_of : (n k t : ℕ) (marks : List Bool) (word : List ℕ) (s r : ℕ → ℕ) → AreMarked n k t marks word s r
    → (i : ℕ) → i < 2 * t → r i ≡ value (weighed (marked n marks) word) (pow 2 i)
values_of n k t marks word s r a i l = grind (arith, value_weighed, length_marked)

-- where no recurrence of the order t or less gives the terms, there is no mending
pub none_to_find : (n k t : ℕ) (marks : List Bool) (word code : List ℕ) (s r : ℕ → ℕ) → AreMarked n k t marks word s r
    → IsLeast (2 * t) (t + 1) r → IsMending n k marks word code → ⊥
none_to_find n k t marks word code s r a least p = omega (
  arith,
  (correction_of n k t marks word code s r a p).near,
  a.few,
  a.within,
  least_of_word n (n - 2 * t) (2 * t) (t + 1) (weighed (marked n marks) word) (weighed (marked n marks) code) r
      (length_weighed (marked n marks) word ∙ a.long) (correction_of n k t marks word code s r a p)
      (omega (arith, a.few, a.within)) (values_of n k t marks word s r a) least,
)

-- whether a place is marked, or the recurrence vanishes there
abbrev pub is_suspect : ℕ → List Bool → List ℕ → ℕ → ℕ → Bool
is_suspect n marks cs l p = is_marked marks p || value (take (l + 1) cs) (power_at n p) == 0

pub record IsFound (t l : ℕ) (cs : List ℕ) (r : ℕ → ℕ) : Type 0 where
  pub bytes : AreBytes cs
  pub room : l + 1 ≤ length cs
  pub half : l ≤ t
  pub recurs : IsRecurrence (2 * t) l r (λ i. get_or cs i 0)

vanishing : (n l p : ℕ) (cs : List ℕ) → l + 1 ≤ length cs → AreBytes cs
    → (value (take (l + 1) cs) (power_at n p) == 0) ≡ vanishes_at n (turned (suc l) (λ i. get_or cs i 0)) p
vanishing n l p cs h b = grind (arith, value_turned, add-one)

back : (n t : ℕ) → 2 * t ≤ n → n - (n - 2 * t) ≡ 2 * t
back n t l = omega arith

-- a place that is not suspect is right
right_elsewhere : (n k t l : ℕ) (marks : List Bool) (word code cs : List ℕ) (s r : ℕ → ℕ)
    → AreMarked n k t marks word s r → IsFound t l cs r → IsMending n k marks word code
    → (q : ℕ) → q < n → is_suspect n marks cs l q ≡ false → get_or word q 0 ≡ get_or code q 0
right_elsewhere n k t l marks word code cs s r a f p q lq u = by_test (get_or word q 0 == get_or code q 0) refl
  where
    neither : (u v : Bool) → (u || v) ≡ false → (u ≡ false) × (v ≡ false)
    neither true v e = cc
    neither false v e = (refl, e)

    parts : (is_marked marks q ≡ false) × ((value (take (l + 1) cs) (power_at n q) == 0) ≡ false)
    parts = neither (is_marked marks q) (value (take (l + 1) cs) (power_at n q) == 0) u

    by_test : (v : Bool) → (get_or word q 0 == get_or code q 0) ≡ v → get_or word q 0 ≡ get_or code q 0
    by_test true e = eqb-true (get_or word q 0) (get_or code q 0) e
    by_test false e = absurd (eqb-false (low_value (turned (suc l) (λ i. get_or cs i 0)) (power_at n q)) 0
        (sym (vanishing n l q cs f.room f.bytes) ∙ parts.1) (unfold power_at in
        kernel n (n - 2 * t) t (weighed (marked n marks) word) (weighed (marked n marks) code)
        (turned (suc l) (λ i. get_or cs i 0)) a.short (back n t (omega (arith, a.few, a.within)))
        (bytes_weighed (marked n marks) word)
        (length_weighed (marked n marks) word ∙ a.long) (correction_of n k t marks word code s r a p)
        (bytes_turned (suc l) (λ i. get_or cs i 0)
        (λ k. byte_at cs k f.bytes)) (omega (arith, length_turned (suc l) (λ i. get_or cs i 0), f.half))
        (λ i m. sym (same_sequence (turned (suc l) (λ i. get_or cs i 0)) r
        (λ j. value (weighed (marked n marks) word) (pow 2 j)) i (λ j d. values_of n k t marks word s r a j
        (omega (arith, length_turned (suc l) (λ i. get_or cs i 0), f.half, m, d))))
        ∙ combination_turned l (λ i. get_or cs i 0) r i
        ∙ f.recurs.next (i + l) (omega arith) (omega (arith, m, f.half))) q lq
        (weighed_differ n q (marked n marks) word code a.long p.codeword.long a.bytes p.codeword.bytes lq
        (weight_some n q marks a.short lq parts.0) (eqb-false (get_or word q 0) (get_or code q 0) e))))

-- a recurrence vanishes at no more places than its order says
pub few_zeros : (n l : ℕ) (cs : List ℕ) → n ≤ 255 → l + 1 ≤ length cs → AreBytes cs → get_or cs 0 0 ≡ 1
    → length (others n (λ q. value (take (l + 1) cs) (power_at n q) == 0) n n) ≤ l
few_zeros n l cs short room bytes highest = omega (
  arith,
  ap length (others_same n (λ q. value (take (l + 1) cs) (power_at n q) == 0)
      (vanishes_at n (turned (suc l) (λ i. get_or cs i 0))) n n (λ q m. vanishing n l q cs room bytes)),
  few_others n n l (turned (suc l) (λ i. get_or cs i 0)) short (grind (arith, bytes_turned, byte_at))
      (λ z. omega (arith, sym highest ∙ sym (last_of_turned l (λ i. get_or cs i 0)) ∙ z)),
  length_turned (suc l) (λ i. get_or cs i 0),
)

-- few places are suspect
few_suspects : (n k t l : ℕ) (marks : List Bool) (word cs : List ℕ) (s r : ℕ → ℕ)
    → AreMarked n k t marks word s r → IsFound t l cs r → length (others n (is_suspect n marks cs l) n n) ≤ n - k
few_suspects n k t l marks word cs s r a f = omega (
  arith,
  others_either n n n (is_marked marks) (λ q. value (take (l + 1) cs) (power_at n q) == 0),
  length_marked n marks a.marks_long,
  few_zeros n l cs a.short f.room f.bytes f.recurs.newest,
  f.half,
  a.few,
)

-- where the word has a mending, it is what is patched at the suspect places
pub restored_right : (n k t l : ℕ) (marks : List Bool) (word code new cs : List ℕ) (s r : ℕ → ℕ) (mark : ℕ → Bool)
    → AreMarked n k t marks word s r → IsFound t l cs r → ((p : ℕ) → p < n → mark p ≡ is_suspect n marks cs l p)
    → ((p : ℕ) → p < n → get_or new p 0 ≡ patched_at n mark s word p)
    → length new ≡ n → IsMending n k marks word code → new ≡ code
restored_right n k t l marks word code new cs s r mark a f hm hn ln p =
    patched_other n (n - k) mark word code new s a.short a.long p.codeword.long a.bytes p.codeword.bytes
    (λ j m. rw (a.syndromes j m, p.codeword.vanishes j m, xor_zero_r (value word (pow 2 j))))
    (λ q lq u. right_elsewhere n k t l marks word code cs s r a f p q lq (sym (hm q lq) ∙ u)) (λ q lq u. omega (
      arith,
      few_suspects n k t l marks word cs s r a f,
      ap length (others_same n mark (is_suspect n marks cs l) n n hm),
      length_with n q mark lq u,
    )) hn ln
