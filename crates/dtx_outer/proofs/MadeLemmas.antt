-- What is made of the words of a run, as more of its bytes come.
use Rattle.std.proofs.Common.{◌≡◌, ℕ, ◌+◌, ◌-◌, ◌*◌, ◌/◌, ◌%◌, ◌<◌, ◌≤◌, inl, inr, List, [], ◌∷◌, ◌++◌, map, Some}
use Rattle.std.proofs.Common.{None as Absent, take, length, sym, ap, ap₂, ◌∙◌, arith, mul-le-mul_left, div-add-mod'}
use Rattle.std.specs.List.{range_with_len}
use Rattle.std.proofs.lemmas.Bool.{cases_lt}
use Rattle.std.proofs.lemmas.Nat.{div-mul-add}
use Rattle.std.proofs.lemmas.List.{length-append, append-nil, map-append}
use Rattle.dtx_lists.proofs.Range.{range_with_len-parts, map-range_same}
use Rattle.dtx_laws.specs.Codeword.{distance}
use Rattle.dtx_laws.specs.Whitening.{whitened}
use Rattle.dtx_laws.specs.Words.{correction}
use Rattle.dtx_outer.specs.Inner.{waiting, word_at, IsTaken, Gives}
use Rattle.dtx_outer.proofs.WordsLemmas.{word_stays, complete_then, length-word, good_data, bad_data}
use Rattle.dtx_outer.specs.declared.inner.Taken.{Taken}
use Rattle.dtx_outer.specs.declared.inner.Taken.TheVariants.{None, Good, Bad}

-- What `make` makes of each word of a run, given the word's number. The run has given the bytes y. It has as many words
-- as blocks of n bytes, less those that give no packet.
abbrev pub made_in : {X : Type 0} (n b m : ℕ) (make : ℕ → List ℕ → X) (y : List ℕ) → List X
made_in n b m make y = map (λ k. make k (word_at n b m y k)) (range_with_len 0 (length y / n - waiting n b m))

-- What `make` makes of a word follows from what the word's block gave, by `told`. A block gives the data of the word's
-- correction, and how many bytes that changes. Where the word has no correction, it gives the word's own data. They are
-- unwhitened as packet j of a stream.
pub record IsTold {X : Type 0} (n k : ℕ) (white : List ℕ) (make : ℕ → List ℕ → X) (told : Taken → List ℕ → List X)
    : Type 0 where
  pub nothing : (out : List ℕ) → told None out ≡ []
  pub good : (j : ℕ) (word code : List ℕ) → correction n k word ≡ Some code
      → told (Good (distance word code)) (whitened white (k * (j % (length white / k))) (take k code))
      ≡ make j word ∷ []
  pub bad : (j : ℕ) (word : List ℕ) → correction n k word ≡ Absent
      → told Bad (whitened white (k * (j % (length white / k))) (take k word)) ≡ make j word ∷ []

-- ---- as more bytes come

blocks_within : (n s given : ℕ) → given / n ≡ s → n * s ≤ given
blocks_within n s given e = grind (arith, div-add-mod')

-- the words that are there stay
same_before : {X : Type 0} (n b m : ℕ) (make : ℕ → List ℕ → X) (y z : List ℕ) (s : ℕ) → 0 < n → 0 < b → length y / n ≡ s
    → map (λ k. make k (word_at n b m (y ++ z) k)) (range_with_len 0 (s - waiting n b m)) ≡ made_in n b m make y
same_before n b m make y z s p q e =
    map-range_same (λ k. make k (word_at n b m (y ++ z) k)) (λ k. make k (word_at n b m y k)) 0 (s - waiting n b m)
    (λ k _ l. ap (make k) (word_stays n b m y z k (complete_then n b m (length y) k p q (there k l))))
    ∙ ap (λ i. map (λ k. make k (word_at n b m y k)) (range_with_len 0 (i - waiting n b m))) (sym e)
  where
    there : (k : ℕ) → k < 0 + (s - waiting n b m) → n * (waiting n b m + k + 1) ≤ length y
    there k l = grind (arith, mul-le-mul_left, blocks_within)

-- what s + u blocks give behind what s blocks give
abbrev pub next_in : {X : Type 0} (n b m : ℕ) (make : ℕ → List ℕ → X) (y : List ℕ) (s u : ℕ) → List X
next_in n b m make y s u = map (λ k. make k (word_at n b m y k))
    (range_with_len (s - waiting n b m) (s + u - waiting n b m - (s - waiting n b m)))

pub made_more : {X : Type 0} (n b m : ℕ) (make : ℕ → List ℕ → X) (y z : List ℕ) (s u : ℕ) → 0 < n → 0 < b
    → length y / n ≡ s → length (y ++ z) / n ≡ s + u
    → made_in n b m make (y ++ z) ≡ made_in n b m make y ++ next_in n b m make (y ++ z) s u
made_more {X} n b m make y z s u p q e f =
    let w : ℕ = waiting n b m in
    let from : 0 + (s - w) ≡ s - w = omega arith in
    ap (λ i. map each (range_with_len 0 (i - w))) f ∙ ap (λ i. map each (range_with_len 0 i)) (omega arith)
    ∙ ap (map each) (range_with_len-parts 0 (s - w) (s + u - w - (s - w)))
    ∙ map-append each (range_with_len 0 (s - w)) (range_with_len (0 + (s - w)) (s + u - w - (s - w)))
    ∙ ap₂ (λ (xs : List X) (a : ℕ). xs ++ map each (range_with_len a (s + u - w - (s - w))))
    (same_before n b m make y z s p q e) from
  where
    each : ℕ → X
    each k = make k (word_at n b m (y ++ z) k)

-- ---- by whole blocks

count : (n s r given : ℕ) → r < n → given ≡ n * s + r → given / n ≡ s
count n s r given l e = grind (arith, div-mul-add)

pub whole_blocks : (n s : ℕ) (y : List ℕ) → 0 < n → length y ≡ n * s → length y / n ≡ s
whole_blocks n s y p e = count n s 0 (length y) p (omega (arith, e))

next_blocks : (n s : ℕ) (y z : List ℕ) → 0 < n → length y ≡ n * s → length z ≡ n → length (y ++ z) / n ≡ s + 1
next_blocks n s y z p e f = grind (arith, whole_blocks, length-append)

-- fewer bytes than a block give nothing
pub made_loose : {X : Type 0} (n b m : ℕ) (make : ℕ → List ℕ → X) (y z : List ℕ) (s : ℕ) → 0 < b → length y ≡ n * s
    → length z < n → made_in n b m make (y ++ z) ≡ made_in n b m make y
made_loose n b m make y z s q e l =
    let none : s + 0 - waiting n b m - (s - waiting n b m) ≡ 0 = omega arith in
    made_more n b m make y z s 0 (omega (arith, l)) q (whole_blocks n s y (omega (arith, l)) e)
    (count n s (length z) (length (y ++ z)) l (length-append y z ∙ omega (arith, e)) ∙ same s)
    ∙ ap (λ i. made_in n b m make y ++ map (λ k. make k (word_at n b m (y ++ z) k))
    (range_with_len (s - waiting n b m) i)) none ∙ append-nil (made_in n b m make y)
  where
    same : (s : ℕ) → s ≡ s + 0
    same s = omega arith

-- one block more: no word, while few have come, and then the next
pub made_none : {X : Type 0} (n b m : ℕ) (make : ℕ → List ℕ → X) (y z : List ℕ) (s : ℕ) → 0 < n → 0 < b
    → length y ≡ n * s → length z ≡ n → s < waiting n b m → made_in n b m make (y ++ z) ≡ made_in n b m make y
made_none n b m make y z s p q e f l = grind (arith, made_more, whole_blocks, next_blocks, append-nil)

pub made_next : {X : Type 0} (n b m : ℕ) (make : ℕ → List ℕ → X) (y z : List ℕ) (s : ℕ) → 0 < n → 0 < b
    → length y ≡ n * s → length z ≡ n → waiting n b m ≤ s → made_in n b m make (y ++ z) ≡ made_in n b m make y
    ++ make (s - waiting n b m) (word_at n b m (y ++ z) (s - waiting n b m)) ∷ []
made_next n b m make y z s p q e f l =
    let one : s + 1 - waiting n b m - (s - waiting n b m) ≡ 1 = omega (arith, l) in
    made_more n b m make y z s 1 p q (whole_blocks n s y p e) (next_blocks n s y z p e f)
    ∙ ap (λ i. made_in n b m make y ++ map (λ k. make k (word_at n b m (y ++ z) k))
    (range_with_len (s - waiting n b m) i)) one

-- ---- what a block gave tells what is made of the word that it completes

word_told : {X : Type 0} (n k : ℕ) (white : List ℕ) (make : ℕ → List ℕ → X) (told : Taken → List ℕ → List X) (j : ℕ)
    (word out : List ℕ) (taken : Taken) → n ≤ 255 → length word ≡ n → IsTold n k white make told
    → Gives n k white (k * (j % (length white / k))) word out taken → told taken out ≡ make j word ∷ []
word_told n k white make told j word out None few long t g = absurd g
word_told n k white make told j word out (Good fixed) few long t g =
    let d = good_data n k white (k * (j % (length white / k))) word out fixed few long g in
    ap₂ (λ (c : ℕ) (o : List ℕ). told (Good c) o) d.2 d.3 ∙ t.good j word d.0 d.1
word_told n k white make told j word out Bad few long t g =
    let d = bad_data n k white (k * (j % (length white / k))) word out g in
    ap (told Bad) d.1 ∙ t.bad j word d.0

-- behind s blocks
pub made_told : {X : Type 0} (n k b m : ℕ) (white : List ℕ) (make : ℕ → List ℕ → X) (told : Taken → List ℕ → List X)
    (y block old out : List ℕ) (s : ℕ) (taken : Taken) → 0 < n → n ≤ 255 → 0 < b → IsTold n k white make told
    → length y ≡ n * s → length block ≡ n → IsTaken n k b m white y block old out taken
    → made_in n b m make (y ++ block) ≡ made_in n b m make y ++ told taken out
made_told n k b m white make told y block old out s taken p few q t e f h = elim (cases_lt s (waiting n b m)) [
  | inl l ↦
      let some : s + 1 ≤ waiting n b m = omega (arith, l) in
      let next : n * (s + 1) ≤ n * waiting n b m = mul-le-mul_left n some in
      let more : n * (s + 1) ≡ n * s + n = grind arith in
      made_none n b m make y block s p q e f l ∙ sym (append-nil (made_in n b m make y))
      ∙ ap (λ xs. made_in n b m make y ++ xs)
      (sym (ap (λ g. told g out) (h.none (omega (arith, e, next, more, p))).0 ∙ t.nothing out))
  | inr l ↦
      let j : ℕ = s - waiting n b m in
      let sum : s ≡ waiting n b m + (s - waiting n b m) = omega (arith, l) in
      made_next n b m make y block s p q e f l ∙ ap (λ xs. made_in n b m make y ++ xs)
      (sym (word_told n k white make told j (word_at n b m (y ++ block) j) out taken few
      (length-word n b m (y ++ block) j) t (h.packet j (e ∙ ap (λ i. n * i) sum))))
]
