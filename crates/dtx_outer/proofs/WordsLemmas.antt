-- The words of a run.
use Rattle.std.proofs.Common.{◌≡◌, ℕ, zero, suc, ◌+◌, ◌-◌, ◌*◌, ◌/◌, ◌%◌, ◌<◌, ◌≤◌, ◌⊎◌, inl, inr, Option, Some, None}
use Rattle.std.proofs.Common.{List, ◌++◌, length, get_or, take, drop, refl, sym, ap, subst, ◌∙◌, arith, mul-le-mul}
use Rattle.std.proofs.Common.{mul-le-mul_left, div-add-mod'}
use Rattle.std.proofs.lemmas.Bool.{cases_lt, cond-true, le-leb}
use Rattle.std.proofs.lemmas.Nat.{mod_below, mod-mul-add}
use Rattle.std.proofs.lemmas.List.{get_or_append_left, ext_get_or, get_or-take, get_or-drop, length-drop}
use Rattle.std.proofs.lemmas.List.{length-take-le}
use Rattle.std.proofs.lemmas.List.FromFn.{length-map-range_with_len, get_or-map-range_with_len}
use Rattle.dtx_laws.specs.Branches.{IsInterleaver, Branching, HasWidths, gathering, leaving_all}
use Rattle.dtx_laws.specs.Codeword.{IsCorrection, distance}
use Rattle.dtx_laws.specs.Interleaving.{interleaved, interleaved_at, IsInterleavedBehind}
use Rattle.dtx_laws.specs.Whitening.{whitened}
use Rattle.dtx_laws.specs.Words.{correction}
use Rattle.dtx_laws.proofs.ChoiceLemmas.{correction_is, correction_only}
use Rattle.dtx_laws.proofs.InterleavingLemmas.{in_turns, get_or-interleaved}
use Rattle.dtx_laws.proofs.GatheringLemmas.{delays, same_branch, gathers_at}
use Rattle.dtx_outer.specs.Inner.{waiting, completing, codeword_byte_place, word_at, IsComplete, IsGood, IsBad}

-- ---- how many blocks give no packet

rounds_up : (n d : ℕ) → 0 < n → d ≤ n * ((d + n - 1) / n)
rounds_up n d p = grind (arith, div-add-mod', mod_below)

rounds_least : (n d : ℕ) → n * ((d + n - 1) / n) ≤ d + n - 1
rounds_least n d = grind (arith, div-add-mod')

pub waiting_covers : (n b m : ℕ) → 0 < n → b * m * (b - 1) ≤ n * waiting n b m
unfolding waiting
waiting_covers n b m p = rounds_up n (b * m * (b - 1)) p

waiting_within : (n b m : ℕ) → n * waiting n b m ≤ b * m * (b - 1) + n - 1
unfolding waiting
waiting_within n b m = rounds_least n (b * m * (b - 1))

pub waiting_least : (n b m q : ℕ) → 0 < n → b * m * (b - 1) ≤ n * q → waiting n b m ≤ q
waiting_least n b m q p h = by_cases (cases_lt q (waiting n b m))
  where
    more : n * (q + 1) ≡ n * q + n
    more = grind arith

    by_cases : (q < waiting n b m) ⊎ (waiting n b m ≤ q) → waiting n b m ≤ q
    by_cases (inl l) = let k : q + 1 ≤ waiting n b m = omega arith in let g : n * (q + 1) ≤ n * waiting n b m =
        mul-le-mul_left n k in absurd (omega (arith, g, more, h, p, waiting_within n b m))
    by_cases (inr l) = l

-- the next place of the last branch, from any place on
last_branch : (x b : ℕ) → 0 < b → (x + (b - 1 - x % b)) % b ≡ b - 1
last_branch x b p = grind (arith, div-add-mod', mod_below, mod-mul-add)

-- where a word is complete behind so many blocks, one more brings its call, if each has a byte of every branch
pub one_more_brings : (n b m s k : ℕ) → 0 < b → b ≤ n → IsComplete n b m (n * s) k
    → n * (waiting n b m + k + 1) ≤ n * s + n
one_more_brings n b m s k p l c = by_cases (cases_lt s k)
  where
    j : ℕ
    j = b - 1 - n * k % b

    place : n * k + j + b * m * (b - 1) < n * s
    place = subst (λ r. n * k + j + b * m * r < n * s) (last_branch (n * k) b p) (c j (omega (arith, p, l)))

    by_cases : (s < k) ⊎ (k ≤ s) → n * (waiting n b m + k + 1) ≤ n * s + n
    by_cases (inl h) =
        let before : n * s ≤ n * k = mul-le-mul_left n (omega (arith, h)) in
        absurd (omega (arith, before, place))
    by_cases (inr h) =
        let split : n * s ≡ n * k + n * (s - k) = ap (λ x. n * x) (omega (arith, h)) ∙ apart (s - k) in
        let some : 0 < n = omega (arith, p, l) in
        let q : waiting n b m ≤ s - k = waiting_least n b m (s - k) some (omega (arith, split, place)) in
        let more : n * (waiting n b m + k + 1) ≤ n * (s + 1) = mul-le-mul_left n (omega (arith, q, h)) in
        omega (arith, more)
      where
        apart : (d : ℕ) → n * (k + d) ≡ n * k + n * d
        apart d = grind arith

pub waiting_air : waiting 207 52 4 ≡ 52
unfolding waiting
waiting_air = refl

delay_some : (b m : ℕ) → IsInterleaver b m → 1 ≤ b * m * (b - 1)
delay_some b m h = grind (arith, mul-le-mul)

pub delay_small : (b m : ℕ) → IsInterleaver b m → b * m * (b - 1) ≤ 64 * 32 * 64
delay_small b m h = grind (arith, mul-le-mul)

pub waiting_some : (n b m : ℕ) → 0 < n → IsInterleaver b m → 1 ≤ waiting n b m
waiting_some n b m p h = by_cases (cases_lt 0 (waiting n b m))
  where
    by_cases : (0 < waiting n b m) ⊎ (waiting n b m ≤ 0) → 1 ≤ waiting n b m
    by_cases (inl l) = omega arith
    by_cases (inr l) = let z : n * waiting n b m ≤ n * 0 = mul-le-mul_left n l in let y : n * 0 ≡ 0 = grind arith in
        absurd (omega (arith, z, y, delay_some b m h, waiting_covers n b m p))

last_block : (n q : ℕ) → 1 ≤ q → n * q ≡ n * (q - 1) + n
last_block n q l = ap (λ i. n * i) (omega arith) ∙ more (q - 1)
  where
    more : (i : ℕ) → n * (i + 1) ≡ n * i + n
    more i = grind arith

pub completing_is : (n b m : ℕ) → 0 < n → IsInterleaver b m
    → n * (waiting n b m - 1) + completing n b m ≡ b * m * (b - 1)
unfolding completing
completing_is n b m p h = omega (
  arith,
  last_block n (waiting n b m) (waiting_some n b m p h),
  waiting_within n b m,
  delay_some b m h,
)

pub completing_within : (n b m : ℕ) → 0 < n → IsInterleaver b m → completing n b m ≤ n
completing_within n b m p h = omega (
  arith,
  completing_is n b m p h,
  last_block n (waiting n b m) (waiting_some n b m p h),
  waiting_covers n b m p,
)

pub waited_within : (n b m : ℕ) → 0 < n → IsInterleaver b m → n * (waiting n b m - 1) ≤ b * m * (b - 1)
waited_within n b m p h = omega (arith, completing_is n b m p h)

-- ---- words, place by place

pub length-word : (n b m : ℕ) (y : List ℕ) (k : ℕ) → length (word_at n b m y k) ≡ n
unfolding word_at
length-word n b m y k = length-map-range_with_len (λ p. get_or y (codeword_byte_place b m p) 0) (n * k) n

pub get_or-word : (n b m : ℕ) (y : List ℕ) (k j : ℕ) → j < n
    → get_or (word_at n b m y k) j 0 ≡ get_or y (codeword_byte_place b m (n * k + j)) 0
unfolding word_at
get_or-word n b m y k j l = grind (arith, get_or-map-range_with_len)

-- known place by place
pub word_by : (n b m : ℕ) (y : List ℕ) (k : ℕ) (word : List ℕ) → length word ≡ n
    → ((j : ℕ) → j < n → get_or word j 0 ≡ get_or y (codeword_byte_place b m (n * k + j)) 0) → word ≡ word_at n b m y k
word_by n b m y k word l h = ext_get_or 0 word (word_at n b m y k) (l ∙ sym (length-word n b m y k))
    (λ j i. h j (omega (arith, i, l)) ∙ sym (get_or-word n b m y k j (omega (arith, i, l))))

-- more bytes leave a word alone whose bytes have come
pub word_stays : (n b m : ℕ) (y z : List ℕ) (k : ℕ) → IsComplete n b m (length y) k
    → word_at n b m (y ++ z) k ≡ word_at n b m y k
word_stays n b m y z k c = word_by n b m y k (word_at n b m (y ++ z) k) (length-word n b m (y ++ z) k)
    (λ j l. get_or-word n b m (y ++ z) k j l ∙ get_or_append_left y z 0 (codeword_byte_place b m (n * k + j)) (c j l))

-- no byte waits longer than all branches do
reaches : (b m p : ℕ) → 0 < b → codeword_byte_place b m p ≤ p + b * m * (b - 1)
reaches b m p h = omega (arith, delays b m (p % b) (mod_below p b h))

pub complete_then : (n b m given k : ℕ) → 0 < n → 0 < b → n * (waiting n b m + k + 1) ≤ given → IsComplete n b m given k
complete_then n b m given k p q h = grind (arith, reaches, waiting_covers)

-- ---- the words of interleaved bytes

-- a place moved on by whole turns
turned : (b t p : ℕ) → 0 < b → (p + t * b) % b ≡ p % b
turned b t p h =
    let f : t * b ≤ p + t * b = omega arith in
    sym (same_branch b (p + t * b) t h f) ∙ ap (λ i. i % b) (omega arith)

place_turns : (b m p : ℕ) → codeword_byte_place b m p ≡ p + m * (p % b) * b
place_turns b m p = omega (arith, in_turns b m (p % b))

branch_of : (b m p : ℕ) → 0 < b → codeword_byte_place b m p % b ≡ p % b
branch_of b m p h = ap (λ i. i % b) (place_turns b m p) ∙ turned b (m * (p % b)) p h

interleaved_back : (b m : ℕ) (x : List ℕ) (p : ℕ) → 0 < b → interleaved_at b m x (codeword_byte_place b m p)
    ≡ get_or x p 0
interleaved_back b m x p h = grind (arith, branch_of, cond-true, le-leb)

long_block : (n b m k : ℕ) (x : List ℕ) → IsComplete n b m (length x) k → length (take n (drop (n * k) x)) ≡ n
long_block zero b m k x c = refl
long_block (suc n) b m k x c =
    length-take-le (suc n) (drop (suc n * k) x) (omega (arith, c n (omega arith), length-drop (suc n * k) x))

pub word_back : (n b m : ℕ) (x y : List ℕ) (k : ℕ) → 0 < b → ((p : ℕ) → codeword_byte_place b m p < length x
    → get_or y (codeword_byte_place b m p) 0 ≡ get_or (interleaved b m x) (codeword_byte_place b m p) 0)
    → IsComplete n b m (length x) k → word_at n b m y k ≡ take n (drop (n * k) x)
word_back n b m x y k p s c = sym (word_by n b m y k (take n (drop (n * k) x)) (long_block n b m k x c)
    (λ j l. grind (arith, get_or-take, get_or-drop, get_or-interleaved, interleaved_back)))

pub word_behind : (n b m : ℕ) (lists : List (List ℕ)) (x y : List ℕ) (k : ℕ) → 0 < b → IsInterleavedBehind b m lists x y
    → IsComplete n b m (length x) k → word_at n b m y k ≡ take n (drop (n * k) x)
word_behind n b m lists x y k p h c = grind (arith, word_back, branch_of)

-- ---- the words that a gatherer gives

pub gathers_word : (b m : ℕ) (g : Branching) (y : List ℕ) (p : ℕ) → 0 < b → HasWidths b (gathering b m) g → g.next ≡ 0
    → p + b * m * (b - 1) < length y
    → get_or (leaving_all b g y) (p + b * m * (b - 1)) 0 ≡ get_or y (codeword_byte_place b m p) 0
gathers_word b m g y p h s z l =
    let r : p % b < b = mod_below p b h in
    let t : p + b * m * (b - 1) ≡ p + m * (b - 1) * b = omega (arith, in_turns b m (b - 1)) in
    let q : (p + b * m * (b - 1)) % b ≡ p % b = ap (λ i. i % b) t ∙ turned b (m * (b - 1)) p h in
    let e : b * m * (b - 1 - (p + b * m * (b - 1)) % b) ≡ b * m * (b - 1 - p % b) = ap (λ i. b * m * (b - 1 - i)) q in
    let d : b * m * (b - 1 - p % b) + b * m * (p % b) ≡ b * m * (b - 1) = delays b m (p % b) r in
    gathers_at b m g y (p + b * m * (b - 1)) s z l (omega (arith, e, d)) ∙ ap (λ i. get_or y i 0) (omega (arith, e, d))

-- ---- what a word gives, by its correction as a function

pub good_data : (n k : ℕ) (white : List ℕ) (from : ℕ) (word out : List ℕ) (fixed : ℕ) → n ≤ 255 → length word ≡ n
    → IsGood n k white from word out fixed
    → (code : List ℕ) × (correction n k word ≡ Some code) × (fixed ≡ distance word code)
    × (out ≡ whitened white from (take k code))
good_data n k white from word out fixed s l g = grind (arith, correction_only)

no_correction : (n k : ℕ) (word : List ℕ) (found : Option (List ℕ)) → correction n k word ≡ found
    → ((code : List ℕ) → IsCorrection n k word code → ⊥) → found ≡ None
no_correction n k word None e h = refl
no_correction n k word (Some code) e h = absurd (h code (correction_is n k word code e))

pub bad_data : (n k : ℕ) (white : List ℕ) (from : ℕ) (word out : List ℕ) → IsBad n k white from word out
    → (correction n k word ≡ None) × (out ≡ whitened white from (take k word))
bad_data n k white from word out g = (no_correction n k word (correction n k word) refl g.none, g.bytes)
