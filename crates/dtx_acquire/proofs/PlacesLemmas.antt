-- The least place that passes a test, as it is searched, and of symbols behind others.
use Rattle.std.proofs.Common.{◌≡◌, ℕ, ℤ, zero, suc, ◌+◌, ◌-◌, ◌<◌, ◌≤◌, ◌⊎◌, inl, inr, Bool, true, false, cond, Option}
use Rattle.std.proofs.Common.{Some, None, option_map, List, ◌++◌, length, refl, sym, ap, ◌∙◌, subst, arith}
use Rattle.std.proofs.Common.{length-append}
use Rattle.std.specs.List.{find, range_with_len}
use Rattle.std.proofs.lemmas.Bool.{cond-true, cond-false, cases_lt, true≢false}
use Rattle.dtx_lists.proofs.RangeSearch.{IsFirst, find-range_first, find-range_gives, find-range_misses}
use Rattle.dtx_acquire.specs.Agreement.{NeedsSegment, first_place}

-- ---- any test of numbers

-- nothing is found where nothing passes
pub none_found : (p : ℕ → Bool) (a n : ℕ) → ((i : ℕ) → a ≤ i → i < a + n → p i ≡ false)
    → find p (range_with_len a n) ≡ None
none_found p a zero h = refl
none_found p a (suc n) h =
    cond-false (p a) (Some a) (find p (range_with_len (a + 1) n)) (h a (omega arith) (omega arith))
    ∙ none_found p (a + 1) n (λ i l m. h i (omega arith) (omega arith))

-- nothing passes of what is counted from a place on
pub from_first : (p : ℕ → Bool) (first k : ℕ) → ((i : ℕ) → i < k → p (first + i) ≡ false) → (i : ℕ) → first ≤ i
    → i < first + k → p i ≡ false
from_first p first k h i l m = subst (λ n. p n ≡ false) (omega arith) (h (i - first) (omega arith))

find_behind : (p q : ℕ → Bool) (k a n : ℕ) → ((i : ℕ) → p (k + i) ≡ q i)
    → find p (range_with_len (k + a) n) ≡ option_map (λ i. k + i) (find q (range_with_len a n))
find_behind p q k a zero h = refl
find_behind p q k a (suc n) h =
    let next : k + a + 1 ≡ k + (a + 1) = omega arith in
    joined (q a) (p (k + a)) (find p (range_with_len (k + a + 1) n)) (find q (range_with_len (a + 1) n)) (h a)
    (ap (λ x. find p (range_with_len x n)) next ∙ find_behind p q k (a + 1) n h)
  where
    joined : (c b : Bool) (r s : Option ℕ) → b ≡ c → r ≡ option_map (λ i. k + i) s
        → cond b (Some (k + a)) r ≡ option_map (λ i. k + i) (cond c (Some a) s)
    joined true b r s e f = cond-true b (Some (k + a)) r e
    joined false b r s e f = cond-false b (Some (k + a)) r e ∙ f

-- ---- a test of places

-- one that passes has a segment
pub whole_there : (test : List ℤ → ℕ → Bool) (needs : NeedsSegment test) (symbols : List ℤ) (place : ℕ)
    → test symbols place ≡ true → place + 832 ≤ length symbols
whole_there test needs symbols place h = grind (arith, cases_lt, true≢false)

-- a place that is found among some is the least from one before on, where none passes between
pub least_found : (test : List ℤ → ℕ → Bool) (needs : NeedsSegment test) (symbols : List ℤ)
    (from first count place : ℕ) → from ≤ first → ((i : ℕ) → from ≤ i → i < first → test symbols i ≡ false)
    → find (test symbols) (range_with_len first count) ≡ Some place → first_place test symbols from ≡ Some place
unfolding first_place
least_found test needs symbols from first count place l before h =
    let is = find-range_gives (test symbols) first count place h in
    let there = whole_there test needs symbols place is.passes in
    find-range_first (test symbols) from (length symbols - from) place (omega (arith, is.least))
    (omega (arith, is.least, there)) is.passes (λ i m n. by_place i m n (cases_lt i first) is)
  where
    by_place : (i : ℕ) → from ≤ i → i < place → (i < first) ⊎ (first ≤ i) → IsFirst (test symbols) first count place
        → test symbols i ≡ false
    by_place i m n (inl k) is = before i m k
    by_place i m n (inr k) is = is.before i k n

pub least_none : (test : List ℤ → ℕ → Bool) (needs : NeedsSegment test) (symbols : List ℤ) (from : ℕ)
    → ((i : ℕ) → from ≤ i → i + 831 < length symbols → test symbols i ≡ false) → first_place test symbols from ≡ None
unfolding first_place
least_none test needs symbols from h = grind (arith, none_found, cases_lt)

-- what is found is the least
pub least_gives : (test : List ℤ → ℕ → Bool) (symbols : List ℤ) (from place : ℕ)
    → first_place test symbols from ≡ Some place → IsFirst (test symbols) from (length symbols - from) place
unfolding first_place
least_gives test symbols from place h = find-range_gives (test symbols) from (length symbols - from) place h

pub least_misses : (test : List ℤ → ℕ → Bool) (needs : NeedsSegment test) (symbols : List ℤ) (from i : ℕ)
    → first_place test symbols from ≡ None → from ≤ i → test symbols i ≡ false
unfolding first_place
least_misses test needs symbols from i h l = elim (cases_lt i (from + (length symbols - from))) [
  | inl k ↦ find-range_misses (test symbols) from (length symbols - from) h i l k
  | inr k ↦ needs symbols i (omega arith)
]

pub least_behind : (test : List ℤ → ℕ → Bool) (front v : List ℤ) (p : ℕ)
    → ((i : ℕ) → test (front ++ v) (length front + i) ≡ test v i)
    → first_place test (front ++ v) (length front + p) ≡ option_map (λ i. length front + i) (first_place test v p)
unfolding first_place
least_behind test front v p same =
    ap (λ n. find (test (front ++ v)) (range_with_len (length front + p) n)) (omega (arith, length-append front v))
    ∙ find_behind (test (front ++ v)) (test v) (length front) p (length v - p) same

-- where none passes before a place, the search may begin there
pub least_skip : (test : List ℤ → ℕ → Bool) (needs : NeedsSegment test) (symbols : List ℤ) (from k : ℕ) → from ≤ k
    → ((i : ℕ) → from ≤ i → i < k → test symbols i ≡ false) → first_place test symbols from ≡ first_place test symbols k
unfolding first_place
least_skip test needs symbols from k l h = by_found (first_place test symbols k) refl
  where
    by_found : (o : Option ℕ) → first_place test symbols k ≡ o
        → first_place test symbols from ≡ first_place test symbols k
    by_found None e = least_none test needs symbols from (λ i m n. by_place i m (cases_lt i k) e) ∙ sym e
      where
        by_place : (i : ℕ) → from ≤ i → (i < k) ⊎ (k ≤ i) → first_place test symbols k ≡ None → test symbols i ≡ false
        by_place i m (inl n) e = h i m n
        by_place i m (inr n) e = least_misses test needs symbols k i e n
    by_found (Some r) e = least_found test needs symbols from k (length symbols - k) r l h e ∙ sym e

pub least_here : (test : List ℤ → ℕ → Bool) (needs : NeedsSegment test) (symbols : List ℤ) (place : ℕ)
    → test symbols place ≡ true → first_place test symbols place ≡ Some place
unfolding first_place
least_here test needs symbols place h = grind (arith, whole_there, find-range_first)
