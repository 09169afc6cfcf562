-- The packets of a run stand in the order of their numbers, and none is left out before one that is given.
use Rattle.std.proofs.Common.{◌≡◌, ℕ, zero, suc, ◌+◌, ◌*◌, ◌/◌, ◌%◌, ◌<◌, ◌≤◌, ◌⊎◌, Bool, true, List, length, map}
use Rattle.std.proofs.Common.{get_or, ap, ◌∙◌, subst, inl, inr, arith, zero-add}
use Rattle.std.specs.List.{range_with_len, filter}
use Rattle.std.proofs.lemmas.Bool.{cases_lt}
use Rattle.dtx_outer.specs.Inner.{codeword_byte_place, IsComplete}
use Rattle.dtx_receiver.specs.Packets.{is_complete, received_at, run_packets}
use Rattle.dtx_receiver.specs.declared.batch.Received.{Received}
use Rattle.dtx_receiver.proofs.CompleteLemmas.{complete_told}
use Rattle.dtx_lists.proofs.RangeFilter.{filter-kept}

-- each byte of a word stands before one of the next word in the same branch
complete_before : (count k : ℕ) → IsComplete 207 52 4 count (suc k) → IsComplete 207 52 4 count k
complete_before count k c = λ j l. by_place j l (cases_lt j 206)
  where
    four_on : (n j : ℕ) → n + 207 + (j + 1) + 208 * ((n + 207 + (j + 1)) % 52) < count
        → n + j + 208 * ((n + j) % 52) < count
    four_on n j h = omega arith

    next : 207 * suc k ≡ 207 * k + 207
    next = omega arith

    at : (i : ℕ) → i < 207 → codeword_byte_place 52 4 (207 * k + 207 + i) < count
    at i l = rw (← next) (c i l)

    by_place : (j : ℕ) → j < 207 → (j < 206) ⊎ (206 ≤ j) → codeword_byte_place 52 4 (207 * k + j) < count
    by_place j l (inl m) = four_on (207 * k) j (at (j + 1) (omega arith))
    by_place j l (inr m) = let e : 206 ≡ j = omega arith in
        rw (← e) (omega (arith, at 155 (omega arith)))

complete_up_to : (count k i : ℕ) → IsComplete 207 52 4 count k → i ≤ k → IsComplete 207 52 4 count i
complete_up_to count zero i c l = let e : 0 ≡ i = omega arith in subst (IsComplete 207 52 4 count) e c
complete_up_to count (suc k) i c l =
    by_place (cases_lt i (suc k)) (complete_up_to count k i (complete_before count k c))
  where
    by_place : (i < suc k) ⊎ (suc k ≤ i) → (i ≤ k → IsComplete 207 52 4 count i) → IsComplete 207 52 4 count i
    by_place (inl m) g = g (omega arith)
    by_place (inr m) g = let e : suc k ≡ i = omega arith in subst (IsComplete 207 52 4 count) e c

-- where a test passes at each number up to one
filtered_at : {X : Type 0} (f : ℕ → X) (p : ℕ → Bool) (a n j : ℕ) (d : X) → j < n
    → ((i : ℕ) → a ≤ i → i ≤ a + j → p i ≡ true) → get_or (map f (filter p (range_with_len a n))) j d ≡ f (a + j)
filtered_at f p a zero j d l h = absurd (omega arith)
filtered_at f p a (suc n) zero d l h = grind (arith, filter-kept)
filtered_at f p a (suc n) (suc j) d l h =
    let z : a + 1 + j ≡ a + suc j = omega arith in
    ap (λ xs. get_or (map f xs) (suc j) d) (filter-kept p a (range_with_len (a + 1) n)
    (h a (omega arith) (omega arith))) ∙ filtered_at f p (a + 1) n j d (omega arith) (λ i m o. grind arith) ∙ ap f z

-- the packets of a run's complete words, in any way from words to packets
pub number_of : (y : List ℕ) (at : ℕ → Received) (j : ℕ) (other : Received) → IsComplete 207 52 4 (length y) j
    → get_or (map at (filter (is_complete (length y)) (range_with_len 0 (length y / 207)))) j other ≡ at j
number_of y at j other c =
    filtered_at at (is_complete (length y)) 0 (length y / 207) j other (omega (arith, c 206 (omega arith)))
    (λ i _ m. (complete_told (length y) i).1 (complete_up_to (length y) j i c (omega (arith, m))))
    ∙ ap at (zero-add j)

pub number_at : (y : List ℕ) (j : ℕ) (other : Received) → IsComplete 207 52 4 (length y) j
    → get_or (run_packets y) j other ≡ received_at y j
unfolding run_packets
number_at y j other c = number_of y (received_at y) j other c
