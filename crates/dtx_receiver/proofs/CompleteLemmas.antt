-- Which words of a run are complete: those from whose first byte on 53 data segments stand, or 52 where 52 divides its
-- number.
use Rattle.std.proofs.Common.{◌≡◌, ◌≢◌, ℕ, suc, ◌+◌, ◌-◌, ◌*◌, ◌%◌, ◌<◌, ◌≤◌, ◌⊎◌, ◌↔◌, nat_lt, Bool, true, false, cond}
use Rattle.std.proofs.Common.{List, [], ◌∷◌, ◌++◌, refl, sym, ap, ap₂, ◌∙◌, inl, inr, arith}
use Rattle.std.specs.List.{filter, range_with_len}
use Rattle.std.proofs.lemmas.Bool.{cases_lt, cases_eq, lt-ltb, ltb-true}
use Rattle.std.proofs.lemmas.List.Elements.{filter-append}
use Rattle.dtx_lists.proofs.Range.{list_all-range_at, list_all-range_from, range_with_len-parts}
use Rattle.dtx_lists.proofs.RangeFilter.{filter-range_all, filter-range_none}
use Rattle.dtx_outer.specs.Inner.{codeword_byte_place, IsComplete}
use Rattle.dtx_receiver.specs.Packets.{is_complete}

pub complete_told : (count k : ℕ) → is_complete count k ≡ true ↔ IsComplete 207 52 4 count k
unfolding is_complete
complete_told count k = (there, back)
  where
    there : is_complete count k ≡ true → IsComplete 207 52 4 count k
    there t = λ j l. ltb-true (codeword_byte_place 52 4 (207 * k + j)) count
        (list_all-range_at (λ i. nat_lt (codeword_byte_place 52 4 (207 * k + i)) count) 0 207 t j (omega arith)
        (omega arith))

    back : IsComplete 207 52 4 count k → is_complete count k ≡ true
    back c = list_all-range_from (λ i. nat_lt (codeword_byte_place 52 4 (207 * k + i)) count) 0 207
        (λ j l m. lt-ltb (codeword_byte_place 52 4 (207 * k + j)) count (c j (omega arith)))

-- one byte of the last branch is among the first 52
early : (n s : ℕ) → n + (51 - n % 52) + 208 * ((n + (51 - n % 52)) % 52) < 207 * s → n + 10608 < 207 * s
early n s h = omega arith

-- and one among the last 52, where the word doesn't begin at branch 0
late : (n s : ℕ) → n % 52 ≢ 0 → n + (207 - n % 52) + 208 * ((n + (207 - n % 52)) % 52) < 207 * s → n + 10764 < 207 * s
late n s z h = omega arith

fits : (n s j : ℕ) → j < 207 → n + 10971 ≤ 207 * s → n + j + 208 * ((n + j) % 52) < 207 * s
fits n s j l h = omega arith

fits_just : (n s j : ℕ) → j < 207 → n % 52 ≡ 0 → n + 10764 ≡ 207 * s → n + j + 208 * ((n + j) % 52) < 207 * s
fits_just n s j l z h = omega arith

divides : (k : ℕ) → k % 52 ≡ 0 → 207 * k % 52 ≡ 0
divides k e = omega arith

not_divides : (k : ℕ) → k % 52 ≢ 0 → 207 * k % 52 ≢ 0
not_divides k e = omega arith

pub complete_all : (s k : ℕ) → (k + 53 ≤ s) ⊎ ((k + 52 ≡ s) × (k % 52 ≡ 0)) → IsComplete 207 52 4 (207 * s) k
complete_all s k (inl h) = λ j l. fits (207 * k) s j l (omega arith)
complete_all s k (inr h) = λ j l. fits_just (207 * k) s j l (divides k h.1) (omega (arith, h.0))

pub complete_only : (s k : ℕ) → IsComplete 207 52 4 (207 * s) k → (k + 53 ≤ s) ⊎ ((k + 52 ≡ s) × (k % 52 ≡ 0))
complete_only s k c = by_least (cases_eq (k % 52) 0) (cases_lt s (k + 53))
  where
    least : 207 * k + 10608 < 207 * s
    least = early (207 * k) s (c (51 - 207 * k % 52) (omega arith))

    more : k % 52 ≢ 0 → 207 * k + 10764 < 207 * s
    more z = late (207 * k) s (not_divides k z) (c (207 - 207 * k % 52) (omega (arith, not_divides k z)))

    by_least : (k % 52 ≡ 0) ⊎ (k % 52 ≢ 0) → (s < k + 53) ⊎ (k + 53 ≤ s) → (k + 53 ≤ s) ⊎ ((k + 52 ≡ s) × (k % 52 ≡ 0))
    by_least e (inr h) = inl h
    by_least (inl z) (inl h) = inr (omega (arith, least), z)
    by_least (inr z) (inl h) = inl (omega (arith, more z))

-- ---- which of a run's words are complete, in order

told_complete : (s k : ℕ) → (k + 53 ≤ s) ⊎ ((k + 52 ≡ s) × (k % 52 ≡ 0)) → is_complete (207 * s) k ≡ true
told_complete s k h = (complete_told (207 * s) k).1 (complete_all s k h)

told_other : (s k : ℕ) → ((k + 53 ≤ s) ⊎ ((k + 52 ≡ s) × (k % 52 ≡ 0)) → ⊥) → is_complete (207 * s) k ≡ false
told_other s k h = by_cases (is_complete (207 * s) k) (λ e. h (complete_only s k ((complete_told (207 * s) k).0 e)))
  where
    by_cases : (t : Bool) → (t ≡ true → ⊥) → t ≡ false
    by_cases true n = absurd (n refl)
    by_cases false n = refl

all_early : (s : ℕ) → filter (is_complete (207 * s)) (range_with_len 0 (s - 52)) ≡ range_with_len 0 (s - 52)
all_early s = filter-range_all (is_complete (207 * s)) 0 (s - 52) (λ k l m. told_complete s k (inl (omega arith)))

pub complete_parts : (s : ℕ) → filter (is_complete (207 * s)) (range_with_len 0 s) ≡ range_with_len 0 (s - 52)
    ++ filter (is_complete (207 * s)) (range_with_len (s - 52) (s - (s - 52)))
complete_parts s = ap (λ n. filter (is_complete (207 * s)) (range_with_len 0 n)) (sym (omega arith))
    ∙ ap (filter (is_complete (207 * s))) (range_with_len-parts 0 (s - 52) (s - (s - 52)))
    ∙ filter-append (is_complete (207 * s)) (range_with_len 0 (s - 52)) (range_with_len (0 + (s - 52)) (s - (s - 52)))
    ∙ ap₂ (λ xs a. xs ++ filter (is_complete (207 * s)) (range_with_len a (s - (s - 52)))) (all_early s) (omega arith)

-- where a word becomes complete at the end, and where none does
pub complete_last : (s : ℕ) → 52 ≤ s → s % 52 ≡ 0
    → filter (is_complete (207 * s)) (range_with_len (s - 52) (s - (s - 52))) ≡ (s - 52) ∷ []
complete_last s l e =
    let rest : List ℕ = filter (is_complete (207 * s)) (range_with_len (s - 52 + 1) 51) in
    let n : s - (s - 52) ≡ suc 51 = omega arith in
    ap (λ i. filter (is_complete (207 * s)) (range_with_len (s - 52) i)) n
    ∙ ap (λ b. cond b ((s - 52) ∷ rest) rest) (told_complete s (s - 52) (inr (omega arith, omega arith)))
    ∙ ap (λ xs. (s - 52) ∷ xs) (filter-range_none (is_complete (207 * s)) (s - 52 + 1) 51
    (λ k a b. told_other s k (λ h. elim h [
      | inl h ↦ omega arith
      | inr h ↦ omega (arith, h.0)
    ])))

pub complete_none : (s : ℕ) → (s < 52) ⊎ (s % 52 ≢ 0)
    → filter (is_complete (207 * s)) (range_with_len (s - 52) (s - (s - 52))) ≡ []
complete_none s c = grind (arith, filter-range_none, told_other)
