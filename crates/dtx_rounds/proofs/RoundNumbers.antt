-- The numbers of a round: they are the sums of those of its fields, its cost is no less than that of the round before,
-- and a round that moves no symbol is the last.
use Rattle.std.proofs.Common.{◌≡◌, ℕ, ℤ, zero, suc, ◌+◌, ◌-◌, ◌*◌, ◌/◌, ◌<◌, ◌≤◌, Bool, false, cond, Option, None, Some}
use Rattle.std.proofs.Common.{is_some, List, length, map, filter, get_or, sum, refl, sym, ap, ◌∙◌, arith, ◌⊎◌, inl, inr}
use Rattle.std.proofs.Common.{[], ◌∷◌, ◌++◌, ap₂, pos}
use Rattle.std.specs.List.{range_with_len}
use Rattle.std.specs.Ordering.{int_eq}
use Rattle.std.proofs.lemmas.Bool.Decides.{Decides-int_eq}
use Rattle.std.proofs.lemmas.List.{length-append}
use Rattle.std.proofs.lemmas.List.FromFn.{get_or-map-range_with_len}
use Rattle.std.proofs.lemmas.List.Sums.{sum_by-cons}
use Rattle.dtx_lists.proofs.Range.{map-range_same}
use Rattle.dtx_lists.proofs.RangeMoved.{map-range_moved}
use Rattle.dtx_lists.proofs.RangeSums.{over, over_parts}
use Rattle.dtx_soft.specs.Softened.{softened_cost}
use Rattle.dtx_receiver.specs.Bytes.{bytes_in, data_count, groups_of}
use Rattle.dtx_receiver.proofs.CompleteLemmas.{complete_told}
use Rattle.dtx_acquire.specs.Acquired.{acquired_cost, all_fields, cost_of, heard_in, in_groups, path_cost}
use Rattle.dtx_pins.specs.PinnedField.{rows_moved, moved_in}
use Rattle.dtx_rounds.specs.FieldRound.{words_known}
use Rattle.dtx_rounds.specs.RunField.{rows_of, AreSegments, IsRounded}
use Rattle.dtx_rounds.specs.Known.{known_count, known_word}
use Rattle.dtx_rounds.specs.Rounds.{fields_in, round_cost, round_moved, rounded, groups_in, heard_of, refined}
use Rattle.dtx_rounds.specs.declared.field.Field.{Field}
use Rattle.dtx_rounds.proofs.FieldRounds.{moves_of_fields}
use Rattle.dtx_rounds.proofs.FieldRows.{AreFields, IsAllButLast, groups_first, groups_next}
use Rattle.dtx_rounds.proofs.Kept.{known_costs_more}
use Rattle.dtx_rounds.proofs.KnownLemmas.{known_parts}
use Rattle.dtx_rounds.proofs.RangeSteps.{count_next, sum_next, sums_rise, sum_zero}
use Rattle.dtx_rounds.proofs.RefinedLemmas.{length-rounded, rounded_long, refined_next, refined_stays}
use Rattle.dtx_rounds.proofs.RowsRounded.{same_items, still_rows}
use Rattle.dtx_rounds.proofs.RunLevels.{length-bytes}
use Rattle.dtx_rounds.proofs.SoFarLemmas.{costs_next, length-refined, refined_long, same_count}
use Rattle.dtx_acquire.specs.Acquired as acquirers

-- ---- counts

abbrev count : (ℕ → Bool) → ℕ → ℕ
count p n = length (filter p (range_with_len 0 n))

add_none : (x : ℕ) → x ≡ x + 0
add_none x = omega arith

count_parts : (p : ℕ → Bool) (a m : ℕ) → count p (a + m) ≡ count p a + count (λ k. p (a + k)) m
count_parts p a zero = (let same : a + 0 ≡ a = omega arith in ap (count p) same ∙ add_none (count p a))
count_parts p a (suc m) =
    let one : suc m ≡ m + 1 = omega arith in
    ap (count p) (omega arith) ∙ count_next p (a + m) ∙ ap (λ n. n + cond (p (a + m)) 1 0) (count_parts p a m)
    ∙ (omega arith) ∙ ap (λ n. count p a + n) (sym (ap (count (λ k. p (a + k))) one ∙ count_next (λ k. p (a + k)) m))

no_count : (p : ℕ → Bool) (n : ℕ) → ((k : ℕ) → p k ≡ false) → count p n ≡ 0
no_count p zero none = refl
no_count p (suc n) none =
    let next : suc n ≡ n + 1 = omega arith in
    ap (count p) next ∙ count_next p n ∙ ap (λ b. count p n + cond b 1 0) (none n) ∙ sym (add_none (count p n))
    ∙ no_count p n none

count_same : (p q : ℕ → Bool) (n : ℕ) → ((k : ℕ) → k < n → p k ≡ q k) → count p n ≡ count q n
count_same p q zero same = refl
count_same p q (suc n) same =
    let next : suc n ≡ n + 1 = omega arith in
    ap (count p) next ∙ count_next p n ∙ ap (λ b. count p n + cond b 1 0) (same n (omega arith))
    ∙ ap (λ m. m + cond (q n) 1 0) (count_same p q n (λ k l. same k (omega (arith, l))))
    ∙ sym (ap (count q) next ∙ count_next q n)

-- what is counted field by field
count_of_fields : (p : ℕ → Bool) (n : ℕ)
    → sum (map (λ f. count (λ k. p (312 * f + k)) 312) (range_with_len 0 n)) ≡ count p (312 * n)
count_of_fields p zero = (let none : 0 ≡ 312 * 0 = omega arith in ap (count p) none)
count_of_fields p (suc n) =
    let next : suc n ≡ n + 1 = omega arith in
    ap (λ m. sum (map (λ f. count (λ k. p (312 * f + k)) 312) (range_with_len 0 m))) next
    ∙ sum_next (λ f. count (λ k. p (312 * f + k)) 312) n
    ∙ ap (λ x. x + count (λ k. p (312 * n + k)) 312) (count_of_fields p n) ∙ sym (count_parts p (312 * n) 312)
    ∙ ap (count p) (omega arith)

-- ---- words

-- no word is known of which no byte is there
unknown_past : (bytes : List ℕ) (k : ℕ) → length bytes / 207 ≤ k → is_some (known_word bytes k) ≡ false
unknown_past bytes k past = by_word (known_word bytes k) refl
  where
    by_word : (o : Option (List ℕ)) → known_word bytes k ≡ o → is_some o ≡ false
    by_word None e = refl
    by_word (Some code) e =
        let there = (complete_told (length bytes) k).0 (known_parts bytes k code e).complete 206 (omega arith) in
        absurd (omega (arith, past, there))

known_in_fields : (given : List (List ℤ)) → AreSegments given
    → count (λ k. is_some (known_word (bytes_in given) k)) (312 * fields_in given) ≡ known_count (bytes_in given)
unfolding known_count groups_of data_count
known_in_fields given long =
    let n : ℕ = length (bytes_in given) / 207 in
    let few : n ≤ 312 * fields_in given = omega (arith, ap (λ l. l / 207) (length-bytes given long)) in
    let whole : n + (312 * fields_in given - n) ≡ 312 * fields_in given = omega (arith, few) in
    ap (count p) (sym whole) ∙ count_parts p n (312 * fields_in given - n)
    ∙ ap (λ m. count p n + m) (no_count (λ k. p (n + k)) (312 * fields_in given - n)
    (λ k. unknown_past (bytes_in given) (n + k) (omega arith))) ∙ sym (add_none (count p n))
  where
    p : ℕ → Bool
    p k = is_some (known_word (bytes_in given) k)

-- the words that are known of a field
field_words : (words : List Bool) (bytes : List ℕ) (f : ℕ)
    → words ≡ map (λ k. is_some (known_word bytes (312 * f + k))) (range_with_len 0 312)
    → words_known words ≡ count (λ k. is_some (known_word bytes (312 * f + k))) 312
unfolding words_known
field_words words bytes f e = count_same (λ k. get_or words k false) q 312
    (λ k l. ap (λ xs. get_or xs k false) e ∙ get_or-map-range_with_len q 0 312 k k false l (omega arith))
  where
    q : ℕ → Bool
    q k = is_some (known_word bytes (312 * f + k))

-- ---- all fields after a round

-- Each field of a run after a round.
abbrev pub AreRounded : ℕ → List (List ℤ) → List (List ℤ) → (ℕ → Field) → Type 0
AreRounded scale heard given field = (f : ℕ) → f < fields_in given → IsRounded scale heard given f (field f)

pub costs_together : (scale : ℕ) (heard given : List (List ℤ)) (field : ℕ → Field) → AreRounded scale heard given field
    → sum (map (λ f. (field f).cost) (range_with_len 0 (fields_in given))) ≡ round_cost scale heard given
unfolding round_cost
costs_together scale heard given field h = grind (arith, map-range_same)

pub moves_together : (scale : ℕ) (heard given : List (List ℤ)) (field : ℕ → Field) → AreRounded scale heard given field
    → sum (map (λ f. (field f).moved) (range_with_len 0 (fields_in given))) ≡ round_moved scale heard given
unfolding round_moved
moves_together scale heard given field h = ap sum (map-range_same (λ f. (field f).moved)
    (λ f. rows_moved (rows_of given f) (rows_of (rounded scale heard given) f)) 0
    (fields_in given) (λ f a l. (h f (omega (arith, l))).moved)) ∙ moves_of_fields given (rounded scale heard given)

pub words_together : (scale : ℕ) (heard given : List (List ℤ)) (field : ℕ → Field) → AreSegments given
    → AreRounded scale heard given field
    → sum (map (λ f. words_known (field f).words) (range_with_len 0 (fields_in given))) ≡ known_count (bytes_in given)
words_together scale heard given field long h = ap sum (map-range_same (λ f. words_known (field f).words)
    (λ f. count (λ k. is_some (known_word (bytes_in given) (312 * f + k))) 312) 0
    (fields_in given) (λ f a l. field_words (field f).words (bytes_in given) f (h f (omega (arith, l))).turned.words))
    ∙ count_of_fields (λ k. is_some (known_word (bytes_in given) k)) (fields_in given) ∙ known_in_fields given long

-- ---- rounds

fields_same : (xs ys : List (List ℤ)) → length xs ≡ length ys → fields_in xs ≡ fields_in ys
fields_same xs ys e = ap (λ n. (n + 312) / 313) e

pub costs_whole : (scale r : ℕ) (symbols : List ℤ) → 0 < scale → scale < 19
    → round_cost scale (heard_of symbols) (refined scale symbols r)
    ≤ round_cost scale (heard_of symbols) (refined scale symbols (r + 1))
unfolding round_cost
costs_whole scale r symbols some most = grind (arith, over, fields_same, length-refined, sums_rise, costs_next)

-- ---- what was acquired

-- what the least paths cost of all fields of a run, without pins
abbrev run_cost : ℕ → List (List ℤ) → ℕ
run_cost scale heard = over (λ f. softened_cost scale (groups_in heard f)) 0 (fields_in heard)

none_before : (n : ℕ) → 0 + n ≡ n
none_before n = omega arith

-- a whole field in front
cost_next : (scale : ℕ) (sync : List ℤ) (rows rest : List (List ℤ)) → length rows ≡ 312
    → softened_cost scale (in_groups rows) + run_cost scale rest ≡ run_cost scale ((sync ∷ rows) ++ rest)
cost_next scale sync rows rest e = sym (ap (over costs 0) count ∙ over_parts costs 0 1 (fields_in rest)
    ∙ ap₂ (λ (x y : ℕ). x + y) (sum_next costs 0 ∙ first)
    (ap sum (map-range_moved costs (λ f. softened_cost scale (groups_in rest f)) (0 + 1) 0 (fields_in rest) behind)))
  where
    costs : ℕ → ℕ
    costs f = softened_cost scale (groups_in ((sync ∷ rows) ++ rest) f)

    count : fields_in ((sync ∷ rows) ++ rest) ≡ 1 + fields_in rest
    count = grind (arith, length-append)

    first : 0 + costs 0 ≡ softened_cost scale (in_groups rows)
    first = none_before (costs 0) ∙ ap (softened_cost scale) (groups_first sync rows rest (inl e))

    behind : (j : ℕ) → j < fields_in rest → costs (0 + 1 + j) ≡ softened_cost scale (groups_in rest (0 + j))
    behind j l =
        let here : 0 + 1 + j ≡ j + 1 = omega arith in
        let there : j ≡ 0 + j = omega arith in
        ap costs here ∙ ap (softened_cost scale) (groups_next (sync ∷ rows) rest j (ap suc e))
        ∙ ap (λ f. softened_cost scale (groups_in rest f)) there

-- fields of no segments cost nothing, and the others are those of the run
cost_of_fields : (scale : ℕ) (fields : List acquirers.Field) → AreFields fields
    → cost_of scale fields ≡ run_cost scale (heard_in fields)
unfolding cost_of
cost_of_fields scale [] h = refl
cost_of_fields scale (x ∷ xs) h =
    sum_by-cons (λ n. n) (path_cost scale x.segments) (map (λ field. path_cost scale field.segments) xs)
    ∙ by_segments x.segments refl (cost_of_fields scale xs h.2)
  where
    by_last : (ys : List acquirers.Field) → xs ≡ ys → IsAllButLast x ys → (n : ℕ) → length x.segments ≡ suc n
        → (n ≡ 312) ⊎ ((n ≤ 312) × (xs ≡ []))
    by_last [] e is n l = inr (omega (arith, l, h.0), e)
    by_last (y ∷ ys) e (inl a) n l = inl (omega (arith, a, l))
    by_last (y ∷ ys) e (inr a) n l = absurd (omega (arith, a, l))

    by_segments : (segments : List (List ℤ)) → x.segments ≡ segments → cost_of scale xs ≡ run_cost scale (heard_in xs)
        → path_cost scale segments + cost_of scale xs ≡ run_cost scale (segments ++ heard_in xs)
    by_segments [] e rest = none_before (cost_of scale xs) ∙ rest
    by_segments (sync ∷ rows) e rest =
        grind (arith, cost_next, over, sum_next, none_before, groups_first, length-append)

pub costs_begin : (scale : ℕ) (symbols : List ℤ) → AreFields (all_fields symbols)
    → acquired_cost scale symbols ≤ round_cost scale (heard_of symbols) (refined scale symbols 0)
unfolding acquired_cost round_cost softened_cost heard_of
costs_begin scale symbols h = grind (arith, over, cost_of_fields, fields_same, same_count, sums_rise, known_costs_more)

same_symbol : (a b : ℤ) → ◌≡◌ {A = ℕ} (cond (int_eq a b) 0 1) 0 → a ≡ b
same_symbol a b e = grind (arith, Decides-int_eq)

-- two segments that differ in no symbol
same_row : (old new : List ℤ) → length old ≡ 832 → length new ≡ 832 → moved_in old new ≡ 0 → old ≡ new
unfolding moved_in
same_row old new long long_too e = same_items (pos 0) 832 old new long long_too
    (λ k l. same_symbol (get_or old k (pos 0)) (get_or new k (pos 0))
    (sum_zero (λ k. cond {A = ℕ} (int_eq (get_or old k (pos 0)) (get_or new k (pos 0))) 0 1) 832 e k l))

pub still_round : (scale : ℕ) (heard given : List (List ℤ)) → AreSegments given → length heard ≡ length given
    → round_moved scale heard given ≡ 0 → rounded scale heard given ≡ given
unfolding round_moved
still_round scale heard given long same e =
    let after : List (List ℤ) = rounded scale heard given in
    same_items [] (length given) after given (length-rounded scale heard given) refl
    (λ i l. sym (same_row (get_or given i []) (get_or after i []) (long i l)
    (rounded_long scale heard given long same i (omega (arith, l, length-rounded scale heard given)))
    (sum_zero (λ i. moved_in (get_or given i []) (get_or after i [])) (length given) e i l)))

-- the other way round
pub none_moved : (scale : ℕ) (heard given : List (List ℤ)) → rounded scale heard given ≡ given
    → round_moved scale heard given ≡ 0
unfolding round_moved rows_moved
none_moved scale heard given e = ap (rows_moved given) e ∙ still_rows given

-- a round over a capture that moves nothing is the last one that matters
pub still_capture : (scale r n : ℕ) (symbols : List ℤ)
    → round_moved scale (heard_of symbols) (refined scale symbols r) ≡ 0
    → refined scale symbols (r + n) ≡ refined scale symbols r
still_capture scale r n symbols e = grind (arith, refined_stays, refined_next, still_round, refined_long, same_count)
