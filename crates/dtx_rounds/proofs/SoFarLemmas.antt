-- What is refined of first symbols, whatever follows them. A round leaves the first fields of a run as it leaves those
-- of its front alone. The front has one field more, since a word that begins in a field ends in the next one at the
-- latest.
use Rattle.std.proofs.Common.{◌≡◌, ℕ, ℤ, zero, suc, ◌+◌, ◌-◌, ◌*◌, ◌/◌, ◌<◌, ◌≤◌, Option, None, List, [], ◌++◌, length}
use Rattle.std.proofs.Common.{take, drop, refl, sym, ap, ap₂, ◌∙◌, subst, arith, take-add, ◌⊎◌, inl, inr, append_assoc}
use Rattle.std.proofs.Common.{take-append-drop, Some}
use Rattle.std.proofs.lemmas.Bool.{cond-true, cases_lt}
use Rattle.std.proofs.lemmas.List.{drop-take, get_or-drop, get_or-take, length-take-le, take-take, take_all, append-nil}
use Rattle.std.proofs.lemmas.List.{length-append, take_at}
use Rattle.dtx_lists.proofs.RangeMoved.{flat_map-range_same}
use Rattle.dtx_slice.specs.Unrolled.{bytes_back, precoder_bits_after}
use Rattle.dtx_receiver.specs.Bytes.{bytes_in, data_at, data_count, first_bits, groups_of, levels_from}
use Rattle.dtx_receiver.proofs.CompleteLemmas.{complete_told}
use Rattle.dtx_acquire.specs.Acquired.{acquired, acquired_rest, acquired_so_far, heard_rest, heard_so_far}
use Rattle.dtx_acquire.proofs.AcquiredLemmas.{all_is_acquired, all_is_heard, heard_grows, length-heard_so_far}
use Rattle.dtx_acquire.proofs.AcquiredLemmas.{so_far_grows}
use Rattle.dtx_acquire.proofs.WholeLemmas.{long_acquired, whole_so_far}
use Rattle.dtx_rounds.specs.FieldRound.{field_rounded}
use Rattle.dtx_rounds.specs.RunField.{rows_of, AreSegments}
use Rattle.dtx_rounds.specs.Known.{known_byte, known_bytes, known_word}
use Rattle.dtx_rounds.specs.Rounds.{rounded, rounds_of, heard_of, refined, refined_rest, refined_so_far, settled_count}
use Rattle.dtx_rounds.specs.Rounds.{coder_cost}
use Rattle.dtx_rounds.proofs.FieldBytes.{bytes_in_field, field_bits}
use Rattle.dtx_rounds.proofs.FieldRounds.{KnowSame, field_of_rounded}
use Rattle.dtx_rounds.proofs.KnownLemmas.{known_there}
use Rattle.dtx_rounds.proofs.RefinedLemmas.{length-rounded, rounded_long, length-heard, costs_rise, known_stays}
use Rattle.dtx_rounds.proofs.RefinedLemmas.{refined_next}
use Rattle.dtx_rounds.proofs.RunLevels.{length-bytes}
use Rattle.dtx_rounds.proofs.RunWords.{known_entry, code_byte_same, known_byte_same}

-- ---- the front of a run

-- its first t + 1 fields
abbrev pub front : ℕ → List (List ℤ) → List (List ℤ)
front t run = take (313 * (t + 1)) run

front_long : (t : ℕ) (run : List (List ℤ)) → AreSegments run → 313 * (t + 1) ≤ length run → AreSegments (front t run)
front_long t run long room i l = grind (arith, length-take-le, get_or-take)

whole_groups : (n : ℕ) → (313 * n - (313 * n + 312) / 313) / 4 ≡ 78 * n
whole_groups n = omega arith

front_groups : (t : ℕ) (run : List (List ℤ)) → 313 * (t + 1) ≤ length run → groups_of (front t run) ≡ 78 * (t + 1)
unfolding groups_of data_count
front_groups t run room = grind (arith, length-take-le, whole_groups)

run_groups : (t : ℕ) (run : List (List ℤ)) → 313 * (t + 1) ≤ length run → 78 * (t + 1) ≤ groups_of run
unfolding groups_of data_count
run_groups t run room = grind arith

-- ---- its bytes

front_levels : (t n : ℕ) (run : List (List ℤ)) → n ≤ 312 * (t + 1) → levels_from (front t run) 0 n ≡ levels_from run 0 n
unfolding levels_from data_at
front_levels t n run l = grind (arith, flat_map-range_same, get_or-take)

-- the bytes of a run's first fields
first_bytes : (t : ℕ) (run : List (List ℤ)) → AreSegments run → 78 * (t + 1) ≤ groups_of run
    → take (64584 * (t + 1)) (bytes_in run)
    ≡ bytes_back 0 (precoder_bits_after 0 (first_bits run) (levels_from run 0 0)) (levels_from run 0 (312 * (t + 1)))
first_bytes t run long room =
    let count : 4 * (78 * (t + 1)) ≡ 312 * (t + 1) = omega arith in
    ap (λ n. take n (bytes_in run)) (omega arith) ∙ bytes_in_field run 0 (78 * (t + 1)) long (omega (arith, room))
    ∙ ap (λ n. bytes_back 0 (field_bits run 0) (levels_from run 0 n)) count

front_bytes : (t : ℕ) (run : List (List ℤ)) → AreSegments run → 313 * (t + 1) ≤ length run
    → bytes_in (front t run) ≡ take (64584 * (t + 1)) (bytes_in run)
unfolding first_bits
front_bytes t run long room = sym (grind (arith, take_all, length-bytes, front_long, front_groups))
    ∙ first_bytes t (front t run) (front_long t run long room) (omega (arith, front_groups t run room))
    ∙ ap₂ (λ bits levels. bytes_back 0 bits levels) (grind (arith, get_or-take, front_levels))
    (front_levels t (312 * (t + 1)) run (omega arith)) ∙ sym (first_bytes t run long (run_groups t run room))

-- ---- what is known of them

byte_front : (bytes : List ℕ) (t n : ℕ) → 64584 * (t + 1) ≤ length bytes → n < 64584 * t
    → known_byte (take (64584 * (t + 1)) bytes) n ≡ known_byte bytes n
unfolding known_word
byte_front bytes t n room l = sym (known_byte_same (take (64584 * (t + 1)) bytes) n)
    ∙ code_byte_same (known_word (take (64584 * (t + 1)) bytes)) (known_word bytes) n
    (λ valid. grind (arith, known_there, cond-true, complete_told)) ∙ known_byte_same bytes n

-- all that is known of the bytes of a run's first t fields is known of its front
pub known_front : (t n : ℕ) (run : List (List ℤ)) → AreSegments run → 313 * (t + 1) ≤ length run → n < 64584 * t
    → known_byte (bytes_in (front t run)) n ≡ known_byte (bytes_in run) n
known_front t n run long room l = ap (λ bytes. known_byte bytes n) (front_bytes t run long room)
    ∙ byte_front (bytes_in run) t n (omega (arith, length-bytes run long, run_groups t run room)) l

-- ---- a round

rows_front : (t f : ℕ) (run : List (List ℤ)) → f < t → rows_of (front t run) f ≡ rows_of run f
rows_front t f run l = ap (λ n. take 313 (drop (313 * f) (take n run))) (omega (arith, l))
    ∙ ap (take 313) (drop-take (313 * f) (313 * (t + 1 - f)) run)
    ∙ take-take 313 (313 * (t + 1 - f)) (drop (313 * f) run) (omega (arith, l))

-- lists of segments whose first t fields are the same
fields_same : (t : ℕ) (one other : List (List ℤ)) → ((f : ℕ) → f < t → rows_of one f ≡ rows_of other f)
    → take (313 * t) one ≡ take (313 * t) other
fields_same zero one other h = refl
fields_same (suc t) one other h = ap (λ n. take n one) (omega arith) ∙ take-add (313 * t) 313 one
    ∙ ap₂ (λ (xs ys : List (List ℤ)). xs ++ ys) (fields_same t one other (λ f l. h f (omega (arith, l))))
    (h t (omega arith)) ∙ sym (ap (λ n. take n other) (omega arith) ∙ take-add (313 * t) 313 other)

-- a run as it was received and as it is given, of n segments or more
pub record IsRun (n : ℕ) (heard given : List (List ℤ)) : Type 0 where
  pub long : AreSegments given
  pub same : length heard ≡ length given
  pub room : n ≤ length given

round_front : (scale t : ℕ) (heard given : List (List ℤ)) → IsRun (313 * (t + 1)) heard given
    → take (313 * t) (rounded scale heard given) ≡ take (313 * t) (rounded scale (front t heard) (front t given))
round_front scale t heard given h =
    fields_same t (rounded scale heard given) (rounded scale (front t heard) (front t given)) by_field
  where
    known : List (Option ℕ)
    known = known_bytes (bytes_in given)

    own : (f : ℕ) → KnowSame (drop (64584 * f) known) known f
    own f n l = get_or-drop (64584 * f) known n None

    ahead : (f : ℕ) → f < t → KnowSame (drop (64584 * f) known) (known_bytes (bytes_in (front t given))) f
    ahead f l n m = own f n m ∙ known_entry (bytes_in given) (64584 * f + n)
        ∙ sym (known_front t (64584 * f + n) given h.long h.room (omega (arith, l, m)))
        ∙ sym (known_entry (bytes_in (front t given)) (64584 * f + n))

    by_field : (f : ℕ) → f < t
        → rows_of (rounded scale heard given) f ≡ rows_of (rounded scale (front t heard) (front t given)) f
    by_field f l = sym (field_of_rounded scale heard given (drop (64584 * f) known) f (own f))
        ∙ ap₂ (λ a b. field_rounded scale a (drop (64584 * f) known) b) (sym (rows_front t f heard l))
        (sym (rows_front t f given l))
        ∙ field_of_rounded scale (front t heard) (front t given) (drop (64584 * f) known) f (ahead f l)

-- ---- all rounds

-- two runs whose first n segments are the same
pub record AreAlike (n : ℕ) (heard given heard_too given_too : List (List ℤ)) : Type 0 where
  pub one : IsRun n heard given
  pub other : IsRun n heard_too given_too
  pub heard_same : take n heard ≡ take n heard_too
  pub given_same : take n given ≡ take n given_too

is_shorter : (m n : ℕ) (heard given : List (List ℤ)) → m ≤ n → IsRun n heard given → IsRun m heard given
is_shorter m n heard given l h = record { long = h.long; same = h.same; room = omega (arith, l, h.room) }

pub run_rounded : (scale n r : ℕ) (heard given : List (List ℤ)) → IsRun n heard given
    → IsRun n heard (rounds_of scale heard given r)
unfolding rounds_of
run_rounded scale n zero heard given h = h
run_rounded scale n (suc r) heard given h =
    let before = run_rounded scale n r heard given h in
    let long = length-rounded scale heard (rounds_of scale heard given r) in
    record {
      long = rounded_long scale heard (rounds_of scale heard given r) before.long before.same;
      same = before.same ∙ sym long;
      room = omega (arith, before.room, long);
    }

-- after r rounds their first fields are the same, but for the last r of them
pub rounds_alike : (scale t r : ℕ) (heard given heard_too given_too : List (List ℤ))
    → AreAlike (313 * (t + r)) heard given heard_too given_too
    → take (313 * t) (rounds_of scale heard given r) ≡ take (313 * t) (rounds_of scale heard_too given_too r)
unfolding rounds_of
rounds_alike scale t zero heard given heard_too given_too h = grind arith
rounds_alike scale t (suc r) heard given heard_too given_too h =
    let count : 313 * (t + suc r) ≡ 313 * (t + 1 + r) = omega arith in
    let alike = subst (λ n. AreAlike n heard given heard_too given_too) count h in
    let before = rounds_alike scale (t + 1) r heard given heard_too given_too alike in
    let few : 313 * (t + 1) ≤ 313 * (t + 1 + r) = omega arith in
    round_front scale t heard (rounds_of scale heard given r)
    (is_shorter (313 * (t + 1)) (313 * (t + 1 + r)) heard (rounds_of scale heard given r) few
    (run_rounded scale (313 * (t + 1 + r)) r heard given alike.one)) ∙ ap₂ (λ a b. take (313 * t) (rounded scale a b))
    (sym (take-take (313 * (t + 1)) (313 * (t + 1 + r)) heard few) ∙ ap (take (313 * (t + 1))) alike.heard_same
    ∙ take-take (313 * (t + 1)) (313 * (t + 1 + r)) heard_too few) before
    ∙ sym (round_front scale t heard_too (rounds_of scale heard_too given_too r)
    (is_shorter (313 * (t + 1)) (313 * (t + 1 + r)) heard_too (rounds_of scale heard_too given_too r) few
    (run_rounded scale (313 * (t + 1 + r)) r heard_too given_too alike.other)))

-- ---- what is acquired and received of first symbols

-- What is acquired of first symbols, whatever follows, is a prefix of all that is acquired of them and more.
pub acquired_ahead : (scale : ℕ) (symbols more : List ℤ)
    → (others : List (List ℤ)) × (acquired scale (symbols ++ more) ≡ acquired_so_far scale symbols ++ others)
acquired_ahead scale symbols more =
    let so_far = so_far_grows scale symbols more in
    let rest : List (List ℤ) = acquired_rest scale (symbols ++ more) in (
      so_far.0 ++ rest,
      sym (all_is_acquired scale (symbols ++ more))
          ∙ ap (λ xs. xs ++ rest) so_far.1
          ∙ append_assoc (acquired_so_far scale symbols) so_far.0 rest,
    )

-- The same is true of the segments as they were received.
pub heard_ahead : (symbols more : List ℤ)
    → (others : List (List ℤ)) × (heard_of (symbols ++ more) ≡ heard_so_far symbols ++ others)
unfolding heard_of
heard_ahead symbols more =
    let so_far = heard_grows symbols more in
    let rest : List (List ℤ) = heard_rest (symbols ++ more) in (
      so_far.0 ++ rest,
      sym (all_is_heard (symbols ++ more))
          ∙ ap (λ xs. xs ++ rest) so_far.1
          ∙ append_assoc (heard_so_far symbols) so_far.0 rest,
    )

-- the first segments of both
pub acquired_front : (scale : ℕ) (symbols more : List ℤ)
    → take (length (acquired_so_far scale symbols)) (acquired scale (symbols ++ more)) ≡ acquired_so_far scale symbols
acquired_front scale symbols more =
    let all = acquired_ahead scale symbols more in
    ap (take (length (acquired_so_far scale symbols))) all.1
    ∙ take_at (acquired_so_far scale symbols) all.0 (length (acquired_so_far scale symbols)) refl

pub heard_front : (scale : ℕ) (symbols more : List ℤ)
    → take (length (acquired_so_far scale symbols)) (heard_of (symbols ++ more)) ≡ heard_so_far symbols
heard_front scale symbols more =
    let all = heard_ahead symbols more in
    ap (take (length (acquired_so_far scale symbols))) all.1
    ∙ take_at (heard_so_far symbols) all.0 (length (acquired_so_far scale symbols)) (length-heard_so_far scale symbols)

pub so_far_room : (scale : ℕ) (symbols more : List ℤ)
    → length (acquired_so_far scale symbols) ≤ length (acquired_so_far scale (symbols ++ more))
so_far_room scale symbols more =
    let so_far = so_far_grows scale symbols more in
    omega (arith, ap length so_far.1, length-append (acquired_so_far scale symbols) so_far.0)

pub all_room : (scale : ℕ) (symbols : List ℤ) → length (acquired_so_far scale symbols) ≤ length (acquired scale symbols)
all_room scale symbols =
    let all = length-append (acquired_so_far scale symbols) (acquired_rest scale symbols) in
    omega (arith, ap length (all_is_acquired scale symbols), all)

-- ---- what is refined of them

pub length-refined : (scale r : ℕ) (symbols : List ℤ)
    → length (refined scale symbols r) ≡ length (acquired scale symbols)
unfolding refined rounds_of
length-refined scale zero symbols = refl
length-refined scale (suc r) symbols =
    length-rounded scale (heard_of symbols) (rounds_of scale (heard_of symbols) (acquired scale symbols) r)
    ∙ length-refined scale r symbols

-- each of them has 832 symbols
pub refined_long : (scale r : ℕ) (symbols : List ℤ) → AreSegments (refined scale symbols r)
unfolding refined
refined_long scale r symbols = (run_rounded scale 0 r (heard_of symbols) (acquired scale symbols)
    (grind (arith, long_acquired, length-heard))).long

is_run : (scale : ℕ) (symbols more : List ℤ)
    → IsRun (length (acquired_so_far scale symbols)) (heard_of (symbols ++ more)) (acquired scale (symbols ++ more))
is_run scale symbols more = record {
  long = long_acquired scale (symbols ++ more);
  same = length-heard scale (symbols ++ more);
  room = omega (arith, so_far_room scale symbols more, all_room scale (symbols ++ more));
}

-- whatever follows
are_alike : (scale n : ℕ) (symbols more other : List ℤ) → n ≡ length (acquired_so_far scale symbols)
    → AreAlike n (heard_of (symbols ++ more)) (acquired scale (symbols ++ more)) (heard_of (symbols ++ other))
    (acquired scale (symbols ++ other))
are_alike scale n symbols more other e = grind (arith, is_run, heard_front, acquired_front)

refined_alike : (scale r : ℕ) (symbols more other : List ℤ)
    → take (length (acquired_so_far scale symbols) - 313 * r) (refined scale (symbols ++ more) r)
    ≡ take (length (acquired_so_far scale symbols) - 313 * r) (refined scale (symbols ++ other) r)
unfolding refined
refined_alike scale r symbols more other = by_room (cases_lt fields r)
  where
    count : ℕ
    count = length (acquired_so_far scale symbols)

    fields : ℕ
    fields = count / 313

    by_room : (fields < r) ⊎ (r ≤ fields) → take (count - 313 * r) (refined scale (symbols ++ more) r)
        ≡ take (count - 313 * r) (refined scale (symbols ++ other) r)
    by_room (inl l) = grind arith
    by_room (inr l) =
        let few : count - 313 * r ≡ 313 * (fields - r) = omega (arith, l, whole_so_far scale symbols) in
        let all : 313 * (fields - r + r) ≡ count = omega (arith, l, whole_so_far scale symbols) in
        ap (λ n. take n (refined scale (symbols ++ more) r)) few
        ∙ rounds_alike scale (fields - r) r (heard_of (symbols ++ more)) (acquired scale (symbols ++ more))
        (heard_of (symbols ++ other)) (acquired scale (symbols ++ other))
        (are_alike scale (313 * (fields - r + r)) symbols more other all)
        ∙ sym (ap (λ n. take n (refined scale (symbols ++ other) r)) few)

-- What is refined of first symbols, whatever follows, is a prefix of all that is refined of them and more.
pub refined_front : (scale r : ℕ) (symbols more : List ℤ) → refined_so_far scale symbols r
    ≡ take (length (acquired_so_far scale symbols) - 313 * r) (refined scale (symbols ++ more) r)
unfolding refined_so_far settled_count
refined_front scale r symbols more =
    ap (λ v. take (length (acquired_so_far scale symbols) - 313 * r) (refined scale v r)) (sym (append-nil symbols))
    ∙ refined_alike scale r symbols [] more

-- So it is a prefix of what is refined of more, whatever follows.
pub refined_grows : (scale r : ℕ) (symbols more : List ℤ) → (others : List (List ℤ))
    × (refined_so_far scale (symbols ++ more) r ≡ refined_so_far scale symbols r ++ others)
unfolding refined_so_far settled_count
refined_grows scale r symbols more =
    let first : ℕ = length (acquired_so_far scale symbols) - 313 * r in
    let later : ℕ = length (acquired_so_far scale (symbols ++ more)) - 313 * r in
    let all : List (List ℤ) = refined scale (symbols ++ more) r in
    let parts : later ≡ first + (later - first) = omega (arith, so_far_room scale symbols more) in (
      take (later - first) (drop first all),
      ap (λ n. take n all) parts ∙ take-add first (later - first) all
          ∙ ap (λ xs. xs ++ take (later - first) (drop first all)) (sym (refined_front scale r symbols more)),
    )

-- All that is refined is in two parts: what is refined whatever follows, and what the end adds.
pub all_is_refined : (scale r : ℕ) (symbols : List ℤ)
    → refined_so_far scale symbols r ++ refined_rest scale symbols r ≡ refined scale symbols r
unfolding refined_so_far refined_rest
all_is_refined scale r symbols = take-append-drop (settled_count scale symbols r) (refined scale symbols r)

-- ---- what is known, and costs

pub same_count : (scale r : ℕ) (symbols : List ℤ) → length (heard_of symbols) ≡ length (refined scale symbols r)
same_count scale r symbols = length-heard scale symbols ∙ sym (length-refined scale r symbols)

known_next : (scale r k : ℕ) (symbols : List ℤ) (code : List ℕ) → 0 < scale → scale < 19
    → known_word (bytes_in (refined scale symbols r)) k ≡ Some code
    → known_word (bytes_in (refined scale symbols (r + 1))) k ≡ Some code
known_next scale r k symbols code some most e = grind (arith, refined_next, known_stays, refined_long, same_count)

-- what is known after some rounds is known after all further ones
pub known_later : (scale r n k : ℕ) (symbols : List ℤ) (code : List ℕ) → 0 < scale → scale < 19
    → known_word (bytes_in (refined scale symbols r)) k ≡ Some code
    → known_word (bytes_in (refined scale symbols (r + n))) k ≡ Some code
known_later scale r zero k symbols code some most e = grind arith
known_later scale r (suc n) k symbols code some most e =
    let next : r + suc n ≡ r + n + 1 = omega arith in
    ap (λ m. known_word (bytes_in (refined scale symbols m)) k) next
    ∙ known_next scale (r + n) k symbols code some most (known_later scale r n k symbols code some most e)

pub costs_next : (scale r f e : ℕ) (symbols : List ℤ) → 0 < scale → scale < 19 → e < 12
    → coder_cost scale (heard_of symbols) (known_bytes (bytes_in (refined scale symbols r))) f e
    ≤ coder_cost scale (heard_of symbols) (known_bytes (bytes_in (refined scale symbols (r + 1)))) f e
costs_next scale r f e symbols some most l = grind (arith, refined_next, costs_rise, refined_long, same_count)
