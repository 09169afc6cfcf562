-- A field of a capture before the first round: its segments and their cost are those that were acquired, and nothing is
-- known of it.
use Rattle.std.proofs.Common.{◌≡◌, ℕ, ℤ, ◌+◌, ◌-◌, ◌*◌, ◌<◌, ◌≤◌, min, Option, None, List, [], length, map, get_or}
use Rattle.std.proofs.Common.{refl, sym, ap, ◌∙◌, arith, Bool, true, false, Some, is_some}
use Rattle.std.specs.List.{range_with_len}
use Rattle.std.proofs.lemmas.List.FromFn.{get_or-map-range_with_len, length-map-range_with_len}
use Rattle.dtx_lists.proofs.Range.{map-range_same}
use Rattle.dtx_soft.specs.Coders.{coder_symbols}
use Rattle.dtx_soft.specs.Least.{least_levels}
use Rattle.dtx_soft.specs.Paths.{cost}
use Rattle.dtx_soft.specs.Softened.{least_cost, softened_cost}
use Rattle.dtx_soft.proofs.SoftenedLemmas.{length-coder}
use Rattle.dtx_receiver.proofs.CompleteLemmas.{complete_told}
use Rattle.dtx_pins.specs.LeastPinned.{least_pinned_levels}
use Rattle.dtx_pins.specs.PinnedField.{pinned_coder_cost}
use Rattle.dtx_pins.specs.Pins.{coder_pins, pin_at}
use Rattle.dtx_pins.proofs.LeastPinnedLemmas.{without_pins_is}
use Rattle.dtx_rounds.specs.Decided.{decided_rows, heard_rows}
use Rattle.dtx_rounds.specs.FieldRound.{KnowsNothing, field_cost, field_rounded}
use Rattle.dtx_rounds.specs.RunField.{rows_of, IsInRun}
use Rattle.dtx_rounds.specs.Known.{known_word, known_pin}
use Rattle.dtx_rounds.specs.Rounds.{coder_cost, groups_in, paths_in, pins_in, round_segment}
use Rattle.dtx_rounds.specs.declared.field.Field.{Field}
use Rattle.dtx_rounds.proofs.FieldRounds.{byte_in_field, byte_within, length-rows, row_after, row_of, KnowSame}
use Rattle.dtx_rounds.proofs.FieldRounds.{field_after, field_costs}
use Rattle.dtx_rounds.proofs.FoundWords.{code_byte_none}
use Rattle.dtx_rounds.proofs.Kept.{field_pin}
use Rattle.dtx_rounds.proofs.KnownLemmas.{known_parts}
use Rattle.dtx_rounds.proofs.OwnRounds.{AreDecided, as_softened, decided_segment}
use Rattle.dtx_rounds.proofs.RoundLevels.{after, length-after, length-groups}
use Rattle.dtx_rounds.proofs.RowsRounded.{same_items}

-- no byte of field f is known
abbrev pub KnowsNoByte : List (Option ℕ) → ℕ → Type 0
KnowsNoByte known f = (n : ℕ) → n < 64584 → get_or known (64584 * f + n) None ≡ None

-- no pin says anything
no_pin : (heard : List (List ℤ)) (known : List (Option ℕ)) (f e t : ℕ) → KnowsNoByte known f → e < 12
    → t < 69 * length (groups_in heard f) → 4 ≤ pin_at (coder_pins (pins_in heard known f) e) t
unfolding known_pin
no_pin heard known f e t none l m = grind (arith, length-groups, field_pin, byte_in_field, byte_within)

least_again : (scale : ℕ) (heard : List (List ℤ)) (known : List (Option ℕ)) (f e : ℕ) → KnowsNoByte known f → e < 12
    → least_pinned_levels scale (coder_pins (pins_in heard known f) e) (coder_symbols (groups_in heard f) e)
    ≡ least_levels scale (coder_symbols (groups_in heard f) e)
least_again scale heard known f e none l = grind (arith, without_pins_is, no_pin, length-coder)

-- its segments
pub unknown_stays : (scale : ℕ) (heard given : List (List ℤ)) (known : List (Option ℕ)) (f : ℕ)
    → AreDecided scale heard given → KnowsNoByte known f → rows_of (after scale heard known given) f ≡ rows_of given f
unfolding paths_in
unknown_stays scale heard given known f is none =
    same_items [] (length (rows_of given f)) (rows_of (after scale heard known given) f) (rows_of given f)
    (length-rows (after scale heard known given) f
    ∙ ap (λ n. min 313 (n - 313 * f)) (length-after scale heard given known) ∙ sym (length-rows given f))
    refl (λ i l. row_after scale heard given known f i l ∙ stays i (few i l) ∙ sym (row_of given f i (few i l)))
  where
    few : (i : ℕ) → i < length (rows_of given f) → i < 313
    few i l = omega (arith, l, length-rows given f)

    stays : (i : ℕ) → i < 313 → round_segment scale heard known given (313 * f + i) ≡ get_or given (313 * f + i) []
    stays i l = grind (arith, decided_segment, as_softened, least_again)

-- ---- no bytes, no words

pub no_word : (k : ℕ) (code : List ℕ) → known_word [] k ≡ Some code → ⊥
no_word k code e = grind (arith, complete_told, known_parts)

pub known_none : (k : ℕ) → known_word [] k ≡ None
known_none k = grind (arith, no_word)

-- ---- the field

words_are : (words : List Bool) (f : ℕ) → length words ≡ 312 → ((k : ℕ) → k < 312 → get_or words k true ≡ false)
    → words ≡ map (λ k. is_some (known_word [] (312 * f + k))) (range_with_len 0 312)
words_are words f long none =
    same_items true 312 words (map (λ k. is_some (known_word [] (312 * f + k))) (range_with_len 0 312)) long
    (length-map-range_with_len (λ k. is_some (known_word [] (312 * f + k))) 0 312)
    (λ k l. none k l ∙ sym (get_or-map-range_with_len (λ k. is_some (known_word [] (312 * f + k))) 0 312 k k true l
    (omega arith) ∙ ap is_some (known_none (312 * f + k))))

-- what is known of a field that was just set
pub begun_field : (scale f : ℕ) (heard given : List (List ℤ)) (field : Field) → AreDecided scale heard given
    → length field.words ≡ 312 → field.count ≡ length (rows_of given f) → heard_rows field ≡ rows_of heard f
    → decided_rows field ≡ rows_of given f → field.cost ≡ softened_cost scale (groups_in heard f)
    → KnowsNothing field.known.items field.words field.knows_more field.moved
    → IsInRun scale heard given (known_word []) f field
unfolding coder_cost pinned_coder_cost softened_cost least_cost
begun_field scale f heard given field is long count heard_are decided cost none =
    let same : KnowSame field.known.items [] f = none.bytes in
    record {
      count = count;
      heard_are = heard_are;
      decided = decided;
      known = λ n l. none.bytes n l ∙ sym (code_byte_none (known_word []) (64584 * f + n) known_none);
      words = words_are field.words f long none.words;
      settled = record {
        segments = λ _.
            ap (λ rows. field_rounded scale rows field.known.items (decided_rows field)) heard_are
            ∙ ap (field_rounded scale (rows_of heard f) field.known.items) decided
            ∙ field_after scale heard given [] field.known.items f same
            ∙ unknown_stays scale heard given [] f is (λ n l. refl)
            ∙ sym decided;
        cost = λ _.
            cost ∙ sym (grind (arith, map-range_same, least_again))
            ∙ sym (field_costs scale heard [] field.known.items f same)
            ∙ sym (ap (λ rows. field_cost scale rows field.known.items) heard_are);
      };
    }
