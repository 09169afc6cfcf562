-- A field of a run and the one behind it: once the words are sought that begin in the first, and where no more than
-- bytes was written.
use Rattle.std.proofs.Common.{◌≡◌, ℕ, ℤ, ◌+◌, ◌-◌, ◌*◌, ◌/◌, ◌%◌, ◌<◌, ◌≤◌, ◌⊎◌, inl, inr, ◌&&◌, not, Bool, true, false}
use Rattle.std.proofs.Common.{Option, Some, None, is_some, option_map, List, length, get_or, take, refl, sym, ap, ap₂}
use Rattle.std.proofs.Common.{◌∙◌, arith}
use Rattle.std.proofs.lemmas.Bool.{cases_lt, or_parts, true≢false}
use Rattle.std.proofs.lemmas.List.{ext_get_or, get_or-append_right, get_or_append_left}
use Rattle.std.proofs.lemmas.List.FromFn.{fill_by_all}
use Rattle.dtx_lists.proofs.Range.{map-range_same}
use Rattle.dtx_receiver.specs.Packets.{is_complete}
use Rattle.dtx_receiver.proofs.CompleteLemmas.{complete_told}
use Rattle.dtx_rounds.specs.Decided.{decided_rows, heard_rows}
use Rattle.dtx_rounds.specs.Found.{AreFound, IsKept, code_byte, has_code, has_code_behind, new_code, or_else}
use Rattle.dtx_rounds.specs.Found.{IsUnchanged}
use Rattle.dtx_rounds.specs.Known.{known_word}
use Rattle.dtx_rounds.specs.RunField.{IsInRun, IsSettled, codes_upto}
use Rattle.dtx_rounds.specs.declared.field.Field.{Field}
use Rattle.dtx_rounds.proofs.FoundWords.{any_each, code_byte_none, some_or}
use Rattle.dtx_rounds.proofs.LaidWords.{at_place, known_items}
use Rattle.dtx_rounds.proofs.RunWords.{AreSought, byte_ahead, byte_step, none_behind, sought_word, upto_before}
use Rattle.dtx_rounds.proofs.RunWords.{upto_now, code_byte_at, code_byte_past}

-- ---- where nothing is found

none_found : (there : List ℕ) (words : List Bool) → length words ≡ 312
    → has_code (new_code there words) 312 ≡ false → (k : ℕ) → new_code there words k ≡ None
unfolding has_code
none_found there words long e k = elim (cases_lt k 312) [
  | inl l ↦ none_is (new_code there words k)
      (any_each (λ k. is_some (new_code there words k)) 0 312 k e (omega arith) (omega (arith, l)))
  | inr l ↦ none_behind there words k (omega (arith, l, long))
]
  where
    none_is : (o : Option (List ℕ)) → is_some o ≡ false → o ≡ None
    none_is None h = refl
    none_is (Some code) h = absurd (true≢false h)

-- a word that ends in its field has no byte behind it
none_ends_behind : (there : List ℕ) (words : List Bool) → length words ≡ 312
    → has_code_behind (new_code there words) 312 ≡ false → (n : ℕ) → code_byte (new_code there words) (64584 + n) ≡ None
unfolding has_code_behind
none_ends_behind there words long e n = elim (cases_lt (64584 + n) (208 * ((64584 + n) % 52))) [
  | inl l ↦ code_byte_past codes (64584 + n) l
  | inr l ↦ code_byte_at codes (64584 + n) l ∙ by_word l (codes (p / 207)) refl (cases_lt (p / 207) 312)
]
  where
    codes : ℕ → Option (List ℕ)
    codes = new_code there words

    p : ℕ
    p = 64584 + n - 208 * ((64584 + n) % 52)

    none_some : (code : List ℕ) → ◌≡◌ {A = Option (List ℕ)} None (Some code) → ⊥
    none_some code e = cc

    ends : (o : Option (List ℕ)) (b : Bool) → is_some o ≡ true → (is_some o && not b) ≡ false → b ≡ true
    ends (Some code) true t f = refl
    ends (Some code) false t f = absurd (true≢false f)
    ends None b t f = absurd (true≢false (sym t))

    by_word : 208 * ((64584 + n) % 52) ≤ 64584 + n → (o : Option (List ℕ)) → codes (p / 207) ≡ o
        → (p / 207 < 312) ⊎ (312 ≤ p / 207) → option_map (λ (code : List ℕ). get_or code (p % 207) 0) o ≡ None
    by_word valid None h place = refl
    by_word valid (Some code) h (inl l) = absurd (omega (
      arith,
      (complete_told (207 * 312) (p / 207)).0 (ends (codes (p / 207)) (is_complete (207 * 312) (p / 207)) (ap is_some h)
          (any_each (λ k. is_some (codes k) && not (is_complete (207 * 312) k)) 0 312 (p / 207) e (omega arith)
          (omega (arith, l)))) (p % 207) (omega arith),
      at_place (p / 207) (64584 + n) valid refl,
    ))
    by_word valid (Some code) h (inr l) =
        absurd (none_some code (sym (none_behind there words (p / 207) (omega (arith, l, long))) ∙ h))

-- ---- what is known of each of both

front_byte : (codes : ℕ → Option (List ℕ)) (a b p q : Field) (n : ℕ) → AreFound codes a b p q → n < 64584
    → get_or p.known.items n None ≡ or_else (code_byte codes n) (get_or a.known.items n None)
front_byte codes a b p q n r l = grind (arith, get_or_append_left, known_items)

behind_byte : (codes : ℕ → Option (List ℕ)) (a b p q : Field) (n : ℕ) → AreFound codes a b p q
    → get_or q.known.items n None ≡ or_else (code_byte codes (64584 + n)) (get_or b.known.items n None)
behind_byte codes a b p q n r = grind (arith, get_or-append_right, known_items)

-- ---- what a round needs of a field

heard_same : (field new : Field) → IsKept field new → heard_rows new ≡ heard_rows field
heard_same field new k = ap₂ (λ n (v : List (List ℤ)). take n v) k.count (ap (λ v. v.items) k.heard)

decided_same : (field new : Field) → IsKept field new → decided_rows new ≡ decided_rows field
decided_same field new k = ap₂ (λ n (v : List (List ℤ)). take n v) k.count (ap (λ v. v.items) k.decided)

settled_same : (scale : ℕ) (field new : Field) → heard_rows new ≡ heard_rows field
    → decided_rows new ≡ decided_rows field → new.cost ≡ field.cost
    → (new.knows_more ≡ false → (field.knows_more ≡ false) × (new.known.items ≡ field.known.items))
    → IsSettled scale field → IsSettled scale new
settled_same scale field new heard rows cost same s = grind arith

-- ---- the field itself, and the one behind it

pub found_field : (scale f : ℕ) (heard given : List (List ℤ)) (before now there : List ℕ) (a b p q : Field)
    → IsInRun scale heard given (codes_upto before now (312 * f)) f a
    → AreSought before now there f a.words → AreFound (new_code there a.words) a b p q
    → IsInRun scale heard given (codes_upto before now (312 * (f + 1))) f p
found_field scale f heard given before now there a b p q h s r = record {
  count = r.rest.count ∙ h.count;
  heard_are = heard_same a p r.rest ∙ h.heard_are;
  decided = decided_same a p r.rest ∙ h.decided;
  known = λ n l. byte n l;
  words = fill_by_all (λ k. is_some (codes_upto before now (312 * (f + 1)) (312 * f + k))) p.words 312 false
      (r.long ∙ s.long) word;
  settled = settled_same scale a p (heard_same a p r.rest) (decided_same a p r.rest) r.rest.cost still h.settled;
}
  where
    byte : (n : ℕ) → n < 64584 → get_or p.known.items n None
        ≡ code_byte (codes_upto before now (312 * (f + 1))) (64584 * f + n)
    byte n l = front_byte (new_code there a.words) a b p q n r l
        ∙ ap (or_else (code_byte (new_code there a.words) n)) (h.known n l) ∙ byte_step before now there f n a.words s

    word : (k : ℕ) → k < 312 → get_or p.words k false ≡ is_some (codes_upto before now (312 * (f + 1)) (312 * f + k))
    word k l = grind (arith, some_or, sought_word, upto_now)

    still : p.knows_more ≡ false → (a.knows_more ≡ false) × (p.known.items ≡ a.known.items)
    still e =
        let parts = or_parts a.knows_more (has_code (new_code there a.words) 312) (sym r.more ∙ e) in (
          parts.0,
          ext_get_or None p.known.items a.known.items (known_items p ∙ sym (known_items a))
              (λ n l. front_byte (new_code there a.words) a b p q n r (omega (arith, l, known_items p))
              ∙ ap (λ o. or_else o (get_or a.known.items n None))
              (code_byte_none (new_code there a.words) n (none_found there a.words s.long parts.1))),
        )

pub found_behind : (scale f : ℕ) (heard given : List (List ℤ)) (before now there : List ℕ) (a b p q : Field)
    → IsInRun scale heard given (known_word before) (f + 1) b
    → AreSought before now there f a.words → AreFound (new_code there a.words) a b p q
    → IsInRun scale heard given (codes_upto before now (312 * (f + 1))) (f + 1) q
found_behind scale f heard given before now there a b p q h s r = record {
  count = r.next_rest.count ∙ h.count;
  heard_are = heard_same b q r.next_rest ∙ h.heard_are;
  decided = decided_same b q r.next_rest ∙ h.decided;
  known = λ n l. byte n l;
  words = r.next_words ∙ h.words ∙ map-range_same (λ k. is_some (known_word before (312 * (f + 1) + k)))
      (λ k. is_some (codes_upto before now (312 * (f + 1)) (312 * (f + 1) + k))) 0 312
      (λ k l m. ap is_some (sym (upto_before before now (312 * (f + 1)) (312 * (f + 1) + k) (omega arith))));
  settled = settled_same scale b q (heard_same b q r.next_rest) (decided_same b q r.next_rest) r.next_rest.cost still
      h.settled;
}
  where
    byte : (n : ℕ) → n < 64584 → get_or q.known.items n None
        ≡ code_byte (codes_upto before now (312 * (f + 1))) (64584 * (f + 1) + n)
    byte n l =
        let there_is : 64584 * (f + 1) + n ≡ 64584 * f + (64584 + n) = omega arith in
        behind_byte (new_code there a.words) a b p q n r ∙ ap (or_else (code_byte (new_code there a.words) (64584 + n)))
        (grind (arith, byte_ahead)) ∙ byte_step before now there f (64584 + n) a.words s
        ∙ ap (code_byte (codes_upto before now (312 * (f + 1)))) (sym there_is)

    still : q.knows_more ≡ false → (b.knows_more ≡ false) × (q.known.items ≡ b.known.items)
    still e =
        let parts = or_parts b.knows_more (has_code_behind (new_code there a.words) 312) (sym r.next_more ∙ e) in (
          parts.0,
          ext_get_or None q.known.items b.known.items (known_items q ∙ sym (known_items b))
              (λ n l. behind_byte (new_code there a.words) a b p q n r
              ∙ ap (λ o. or_else o (get_or b.known.items n None)) (none_ends_behind there a.words s.long parts.1 n)),
        )

pub in_run_unchanged : (scale f : ℕ) (heard given : List (List ℤ)) (codes : ℕ → Option (List ℕ)) (field new : Field)
    → IsUnchanged field new → IsInRun scale heard given codes f field → IsInRun scale heard given codes f new
in_run_unchanged scale f heard given codes field new u h = grind (arith, settled_same)
