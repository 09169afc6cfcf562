-- One word of a field, laid back to its places, and the words of a field that are sought one behind the other.
use Rattle.std.proofs.Common.{◌≡◌, ◌≢◌, ℕ, ◌+◌, ◌-◌, ◌*◌, ◌/◌, ◌%◌, ◌<◌, ◌≤◌, ◌⊎◌, inl, inr, ◌==◌, ◌++◌, ◌||◌, ◌&&◌}
use Rattle.std.proofs.Common.{not, Bool, true, false, cond, Option, Some, None, is_some, List, length, get_or, set}
use Rattle.std.proofs.Common.{take, drop, get_or-set_other, get_or-set_same, length-set, refl, sym, ap, ap₂, ◌∙◌, arith}
use Rattle.std.specs.List.{list_any, range_with_len}
use Rattle.std.specs.Prelude.{Vec, vec_len}
use Rattle.std.specs.Vec.{with_items}
use Rattle.std.proofs.lemmas.Bool.{cases_eq, cases_lt, cond-true, cond-false, eq-eqb, eqb-true, le-leb, leb-true}
use Rattle.std.proofs.lemmas.Bool.{false_from_ne_true, true≢false}
use Rattle.std.proofs.lemmas.List.{get_or-take, get_or_default, get_or_past, length-take-le, take_at}
use Rattle.dtx_outer.specs.Inner.{codeword_byte_place}
use Rattle.dtx_receiver.specs.Packets.{is_complete}
use Rattle.dtx_rounds.specs.Found.{AreFound, IsKept, code_byte, has_code, has_code_behind, new_code, only_code, or_else}
use Rattle.dtx_rounds.specs.Known.{known_word}
use Rattle.dtx_rounds.specs.declared.field.Field.{Field}
use Rattle.dtx_rounds.proofs.FoundWords.{any_at, any_none, found_same, found_twice, or_false}
use Rattle.dtx_rounds.proofs.KnownLemmas.{byte_source}

-- ---- one word alone

only_same : (k : ℕ) (code : Option (List ℕ)) → only_code k code k ≡ code
unfolding only_code
only_same k code = cond-true (k == k) code None (eq-eqb k k refl)

only_other : (k : ℕ) (code : Option (List ℕ)) (i : ℕ) → i ≢ k → only_code k code i ≡ None
unfolding only_code
only_other k code i ne = cond-false (i == k) code None (false_from_ne_true (i == k) (λ t. ne (eqb-true i k t)))

pub only_none : (k : ℕ) (code : Option (List ℕ)) → code ≡ None → (i : ℕ) → only_code k code i ≡ None
only_none k code e i = grind (arith, cases_eq, only_same, only_other)

-- ---- its bytes

-- what lies at a place where a byte of the word was laid
pub at_place : (k n : ℕ) → 208 * (n % 52) ≤ n → (n - 208 * (n % 52)) / 207 ≡ k
    → n ≡ codeword_byte_place 52 4 (207 * k + (n - 208 * (n % 52)) % 207)
at_place k n l e = grind arith

-- what lies there once the word is laid
pub laid_entry : (k : ℕ) (word : List ℕ) (old new : List (Option ℕ)) (n : ℕ)
    → ((j : ℕ) → j < 207 → get_or new (codeword_byte_place 52 4 (207 * k + j)) None ≡ Some (get_or word j 0))
    → (((j : ℕ) → j < 207 → n ≢ codeword_byte_place 52 4 (207 * k + j)) → get_or new n None ≡ get_or old n None)
    → get_or new n None ≡ or_else (code_byte (only_code k (Some word)) n) (get_or old n None)
unfolding code_byte
laid_entry k word old new n laid other =
    grind (arith, at_place, only_same, byte_source, only_other, leb-true, cases_eq, true≢false, le-leb)

-- ---- that it is known

word_set : (k : ℕ) (word : List ℕ) (words : List Bool) (i : ℕ) → k < length words
    → get_or (set words k true) i false ≡ (get_or words i false || is_some (only_code k (Some word) i))
word_set k word words i l = grind (arith, cases_eq, get_or-set_same, only_same, get_or-set_other, or_false, only_other)

has_one : (k n : ℕ) (word : List ℕ) → k < n → has_code (only_code k (Some word)) n ≡ true
unfolding has_code
has_one k n word l = any_at (λ i. is_some (only_code k (Some word) i)) 0 n k (omega arith) (omega arith)
    (ap is_some (only_same k (Some word)))

behind_one : (k n : ℕ) (word : List ℕ) → k < n
    → has_code_behind (only_code k (Some word)) n ≡ not (is_complete (207 * 312) k)
unfolding has_code_behind
behind_one k n word l = by_test (is_complete (207 * 312) k) refl
  where
    passes : ℕ → Bool
    passes i = is_some (only_code k (Some word) i) && not (is_complete (207 * 312) i)

    none : is_complete (207 * 312) k ≡ true → (i : ℕ) → (i ≡ k) ⊎ (i ≢ k) → passes i ≡ false
    none t i (inl e) = ap passes e ∙ ap₂ (λ o b. is_some o && not b) (only_same k (Some word)) t
    none t i (inr ne) = ap (λ o. is_some o && not (is_complete (207 * 312) i)) (only_other k (Some word) i ne)

    by_test : (b : Bool) → is_complete (207 * 312) k ≡ b → list_any passes (range_with_len 0 n) ≡ not b
    by_test true t = any_none passes 0 n (λ i a m. none t i (cases_eq i k))
    by_test false t = any_at passes 0 n k (omega arith) (omega arith) (grind (arith, only_same))

-- how many bytes of a field are known or not
pub known_items : (field : Field) → length field.known.items ≡ 64584
known_items field = (let long : field.known.len ≡ 64584 = field.known_long in sym field.known.ok.0 ∙ long)

pub decided_items : (field : Field) → length field.decided.items ≡ 313
decided_items field = (let long : field.decided.len ≡ 313 = field.decided_long in sym field.decided.ok.0 ∙ long)

-- the items of a vector that were all written
pub items_written : {A Z : Type 0} (v : Vec A Z) (items : List A) → length items ≡ vec_len v
    → (with_items v items).items ≡ items
items_written v items e = take_at items (drop (length items) v.items) v.len e

-- The fields after one word was laid back. `entry` says so place by place.
pub found_one : (k : ℕ) (word : List ℕ) (field next new new_next : Field) → k < 312 → length field.words ≡ 312
    → ((j : ℕ) → j < 207
    → get_or (new.known.items ++ new_next.known.items) (codeword_byte_place 52 4 (207 * k + j)) None
    ≡ Some (get_or word j 0)) → ((n : ℕ) → ((j : ℕ) → j < 207 → n ≢ codeword_byte_place 52 4 (207 * k + j))
    → get_or (new.known.items ++ new_next.known.items) n None ≡ get_or (field.known.items ++ next.known.items) n None)
    → new.words ≡ set field.words k true → new.knows_more ≡ true → IsKept field new
    → new_next.words ≡ next.words → new_next.knows_more ≡ (next.knows_more || not (is_complete (207 * 312) k))
    → IsKept next new_next → AreFound (only_code k (Some word)) field next new new_next
found_one k word field next new new_next l long laid others words more rest next_words next_more next_rest =
    grind (arith, length-set, word_set, has_one, behind_one, laid_entry)

-- ---- words that are sought one behind the other

pub sought_none : (bytes : List ℕ) (words : List Bool) (k : ℕ) → new_code bytes (take 0 words) k ≡ None
unfolding new_code
sought_none bytes words k = refl

sought_past : (bytes : List ℕ) (words : List Bool) (k i : ℕ) → k ≤ length words → k ≤ i
    → new_code bytes (take k words) i ≡ None
unfolding new_code
sought_past bytes words k i l m = grind (arith, get_or_past, length-take-le)

sought_within : (bytes : List ℕ) (words : List Bool) (k i : ℕ) → i < k
    → new_code bytes (take k words) i ≡ new_code bytes words i
unfolding new_code
sought_within bytes words k i l = ap (λ b. cond b None (known_word bytes i)) (get_or-take k words i true l)

other_word : (bytes : List ℕ) (words : List Bool) (k i : ℕ) → k < length words → i ≢ k
    → new_code bytes (take k words) i ≡ new_code bytes (take (k + 1) words) i
other_word bytes words k i l ne = grind (arith, cases_lt, sought_within, sought_past)

-- a word that isn't known yet is sought
pub sought_more : (bytes : List ℕ) (words : List Bool) (k : ℕ) → k < length words → get_or words k true ≡ false
    → (i : ℕ) → or_else (only_code k (known_word bytes k) i) (new_code bytes (take k words) i)
    ≡ new_code bytes (take (k + 1) words) i
unfolding new_code
sought_more bytes words k l unknown i =
    grind (arith, cases_eq, only_same, sought_past, sought_within, only_other, other_word)

-- a word that is known already is passed over
pub sought_same : (bytes : List ℕ) (words : List Bool) (k : ℕ) → k < length words → get_or words k true ≡ true
    → (i : ℕ) → new_code bytes (take k words) i ≡ new_code bytes (take (k + 1) words) i
unfolding new_code
sought_same bytes words k l known i = grind (arith, cases_eq, sought_past, sought_within, other_word)

-- a word is known where it was before, as long as it wasn't sought
own_word : (bytes : List ℕ) (k : ℕ) (a b p q : Field) → k < length a.words
    → AreFound (new_code bytes (take k a.words)) a b p q → get_or a.words k true ≡ get_or p.words k false
own_word bytes k a b p q l h = grind (arith, get_or_default, or_false, sought_past)

pub found_next : (bytes : List ℕ) (k : ℕ) (a b p q x y : Field) → k < length a.words
    → AreFound (new_code bytes (take k a.words)) a b p q → get_or p.words k false ≡ false
    → AreFound (only_code k (known_word bytes k)) p q x y → AreFound (new_code bytes (take (k + 1) a.words)) a b x y
found_next bytes k a b p q x y l h unknown one =
    found_twice (new_code bytes (take k a.words)) (only_code k (known_word bytes k))
    (new_code bytes (take (k + 1) a.words)) a b p q x y h one
    (sought_more bytes a.words k l (own_word bytes k a b p q l h ∙ unknown))

pub found_passed : (bytes : List ℕ) (k : ℕ) (a b p q : Field) → k < length a.words
    → AreFound (new_code bytes (take k a.words)) a b p q → get_or p.words k false ≡ true
    → AreFound (new_code bytes (take (k + 1) a.words)) a b p q
found_passed bytes k a b p q l h known =
    found_same (new_code bytes (take k a.words)) (new_code bytes (take (k + 1) a.words)) a b p q h
    (sought_same bytes a.words k l (own_word bytes k a b p q l h ∙ known))
